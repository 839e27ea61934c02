-- The marks, the way over them and the list of the lines reached, one after the other.
use Prim.Native.Nat.{◌<◌}
use native.Mathlib.Omega.{arith}
use Rattle.site.proofs.StartLaws.{noted-letting}
use Rattle.site.specs.Stores.{stores_in}
use Rattle.tracer.proofs.ListedBy.{listed_by}
use Rattle.tracer.proofs.asked.Asked.list.Goals as goal

pub returns : goal.returns
returns c =
    let a = c.args in
    let st = stores_in a.self.site.now.stores in
    let small : a.self.query.start < 256 = omega (arith, c.well_formed.0) in
    let marks = noted-letting a.self.noted st a.self.query.kind a.self.query.destination (rw (c.address.ensures.0, c.address.ensures.1) at c.letting-passing.ensures) in
    listed_by st a.self.site.now.records.now a.self.query small marks c.spread-arrivals.ensures c.list-lines.ensures
