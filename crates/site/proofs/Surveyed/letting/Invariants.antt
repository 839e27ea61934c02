-- The loop's law `MarkedBelow`: the lines below the one at hand are marked, each by its record.
use Rattle.site.proofs.LettingLaws.{MarkedBelow}
use Rattle.site.specs.Letting.{line_lets_pass_by}
use Rattle.site.specs.Stores.{stores_in}
use Rattle.site.proofs.Surveyed.letting.Given as goal

abbrev pub invariant-loop-line : goal.invariant-loop-line
invariant-loop-line l =
    let s = l.fn.self in
    MarkedBelow (line_lets_pass_by (stores_in s.stores) l.fn.address.kind l.fn.address.destination s.records.now s.starts) l.marks l.line
