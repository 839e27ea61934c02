-- A stopped telegram stays stopped; one that is going goes on if the coupler lets it pass.
use mathlib.Core.Path.{◌∙◌}
use Rattle.frame.proofs.HandedOn.{handed-on}
use Rattle.site.proofs.StartLaws.{noted-passage}
use Rattle.site.specs.Stores.{stores_in}
use Rattle.tracer.proofs.WalkingLaws.{same-passes, hand-stopped, hand-goes, hand-stops}
use Rattle.tracer.proofs.asked.Asked.hand_on.Goals as goal

pub returns-in_err-count : goal.returns-in_err-count
returns-in_err-count c = handed-on c.from_residual.result c.from_residual.ensures.1 ∙ hand-stopped _ _ c.args.self.now.query _ _ c.in_err-count.was

pub returns-then-eq : goal.returns-then-eq
returns-then-eq c =
    let a = c.args in
    let q = a.self.now.query in
    let st = stores_in a.self.now.site.now.stores in
    let reason = (rw (c.address-address.ensures.0, c.address-address.ensures.1) at c.why_not-reason.ensures) ∙ noted-passage a.self.now.noted st q.kind q.destination a.direction a.coupler _ c.ranges.coupler.fits in
    hand-goes _ _ q _ _ c.in_ok-count.was reason (c.eq.ensures ∙ same-passes c.why_not-reason.result) c.if-eq.true c.hopped.ensures

pub returns : goal.returns
returns c =
    let a = c.args in
    let q = a.self.now.query in
    let st = stores_in a.self.now.site.now.stores in
    let reason = (rw (c.address-address.ensures.0, c.address-address.ensures.1) at c.why_not-reason.ensures) ∙ noted-passage a.self.now.noted st q.kind q.destination a.direction a.coupler _ c.ranges.coupler.fits in
    hand-stops _ _ q _ _ c.in_ok-count.was reason (c.eq.ensures ∙ same-passes c.why_not-reason.result) c.if-eq.false
