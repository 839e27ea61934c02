-- Each call is of the main side, which lies one less deep; the way up is one coupler and the rest.
use mathlib.Core.Path.{sym, ◌∙◌}
use native.Mathlib.Omega.{arith}
use Rattle.tracer.proofs.ReachingLaws.{less-deep}
use Rattle.tracer.proofs.WalkingLaws.{not-zero, up-joined, up_more}
use Rattle.tracer.proofs.asked.Asked.+walk_up.Goals as goal

pub returns-then-is_above : goal.returns-then-is_above
returns-then-is_above t c = up-joined _ _ c.args.self.now.query _ _ _ c.is_above.ensures c.if-is_above.true

pub walk_up-requires : goal.walk_up-requires
walk_up-requires t c =
    (omega (arith, less-deep (not-zero _ _ (sym c.is_above.ensures ∙ c.if-is_above.false)) c.main_side.ensures, c.decreases), c.requires)

pub returns : goal.returns
returns t c =
    up_more _ _ c.args.self.now.query _ _ _ c.is_above.ensures c.if-is_above.false c.hand_on-next.ensures c.main_side.ensures c.walk_up.ensures
