-- Each call is of the main side, which lies one less deep; the way down is the way to there and one coupler.
use mathlib.Core.Path.{sym, ◌∙◌}
use native.Mathlib.Omega.{arith}
use Rattle.tracer.proofs.ReachingLaws.{less-deep}
use Rattle.tracer.proofs.WalkingLaws.{not-zero, down-joined, down-more}
use Rattle.tracer.proofs.asked.Asked.+walk_down.Goals as goal

pub returns-then-is_above : goal.returns-then-is_above
returns-then-is_above t c = down-joined _ _ c.args.self.now.query _ _ _ c.is_above.ensures c.if-is_above.true

pub walk_down-main-requires : goal.walk_down-main-requires
walk_down-main-requires t c =
    (omega (arith, less-deep (not-zero _ _ (sym c.is_above.ensures ∙ c.if-is_above.false)) c.main_side.ensures, c.decreases), c.requires)

pub returns : goal.returns
returns t c =
    down-more _ _ c.args.self.now.query _ _ _ c.is_above.ensures c.if-is_above.false c.main_side.ensures c.walk_down-main.ensures c.hand_on.ensures
