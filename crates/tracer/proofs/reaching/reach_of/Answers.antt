-- On the way up the climb says it, elsewhere the coupler above the line.
use mathlib.Core.Path.{sym, ◌∙◌}
use native.Mathlib.Omega.{arith}
use Rattle.tracer.proofs.Paths.{depth-two}
use Rattle.tracer.specs.Reaching.{reach_by}
use Rattle.tracer.proofs.reaching.reach_of.Goals as goal

pub climb-requires : goal.climb-requires
climb-requires c = (sym c.is_above.ensures ∙ c.if-is_above.true, omega (arith, depth-two c.args.query.start))

pub returns-then-is_above : goal.returns-then-is_above
unfolding reach_by
returns-then-is_above c = rw (sym c.is_above.ensures ∙ c.if-is_above.true) c.climb.ensures

pub hand-requires : goal.hand-requires
hand-requires c = rw c.main_side-main.ensures c.requires

pub returns : goal.returns
unfolding reach_by
returns c =
    rw (sym c.is_above.ensures ∙ c.if-is_above.false, ← c.main_side-main.ensures) c.hand.ensures
