-- The lines below the one at hand are known; its main side is one of them.
use mathlib.Core.Path.{refl}
use native.Mathlib.Omega.{arith}
use borrow.Author.Tests.{lt-ltb, le-ltb}
use Rattle.tracer.proofs.ReachingLaws.{spreading-none, made-few, spreading-all, spreading-more}
use Rattle.tracer.specs.Lines.{main_side}
use Rattle.tracer.specs.Reaching.{marked}
use Rattle.tracer.proofs.reaching.spread.Goals as goal
use Rattle.tracer.proofs.reaching.spread.Goals.{else-reached-gt1, then-reached-gt1}

pub loop-line-init : goal.loop-line-init
loop-line-init c = spreading-none (marked c.args.passing.now) c.args.query.start c.args.query.count _ refl

pub reach_of-reached-requires : goal.reach_of-reached-requires
reach_of-reached-requires c =
    let at-loop = c.loop-line in
    omega (arith, at-loop.invariant.few (main_side at-loop.line))

pub overflow_add-arrivals : goal.overflow_add-arrivals
overflow_add-arrivals c = omega (arith, made-few c.loop-line.invariant)

pub loop-line-preserved : goal.loop-line-preserved
loop-line-preserved c =
    let walk = c.loop-line.invariant in
    let below = c.loop-line-test.true in
    let reached = c.reach_of-reached.ensures in
    elim c.if-reached-gt1.branch [
      | then-reached-gt1 w ↦ rw w.arrivals-is (spreading-more c.args.passing.now walk below reached (rw (lt-ltb 1 _ w.if-reached-gt1.true) refl))
      | else-reached-gt1 w ↦ rw w.arrivals-is (spreading-more c.args.passing.now walk below reached (rw (le-ltb 1 _ w.if-reached-gt1.false) (omega arith)))
    ]

pub returns : goal.returns
returns c = spreading-all c.loop-line.invariant c.loop-line-test.false
