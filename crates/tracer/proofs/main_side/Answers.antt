-- The test of the low four bits is the definition's own.
use borrow.Author.Tests.{eq-eqb, ne_eqb}
use Rattle.tracer.specs.Lines.{main_side}
use Rattle.tracer.proofs.main_side.Goals as goal

pub returns-then-line-eq0 : goal.returns-then-line-eq0
unfolding main_side
returns-then-line-eq0 c = rw (eq-eqb _ _ c.if-line-eq0.true)

pub returns-else-line-eq0 : goal.returns-else-line-eq0
unfolding main_side
returns-else-line-eq0 c = rw (ne_eqb _ _ c.if-line-eq0.false)
