-- Each arm settles whether the line is an area's.
use borrow.Author.Tests.{eq-eqb, ne_eqb}
use Rattle.passing.specs.Passing.{is_below}
use Rattle.passing.proofs.addresses.is_below.Goals as goal

pub returns-then-line-eq0 : goal.returns-then-line-eq0
unfolding is_below
returns-then-line-eq0 c = rw (eq-eqb _ _ c.if-line-eq0.true)

pub returns-else-line-eq0 : goal.returns-else-line-eq0
unfolding is_below
returns-else-line-eq0 c = rw (ne_eqb _ _ c.if-line-eq0.false)
