-- Each arm settles the direction.
use borrow.Author.Tests.{eq-eqb, ne_eqb}
use Rattle.passing.specs.Passing.{is_onward}
use Rattle.passing.proofs.addresses.is_onward.Goals as goal

pub returns-then-direction-eq0 : goal.returns-then-direction-eq0
unfolding is_onward
returns-then-direction-eq0 c = rw (eq-eqb _ _ c.if-direction-eq0.true) c.is_below-below.ensures

pub returns-else-direction-eq0 : goal.returns-else-direction-eq0
unfolding is_onward
returns-else-direction-eq0 c = rw (ne_eqb _ _ c.if-direction-eq0.false, c.is_below-below.ensures)
