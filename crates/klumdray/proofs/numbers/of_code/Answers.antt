-- Each arm settles the tests of the definition that led there.
use borrow.Author.Tests.{eq-eqb, ne_eqb}
use Rattle.klumdray.specs.Numbers.{code_number}
use Rattle.klumdray.proofs.numbers.of_code.Goals as goal

pub returns-then-code-eq17 : goal.returns-then-code-eq17
unfolding code_number
returns-then-code-eq17 c = rw (eq-eqb _ _ c.if-code-eq17.true)

pub returns-then-code-eq46 : goal.returns-then-code-eq46
unfolding code_number
returns-then-code-eq46 c = rw (ne_eqb _ _ c.if-code-eq17.false, eq-eqb _ _ c.if-code-eq46.true)

pub returns-then-code-eq41 : goal.returns-then-code-eq41
unfolding code_number
returns-then-code-eq41 c = rw (ne_eqb _ _ c.if-code-eq17.false, ne_eqb _ _ c.if-code-eq46.false, eq-eqb _ _ c.if-code-eq41.true)

pub returns-else-code-eq41 : goal.returns-else-code-eq41
unfolding code_number
returns-else-code-eq41 c = rw (ne_eqb _ _ c.if-code-eq17.false, ne_eqb _ _ c.if-code-eq46.false, ne_eqb _ _ c.if-code-eq41.false)
