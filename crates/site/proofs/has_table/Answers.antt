-- FFh asks the codes, every other number the table's size.
use mathlib.Core.Path.{refl}
use borrow.Author.Tests.{eq-eqb, ne_eqb}
use Rattle.site.specs.WellFormed.{has_table}
use Rattle.site.proofs.has_table.Goals as goal

pub returns-then-number : goal.returns-then-number
unfolding has_table
returns-then-number c =
    rw (← c.table_number-number.ensures, eq-eqb _ _ c.if-number.true, ← c.codes_of.ensures, c.asks_table.ensures) refl

pub returns-else-number : goal.returns-else-number
unfolding has_table
returns-else-number c = rw (← c.table_number-number.ensures, ne_eqb _ _ c.if-number.false, c.table_of.ensures.table.holds) refl
