-- The size decides by itself, or what `asks_table` ensures.
use mathlib.Core.Path.{refl}
use borrow.Author.Tests.{eq-eqb, ne_eqb}
use Rattle.passing.specs.Settings.{table_fits}
use Rattle.passing.proofs.settings.table_fits.Goals as goal

pub returns-then-size-eq8192 : goal.returns-then-size-eq8192
unfolding table_fits
returns-then-size-eq8192 c = rw (eq-eqb c.args.size 8192 c.if-size-eq8192.true) refl

pub returns-else-size-eq8192 : goal.returns-else-size-eq8192
unfolding table_fits
returns-else-size-eq8192 c = rw (ne_eqb c.args.size 8192 c.if-size-eq8192.false, c.asks_table.ensures) refl
