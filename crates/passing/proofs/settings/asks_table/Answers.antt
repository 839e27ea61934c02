-- The definition's four tests, in its order.
use mathlib.Core.Path.{refl}
use Rattle.passing.specs.Settings.{asks_table}
use Rattle.passing.proofs.settings.asks_table.Goals as goal

pub returns : goal.returns
unfolding asks_table
returns c = refl
