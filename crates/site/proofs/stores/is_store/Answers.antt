-- The definition word for word.
use mathlib.Core.Path.{refl}
use Rattle.site.specs.Stores.{is_store}
use Rattle.site.proofs.stores.is_store.Goals as goal

pub returns : goal.returns
unfolding is_store
returns c = refl
