-- Both stores by the one test.
use mathlib.Core.Path.{refl}
use Rattle.site.specs.Stores.{are_stores}
use Rattle.site.proofs.stores.Stores.are_stores.Goals as goal

pub returns : goal.returns
unfolding are_stores
returns c = rw (c.is_store.ensures, c.is_store-2.ensures) refl
