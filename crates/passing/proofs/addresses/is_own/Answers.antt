-- The definition's two tests, in its order.
use mathlib.Core.Path.{refl}
use Rattle.passing.specs.Passing.{is_own}
use Rattle.passing.proofs.addresses.is_own.Goals as goal

pub returns : goal.returns
unfolding is_own
returns c = rw (c.from.ensures) refl
