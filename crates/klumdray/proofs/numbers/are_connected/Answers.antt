-- The definition's tests, in its order.
use mathlib.Core.Path.{refl}
use Rattle.klumdray.specs.Numbers.{are_connected}
use Rattle.klumdray.proofs.numbers.are_connected.Goals as goal

pub returns : goal.returns
unfolding are_connected
returns c = refl
