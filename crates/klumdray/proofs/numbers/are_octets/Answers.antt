-- The definition's tests, in its order.
use mathlib.Core.Path.{refl}
use Rattle.klumdray.specs.Numbers.{are_octets}
use Rattle.klumdray.proofs.numbers.are_octets.Goals as goal

pub returns : goal.returns
unfolding are_octets
returns c = refl
