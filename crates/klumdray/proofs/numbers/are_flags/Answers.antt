-- The definition's tests, in its order.
use mathlib.Core.Path.{refl}
use Rattle.klumdray.specs.Numbers.{are_flags}
use Rattle.klumdray.proofs.numbers.are_flags.Goals as goal

pub returns : goal.returns
unfolding are_flags
returns c = refl
