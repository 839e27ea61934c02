-- The definition's tests, in its order.
use mathlib.Core.Path.{refl}
use Rattle.klumdray.specs.Numbers.{are_words}
use Rattle.klumdray.proofs.numbers.are_words.Goals as goal

pub returns : goal.returns
unfolding are_words
returns c = refl
