-- The definition's tests, in its order.
use mathlib.Core.Path.{refl}
use Rattle.klumdray.specs.Numbers.{are_marks}
use Rattle.klumdray.proofs.numbers.are_marks.Goals as goal

pub returns : goal.returns
unfolding are_marks
returns c = refl
