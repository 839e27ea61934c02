-- The sum of the definition, with the octet of flags that the call ensures.
use Rattle.klumdray.specs.Numbers.{meaning_number}
use Rattle.klumdray.proofs.numbers.of_meaning.Goals as goal

pub returns : goal.returns
unfolding meaning_number
returns c = rw c.flags_of-flags.ensures
