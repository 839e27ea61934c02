-- The sum of the definition, with the bits that the calls ensure.
use Rattle.klumdray.specs.Numbers.{flags_of}
use Rattle.klumdray.proofs.numbers.flags_of.Goals as goal

pub returns : goal.returns
unfolding flags_of
returns c = rw (c.flag.ensures, c.flag-2.ensures, c.flag-3.ensures)
