-- What a coupler makes of a telegram, as a number.
use Rattle.std.specs.Prelude.{ℕ}
use Rattle.passing.specs.declared.Passage.TheVariants.{Passes, NotFitted, OwnAddress, Closed, NotBelow, NotAbove, NotInTable, UsedUp}
use Rattle.passing.specs.declared.Passage.{Passage}

-- "no coupler fitted; its own address; the code is closed; code 1 and not below / not above; code 1 and not in its table; the count is used up"
abbrev pub passage_number : Passage → ℕ
passage_number Passes = 0
passage_number NotFitted = 1
passage_number OwnAddress = 2
passage_number Closed = 3
passage_number NotBelow = 4
passage_number NotAbove = 5
passage_number NotInTable = 6
passage_number UsedUp = 7
