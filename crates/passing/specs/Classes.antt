-- The class of an address as its number, which is the column of its codes: for the contracts of private functions. No public contract rests
-- on this definition.
use Rattle.std.specs.Prelude.{ℕ}
use Rattle.passing.specs.declared.addresses.Class.TheVariants.{Individual, Broadcast, Lower, Upper}
use Rattle.passing.specs.declared.addresses.Class.{Class}

abbrev pub class_number : Class → ℕ
class_number Individual = 0
class_number Broadcast = 1
class_number Lower = 2
class_number Upper = 3
