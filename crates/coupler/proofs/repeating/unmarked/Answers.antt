-- The mask takes bit 5 away, of every octet.
use Prim.Native.Nat.{ℕ, ◌-◌, ◌*◌, ◌/◌, ◌%◌}
use mathlib.Core.Path.{refl}
use lib.Bits.{bit_and}
use lib.Dec.{eqb}
use borrow.Author.Tests.{eqb-true}
use Rattle.octets.proofs.Below.{at-below}
use Rattle.coupler.specs.Memory.{unmarked}
use Rattle.coupler.proofs.repeating.unmarked.Goals as goal

pub returns : goal.returns
unfolding unmarked
returns c = eqb-true _ _ (at-below (λ (n : ℕ). eqb (bit_and n 223) (n - n / 32 % 2 * 32)) 256 c.args.control refl c.ranges.control.fits)
