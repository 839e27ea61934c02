-- As many fours of each half as there were turns are in the number; at the end the halves meet.
use Prim.Native.Nat.{◌*◌}
use mathlib.Core.Path.{◌≡◌}
use lib.Bits.{bit_xor}
use Rattle.octets.proofs.Fours.{lanes, among}
use Rattle.octets.proofs.of_fours.Given as goal

abbrev pub invariant-loop-turn : goal.invariant-loop-turn
invariant-loop-turn l = lanes l.all ≡ bit_xor (among (l.turn * 4) 0 l.octets) (among (l.turn * 4) l.half l.octets)
