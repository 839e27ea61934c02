-- As many fours as there were turns are compared.
use Prim.Native.Nat.{◌*◌}
use mathlib.Core.Path.{◌≡◌}
use Rattle.octets.proofs.Same.{alike}
use Rattle.octets.proofs.same_fours.Given as goal

abbrev pub invariant-loop-turn : goal.invariant-loop-turn
invariant-loop-turn l = l.same ≡ alike (l.turn * 4) 0 l.one l.other
