-- The loop keeps that the first exponent which serves, from the one at hand on, is the one wanted: found here (`under_here`), further on
-- (`under_next`), or the last (`under_last`).
use Prim.Native.Nat.{◌-◌}
use mathlib.Core.Path.{◌≡◌}
use Rattle.leak.specs.Stages.{first_under, exponent_under}
use Rattle.leak.proofs.writing.exponent_under.Given as goal

abbrev pub invariant-loop-exponent : goal.invariant-loop-exponent
invariant-loop-exponent l = first_under l.most (15 - l.exponent) l.exponent l.size ≡ exponent_under l.most l.size
