-- A frame has at least eight octets.
use Prim.Native.Nat.{ℕ, ◌+◌, ◌%◌, ◌≤◌}
use mathlib.Core.Bool.{Bool, true, false, cond}
use mathlib.Core.List.{List}
use native.Mathlib.Omega.{arith}
use Rattle.octets.specs.Octets.{octet_at}
use Rattle.tp1.specs.Reading.{is_extended, frame_size}

pub size-least : (s : List ℕ) → 8 ≤ frame_size s
unfolding frame_size
size-least s = go (is_extended s)
  where
    go : (b : Bool) → 8 ≤ cond b (9 + octet_at s 6) (8 + octet_at s 5 % 16)
    go true = omega arith
    go false = omega arith
