-- For contracts of private functions: the smallest E by the size alone, where the largest M of its sign is `most`.
use Rattle.std.specs.Prelude.{ℕ, zero, suc, ◌^◌, cond, leb}
use Rattle.leak.specs.Writing.{nearest_to}

abbrev pub first_under : ℕ → ℕ → ℕ → ℕ → ℕ
first_under most zero e size = e
first_under most (suc k) e size = cond (leb (nearest_to size (2 ^ e)) most) e (first_under most k (suc e) size)

unfoldable pub exponent_under : ℕ → ℕ → ℕ
exponent_under most size = first_under most 15 0 size
