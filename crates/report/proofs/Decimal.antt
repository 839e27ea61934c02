-- Decimal numbers: the last digit and the digits of the tenth before it; read from left to right they give the number back, and the first
-- of several is not 0.
use Prim.Native.Nat.{ℕ, zero, suc, ◌/◌, ◌%◌, ◌≤◌, ◌<◌}
use mathlib.Core.Bool.{Bool, true, false, cond}
use mathlib.Core.List.{List, ◌++◌}
use mathlib.Core.Path.{◌≡◌, refl, ap}
use native.Mathlib.Omega.{arith}
use lib.Dec.{ltb}
use borrow.Author.Tests.{ltb-false, lt-ltb, le-ltb}
use Rattle.report.specs.Text.{digit, decimal_by, decimal}

decimal-by : (k j n : ℕ) → n < k → n < j → decimal_by k n ≡ decimal_by j n
decimal-by zero j n h g = absurd (omega arith)
decimal-by (suc k) zero n h g = absurd (omega arith)
decimal-by (suc k) (suc j) n h g = go (decimal-by k j (n / 10)) (ltb n 10) refl
  where
    go : (n / 10 < k → n / 10 < j → decimal_by k (n / 10) ≡ decimal_by j (n / 10)) → (b : Bool) → ltb n 10 ≡ b → cond b (digit n) (decimal_by k (n / 10) ++ digit (n % 10)) ≡ cond b (digit n) (decimal_by j (n / 10) ++ digit (n % 10))
    go ih true e = refl
    go ih false e =
        let l : 10 ≤ n = ltb-false n 10 e in
        ap (λ (s : List ℕ). s ++ digit (n % 10)) (ih (omega arith) (omega arith))

pub decimal-one : (n : ℕ) → n < 10 → decimal n ≡ digit (n % 10)
unfolding decimal
decimal-one n h = let e : n % 10 ≡ n = omega arith in rw (lt-ltb n 10 h, e)

pub decimal-more : (n : ℕ) → 10 ≤ n → decimal n ≡ decimal (n / 10) ++ digit (n % 10)
unfolding decimal
decimal-more n h = rw (le-ltb n 10 h) (ap (λ (s : List ℕ). s ++ digit (n % 10)) (decimal-by n (suc (n / 10)) (n / 10) (omega arith) (omega arith)))
