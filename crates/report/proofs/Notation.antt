-- What makes a text a number's decimal notation, said without making one: only digits, the number again when they are read from left to
-- right, and no 0 before others.
use Prim.Native.Nat.{ℕ, zero, suc, ◌+◌, ◌-◌, ◌*◌, ◌/◌, ◌%◌, ◌≤◌, ◌<◌}
use mathlib.Core.Bool.{Bool, true, false}
use mathlib.Core.List.{List, [], ◌∷◌, ◌++◌}
use mathlib.Core.Path.{◌≡◌, refl, ◌∙◌}
use native.Mathlib.Omega.{arith}
use lib.Dec.{ltb}
use borrow.Author.Tests.{ltb-true, ltb-false}
use Rattle.octets.specs.Octets.{octet_at}
use Rattle.report.proofs.Decimal.{decimal-one, decimal-more}
use Rattle.report.specs.Text.{digit, decimal}

abbrev pub value : ℕ → List ℕ → ℕ
value x [] = x
value x (c ∷ s) = value (x * 10 + (c - 0x30)) s

abbrev pub Digits : List ℕ → Type 0
Digits [] = Unit {0}
Digits (c ∷ s) = ((0x30 ≤ c) × (c ≤ 0x39)) × Digits s

pub record IsDecimal (n : ℕ) (s : List ℕ) : Type 0 where
  pub digits : Digits s
  pub reads : value 0 s ≡ n
  pub first : 1 ≤ n → 0x31 ≤ octet_at s 0

value-append : (x : ℕ) (s t : List ℕ) → value x (s ++ t) ≡ value (value x s) t
value-append x [] t = refl
value-append x (c ∷ s) t = value-append (x * 10 + (c - 0x30)) s t

digits_append : (s t : List ℕ) → Digits s → Digits t → Digits (s ++ t)
digits_append [] t a b = b
digits_append (c ∷ s) t a b = (a.0, digits_append s t a.1 b)

first-append : (s t : List ℕ) → 0x31 ≤ octet_at s 0 → 0x31 ≤ octet_at (s ++ t) 0
first-append [] t h = absurd (omega arith)
first-append (c ∷ s) t h = h

one : (n : ℕ) → n < 10 → IsDecimal n (decimal n)
one n h = rw (decimal-one n h) (record { digits = ((omega arith, omega arith), tt); reads = omega arith; first = λ k. omega arith })

more : (n : ℕ) → 10 ≤ n → IsDecimal (n / 10) (decimal (n / 10)) → IsDecimal n (decimal n)
more n h x =
    let s = decimal (n / 10) in
    let t = digit (n % 10) in
    let e : value 0 s ≡ n / 10 = x.reads in
    rw (decimal-more n h)
    (record {
      digits = digits_append s t x.digits ((omega arith, omega arith), tt);
      reads = value-append 0 s t ∙ rw e (omega arith);
      first = λ k. first-append s t (x.first (omega arith));
    })

notation-by : (k n : ℕ) → n < k → IsDecimal n (decimal n)
notation-by zero n h = absurd (omega arith)
notation-by (suc k) n h = go (notation-by k (n / 10)) (ltb n 10) refl
  where
    go : (n / 10 < k → IsDecimal (n / 10) (decimal (n / 10))) → (b : Bool) → ltb n 10 ≡ b → IsDecimal n (decimal n)
    go ih true e = one n (ltb-true n 10 e)
    go ih false e = let l : 10 ≤ n = ltb-false n 10 e in more n l (ih (omega arith))

pub is-decimal : (n : ℕ) → IsDecimal n (decimal n)
is-decimal n = notation-by (suc n) n (omega arith)
