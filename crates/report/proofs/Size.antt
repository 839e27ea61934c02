-- How long a report can be: a number's digits by its size, a line's octets, and ten octets of text for each octet of a list.
use Prim.Native.Nat.{ℕ, zero, suc, ◌+◌, ◌*◌, ◌/◌, ◌%◌, ◌^◌, ◌≤◌, ◌<◌}
use mathlib.Core.Bool.{Bool, true, false}
use mathlib.Core.List.{List, [], ◌∷◌}
use mathlib.Core.Path.{◌≡◌, refl}
use native.Mathlib.Omega.{arith}
use lib.Dec.{ltb}
use lib.ListN.{length, length-append}
use borrow.Author.Tests.{ltb-true, ltb-false}
use Rattle.octets.specs.Octets.{Octets}
use Rattle.report.proofs.Decimal.{decimal-one, decimal-more}
use Rattle.report.specs.Ascii.{ascii}
use Rattle.report.specs.Text.{decimal, told, told_line, line_text, list_text}

length-decimal : (k n : ℕ) → n < 10 ^ (suc k) → length (decimal n) ≤ suc k
length-decimal zero n h = rw (decimal-one n h) (omega arith)
length-decimal (suc k) n h = go (length-decimal k (n / 10)) (ltb n 10) refl
  where
    go : (n / 10 < 10 ^ (suc k) → length (decimal (n / 10)) ≤ suc k) → (b : Bool) → ltb n 10 ≡ b → length (decimal n) ≤ suc (suc k)
    go ih true e = rw (decimal-one n (ltb-true n 10 e)) (omega arith)
    go ih false e = rw (decimal-more n (ltb-false n 10 e), length-append) (omega (arith, ih (omega arith)))

length-told : (word : List ℕ) (k n : ℕ) → n < 10 ^ (suc k) → length (told word n) ≤ length word + suc k
unfolding told
length-told word k n h = rw length-append (omega (arith, length-decimal k n h))

pub length-told-line : (word : List ℕ) (k n : ℕ) → n < 10 ^ (suc k) → length (told_line word n) ≤ length word + suc k + 1
unfolding told_line
length-told-line word k n h = rw length-append (omega (arith, length-told word k n h))

length-line : (line count crossed : ℕ) → line < 256 → count < 256 → crossed < 256 → length (line_text line count crossed) ≤ 28
unfolding line_text
length-line line count crossed a b c =
    rw (length-append, length-append, length-append, length-append)
    (omega (
      arith,
      length-decimal 1 (line / 16) (omega arith),
      length-told (ascii ".") 1 (line % 16) (omega arith),
      length-told (ascii " count ") 2 count (omega arith),
      length-told (ascii " crossed ") 2 crossed (omega arith),
    ))

pub length-list : (s : List ℕ) → Octets s → length (list_text s) ≤ length s * 10
length-list [] o = omega arith
length-list (a ∷ []) o = omega arith
length-list (a ∷ b ∷ []) o = omega arith
length-list (a ∷ b ∷ c ∷ s) o =
    rw length-append (omega (arith, length-line a b c (o 0) (o 1) (o 2), length-list s (λ i. o (suc (suc (suc i))))))
