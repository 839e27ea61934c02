-- What the writer writes, read back, is M times 2 to the E; and what was read is written as a code of the same value.
use Prim.Native.Nat.{ℕ, zero, suc, ◌+◌, ◌-◌, ◌*◌, ◌/◌, ◌%◌, ◌^◌, ◌≤◌, ◌<◌}
use mathlib.Core.Bool.{Bool, true, false, ◌&&◌}
use mathlib.Core.Path.{◌≡◌, refl, sym, ap, ◌∙◌, subst}
use native.Mathlib.Nat.{mul_assoc, mul-le-mul_right}
use native.Mathlib.Omega.{arith}
use lib.Dec.{ltb, leb}
use lib.Pow.{pow_pos, pow-add}
use lib.IntN.{ℤ, pos, negsuc, neg_ℤ, ◌*ℤ◌}
use lib.Signed.{le_z}
use borrow.Author.Tests.{le-leb, lt-leb, leb-true, ltb-true, ltb-false}
use Rattle.leak.specs.Float.{mantissa_of, hundredths_of, exponent_of}
use Rattle.leak.specs.Writing.{nearest_to, nearest_m, fits_m, smallest_e, code_of, code_for}
use Rattle.leak.specs.Stages.{exponent_under}
use Rattle.leak.proofs.Codes.{mantissa-plus, mantissa-minus}
use Rattle.leak.proofs.Distance.{times-minus}
use Rattle.leak.proofs.NearestLaws.{nearest-exact}
use Rattle.leak.proofs.Smallest.{smallest-plus, smallest-minus, exponent-most, exponent-before, exponent-meets, plus-meets, minus_meets}

-- ---- the value of the code of M and E

value-plus : (m e : ℕ) → m ≤ 2047 → e ≤ 15 → hundredths_of (code_of (pos m) e) ≡ pos (m * 2 ^ e)
unfolding hundredths_of
value-plus m e h k =
    let x : (e * 2048 + m) / 2048 % 16 ≡ e = omega arith in
    let y : (e * 2048 + m) % 2048 ≡ m = omega arith in
    rw (mantissa-plus (e * 2048 + m) (omega arith), x, y)

value-minus : (m e : ℕ) → m ≤ 2047 → e ≤ 15 → hundredths_of (code_of (negsuc m) e) ≡ negsuc m *ℤ pos (2 ^ e)
unfolding hundredths_of
value-minus m e h k =
    let c : ℕ = 32768 + e * 2048 + (2047 - m) in
    let x : (32768 + e * 2048 + (2047 - m)) / 2048 % 16 ≡ e = omega arith in
    let y : 2047 - (32768 + e * 2048 + (2047 - m)) % 2048 ≡ m = omega arith in
    rw (mantissa-minus (32768 + e * 2048 + (2047 - m)) (omega arith) (omega arith), x, y)

fits-split : (a : Bool) → a && true ≡ true → a ≡ true
fits-split true e = refl
fits-split false e = e

-- "Its value is M times 2 to the E"
pub value-is : (m : ℤ) (e : ℕ) → fits_m m ≡ true → e ≤ 15 → hundredths_of (code_of m e) ≡ m *ℤ pos (2 ^ e)
value-is (pos m) e h k = value-plus m e (leb-true m 2047 h) k
value-is (negsuc m) e h k = value-minus m e (leb-true m 2047 (fits-split (leb m 2047) h)) k

-- ---- a number in range: the smallest E serves, and none below it does

pub record Reach (z : ℤ) : Type 0 where
  pub lower : le_z (negsuc 67108863) z ≡ true
  pub upper : le_z z (pos 67043328) ≡ true

fits-of : (q : ℕ) → q ≤ 2048 → fits_m (neg_ℤ (pos q)) ≡ true
fits-of zero h = refl
fits-of (suc q) h = rw (le-leb q 2047 (omega arith))

pub smallest-fits : (z : ℤ) → Reach z → fits_m (nearest_m z (smallest_e z)) ≡ true
smallest-fits (pos a) r = rw (smallest-plus a) (le-leb (nearest_to a (2 ^ exponent_under 2047 a)) 2047 (exponent-meets 2047 a (omega (arith, plus-meets a (leb-true a 67043328 r.upper)))))
smallest-fits (negsuc a) r =
    rw (smallest-minus a) (fits-of (nearest_to (suc a) (2 ^ exponent_under 2048 (suc a))) (exponent-meets 2048 (suc a) (minus_meets (suc a) (omega (arith, leb-true a 67108863 r.lower)))))

pub smallest-most : (z : ℤ) → smallest_e z ≤ 15
smallest-most (pos a) = rw (smallest-plus a) (exponent-most 2047 a)
smallest-most (negsuc a) = rw (smallest-minus a) (exponent-most 2048 (suc a))

not-of : (q : ℕ) → 2048 < q → fits_m (neg_ℤ (pos q)) ≡ false
not-of zero h = absurd (omega arith)
not-of (suc q) h = rw (lt-leb q 2047 (omega arith))

pub smallest-none : (z : ℤ) (e : ℕ) → e < smallest_e z → fits_m (nearest_m z e) ≡ false
smallest-none (pos a) e h = lt-leb (nearest_to a (2 ^ e)) 2047 (exponent-before 2047 a e (rw (smallest-plus a) at h))
smallest-none (negsuc a) e h = not-of (nearest_to (suc a) (2 ^ e)) (exponent-before 2048 (suc a) e (rw (smallest-minus a) at h))

pub written_is : (z : ℤ) → Reach z → hundredths_of (code_for z) ≡ nearest_m z (smallest_e z) *ℤ pos (2 ^ smallest_e z)
unfolding code_for
written_is z r = value-is (nearest_m z (smallest_e z)) (smallest_e z) (smallest-fits z r) (smallest-most z)

-- ---- what was read, written again, has the same value

-- a whole number of units of 2 to the e₀ that serves there: at the smallest exponent it is a whole number too
exact-under : (most q e₀ : ℕ) → q ≤ most → nearest_to (q * 2 ^ e₀) (2 ^ exponent_under most (q * 2 ^ e₀)) * 2 ^ exponent_under most (q * 2 ^ e₀) ≡ q * 2 ^ e₀
exact-under most q e₀ h = go (exponent_under most (q * 2 ^ e₀)) (no_more (ltb e₀ (exponent_under most (q * 2 ^ e₀))) refl)
  where
    no_more : (b : Bool) → ltb e₀ (exponent_under most (q * 2 ^ e₀)) ≡ b → exponent_under most (q * 2 ^ e₀) ≤ e₀
    no_more true p =
        let l = exponent-before most (q * 2 ^ e₀) e₀ (ltb-true e₀ (exponent_under most (q * 2 ^ e₀)) p) in
        let k : most < q = rw (nearest-exact q (2 ^ e₀) (pow_pos e₀)) at l in
        absurd (omega arith)
    no_more false p = ltb-false e₀ (exponent_under most (q * 2 ^ e₀)) p

    go : (e : ℕ) → e ≤ e₀ → nearest_to (q * 2 ^ e₀) (2 ^ e) * 2 ^ e ≡ q * 2 ^ e₀
    go e l =
        let s : e₀ ≡ (e₀ - e) + e = omega arith in
        let x : q * 2 ^ e₀ ≡ q * 2 ^ (e₀ - e) * 2 ^ e = ap (λ (n : ℕ). q * 2 ^ n) s ∙ ap (λ (n : ℕ). q * n) (pow-add 2 (e₀ - e) e) ∙ sym (mul_assoc q (2 ^ (e₀ - e)) (2 ^ e)) in
        ap (λ (n : ℕ). nearest_to n (2 ^ e) * 2 ^ e) x ∙ ap (λ (n : ℕ). n * 2 ^ e) (nearest-exact (q * 2 ^ (e₀ - e)) (2 ^ e) (pow_pos e)) ∙ sym x

neg_of : (n : ℕ) → 0 < n → neg_ℤ (pos n) ≡ negsuc (n - 1)
neg_of zero h = absurd (omega arith)
neg_of (suc n) h = ap negsuc (omega arith)

again-plus : (q e₀ : ℕ) → q ≤ 2047 → Reach (pos (q * 2 ^ e₀)) → hundredths_of (code_for (pos (q * 2 ^ e₀))) ≡ pos (q * 2 ^ e₀)
again-plus q e₀ h r = written_is (pos (q * 2 ^ e₀)) r ∙ rw (smallest-plus (q * 2 ^ e₀)) (ap pos (exact-under 2047 q e₀ h))

again-minus : (q e₀ a : ℕ) → suc q ≤ 2048 → suc q * 2 ^ e₀ ≡ suc a → Reach (negsuc a) → hundredths_of (code_for (negsuc a)) ≡ negsuc a
again-minus q e₀ a h s r =
    written_is (negsuc a) r ∙ rw (smallest-minus a) (times-minus (nearest_to (suc a) (2 ^ exponent_under 2048 (suc a))) (2 ^ exponent_under 2048 (suc a)) ∙ ap (λ (n : ℕ). neg_ℤ (pos n)) (same (suc a) s))
  where
    same : (n : ℕ) → suc q * 2 ^ e₀ ≡ n → nearest_to n (2 ^ exponent_under 2048 n) * 2 ^ exponent_under 2048 n ≡ n
    same n e = subst (λ (m : ℕ). nearest_to m (2 ^ exponent_under 2048 m) * 2 ^ exponent_under 2048 m ≡ m) e (exact-under 2048 (suc q) e₀ h)

-- M times 2 to the E in range, of an M that fits
pub again-is : (m : ℤ) (e : ℕ) → fits_m m ≡ true → Reach (m *ℤ pos (2 ^ e)) → hundredths_of (code_for (m *ℤ pos (2 ^ e))) ≡ m *ℤ pos (2 ^ e)
again-is (pos q) e h r = again-plus q e (leb-true q 2047 h) r
again-is (negsuc q) e h r =
    let p : 0 < 2 ^ e = pow_pos e in
    let n : 0 < suc q * 2 ^ e = omega (arith, mul-le-mul_right (2 ^ e) (one-le q)) in
    let z : neg_ℤ (pos (suc q * 2 ^ e)) ≡ negsuc (suc q * 2 ^ e - 1) = neg_of (suc q * 2 ^ e) n in
    ap (λ (x : ℤ). hundredths_of (code_for x)) z
    ∙ again-minus q e (suc q * 2 ^ e - 1) (omega (arith, leb-true q 2047 (fits-split (leb q 2047) h))) (omega arith) (subst Reach z r) ∙ sym z
  where
    one-le : (q : ℕ) → 1 ≤ suc q
    one-le q = omega arith

pub again : (c : ℕ) → fits_m (mantissa_of c) ≡ true → Reach (hundredths_of c) → hundredths_of (code_for (hundredths_of c)) ≡ hundredths_of c
unfolding hundredths_of
again c h r = again-is (mantissa_of c) (exponent_of c) h r
