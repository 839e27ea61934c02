-- The smallest E: it is the first that serves, it is at most 15, and with a size in range it serves. By the size alone, and of a signed number.
use Prim.Native.Nat.{ℕ, zero, suc, ◌+◌, ◌-◌, ◌*◌, ◌^◌, ◌≤◌, ◌<◌}
use mathlib.Core.Bool.{Bool, true, false, cond, ◌&&◌}
use mathlib.Core.Path.{◌≡◌, refl, ap, subst}
use native.Mathlib.Nat.{add-zero, mul-le-mul_right}
use native.Mathlib.Numerals.{add-one}
use native.Mathlib.Omega.{arith}
use lib.Dec.{leb, eqb}
use lib.Pow.{pow_pos}
use lib.IntN.{pos, negsuc, neg_ℤ}
use borrow.Author.Tests.{le-leb, lt-leb, leb-true, leb-false, eqb-true, eqb-false}
use Rattle.leak.specs.Writing.{nearest_to, fits_m, first_e, smallest_e, code_of, code_for}
use Rattle.leak.specs.Stages.{first_under, exponent_under}
use Rattle.leak.proofs.NearestLaws.{nearest-near}

module _ (most a : ℕ) where
  -- one exponent tried, for the loop
  pub under_here : (e x : ℕ) → e < 15 → first_under most (15 - e) e a ≡ x → nearest_to a (2 ^ e) ≤ most → e ≡ x
  under_here e x h p k =
      let n : 15 - e ≡ suc (14 - e) = omega arith in
      rw (n, le-leb (nearest_to a (2 ^ e)) most k) at p

  pub under_next : (e x : ℕ) → first_under most (15 - e) e a ≡ x → e < 15 → most < nearest_to a (2 ^ e) → first_under most (15 - (e + 1)) (e + 1) a ≡ x
  under_next e x p h k =
      let n : 15 - e ≡ suc (15 - suc e) = omega arith in
      rw add-one (rw (n, lt-leb (nearest_to a (2 ^ e)) most k) at p)

  under-most : (k e : ℕ) → first_under most k e a ≤ e + k
  under-most zero e = omega arith
  under-most (suc k) e = go (leb (nearest_to a (2 ^ e)) most) (under-most k (suc e))
    where
      go : (b : Bool) → first_under most k (suc e) a ≤ suc e + k → cond b e (first_under most k (suc e) a) ≤ e + suc k
      go true h = omega arith
      go false h = omega arith

  -- what the last of those tried meets, the first that is taken meets
  under-meets : (k e : ℕ) → nearest_to a (2 ^ (e + k)) ≤ most → nearest_to a (2 ^ first_under most k e a) ≤ most
  under-meets zero e h = rw add-zero at h
  under-meets (suc k) e h =
      let n : e + suc k ≡ suc e + k = omega arith in
      go (leb (nearest_to a (2 ^ e)) most) refl (under-meets k (suc e) (rw n at h))
    where
      go : (b : Bool) → leb (nearest_to a (2 ^ e)) most ≡ b → nearest_to a (2 ^ first_under most k (suc e) a) ≤ most
          → nearest_to a (2 ^ cond b e (first_under most k (suc e) a)) ≤ most
      go true q ih = leb-true (nearest_to a (2 ^ e)) most q
      go false q ih = ih

  -- none before it serves
  under-before : (k e j : ℕ) → e ≤ j → j < first_under most k e a → most < nearest_to a (2 ^ j)
  under-before zero e j h l = absurd (omega arith)
  under-before (suc k) e j h l = go (leb (nearest_to a (2 ^ e)) most) refl l (eqb e j) refl (under-before k (suc e) j)
    where
      go : (b : Bool) → leb (nearest_to a (2 ^ e)) most ≡ b → j < cond b e (first_under most k (suc e) a) → (d : Bool) → eqb e j ≡ d
          → (suc e ≤ j → j < first_under most k (suc e) a → most < nearest_to a (2 ^ j)) → most < nearest_to a (2 ^ j)
      go true q l d r ih = absurd (omega arith)
      go false q l true r ih = subst (λ (i : ℕ). most < nearest_to a (2 ^ i)) (eqb-true e j r) (leb-false (nearest_to a (2 ^ e)) most q)
      go false q l false r ih = let n : e ≡ j → ⊥ = eqb-false e j r in ih (omega (arith, n)) l

  pub exponent-most : exponent_under most a ≤ 15
  unfolding exponent_under
  exponent-most = under-most 15 0

  pub exponent-before : (j : ℕ) → j < exponent_under most a → most < nearest_to a (2 ^ j)
  unfolding exponent_under
  exponent-before j l = under-before 15 0 j (omega arith) l

  pub exponent-meets : nearest_to a 32768 ≤ most → nearest_to a (2 ^ exponent_under most a) ≤ most
  unfolding exponent_under
  exponent-meets h = under-meets 15 0 h

-- at 15 every size of the range serves
pub plus-meets : (a : ℕ) → a ≤ 67043328 → nearest_to a 32768 ≤ 2046
plus-meets a h = let n = nearest-near a 32768 (omega arith) in omega (arith, n.above)

pub minus_meets : (a : ℕ) → a ≤ 67108864 → nearest_to a 32768 ≤ 2048
minus_meets a h = let n = nearest-near a 32768 (omega arith) in omega (arith, n.above)

-- the definition on signed numbers is the one by the size
fits-minus : (q : ℕ) → fits_m (neg_ℤ (pos q)) ≡ leb q 2048
fits-minus zero = refl
fits-minus (suc q) = go (leb q 2047) refl
  where
    go : (b : Bool) → leb q 2047 ≡ b → leb q 2047 && true ≡ leb (suc q) 2048
    go true e = rw (e, le-leb (suc q) 2048 (omega (arith, leb-true q 2047 e)))
    go false e = rw (e, lt-leb (suc q) 2048 (omega (arith, leb-false q 2047 e)))

first-plus : (k e a : ℕ) → first_e k e (pos a) ≡ first_under 2047 k e a
first-plus zero e a = refl
first-plus (suc k) e a = ap (cond (leb (nearest_to a (2 ^ e)) 2047) e) (first-plus k (suc e) a)

first-minus : (k e a : ℕ) → first_e k e (negsuc a) ≡ first_under 2048 k e (suc a)
first-minus zero e a = refl
first-minus (suc k) e a = rw (fits-minus (nearest_to (suc a) (2 ^ e))) (ap (cond (leb (nearest_to (suc a) (2 ^ e)) 2048) e) (first-minus k (suc e) a))

pub smallest-plus : (a : ℕ) → smallest_e (pos a) ≡ exponent_under 2047 a
unfolding smallest_e exponent_under
smallest-plus a = first-plus 15 0 a

pub smallest-minus : (a : ℕ) → smallest_e (negsuc a) ≡ exponent_under 2048 (suc a)
unfolding smallest_e exponent_under
smallest-minus a = first-minus 15 0 a

-- a size that is not 0 has a nearest M that is not 0
module _ (most a : ℕ) (h : 0 < most) (g : 0 < a) where
  at_zero : (e : ℕ) → e ≡ exponent_under most a → (nearest_to a (2 ^ e) ≡ 0 → ⊥)
  at_zero zero p z = let n = nearest-near a 1 (omega arith) in omega (arith, n.below)
  at_zero (suc e) p z =
      let k : e < exponent_under most a = omega arith in
      let l : most < nearest_to a (2 ^ e) = exponent-before most a e k in
      let b : 0 < 2 ^ e = pow_pos e in
      let n = nearest-near a (2 ^ e) b in
      let s = nearest-near a (2 ^ suc e) (pow_pos (suc e)) in
      let d : 2 ^ suc e ≡ 2 * 2 ^ e = omega arith in
      let u : 2 * 2 ^ e ≤ nearest_to a (2 ^ e) * 2 ^ e = mul-le-mul_right (2 ^ e) (omega arith) in
      let v : a * 2 ≤ nearest_to a (2 ^ suc e) * 2 ^ suc e * 2 + 2 ^ suc e = s.below in
      let w : a * 2 ≤ 0 * 2 ^ suc e * 2 + 2 ^ suc e = rw z at v in
      omega (arith, n.above)

  pub exponent-some : 0 < nearest_to a (2 ^ exponent_under most a)
  exponent-some = let z = at_zero (exponent_under most a) refl in omega (arith, z)

-- the code, as it is put together
module _ (a e m : ℕ) where
  pub plus_code : e ≡ exponent_under 2047 a → m ≡ nearest_to a (2 ^ e) → e * 2048 + m ≡ code_for (pos a)
  unfolding code_for
  plus_code p q = rw (smallest-plus a, ← p, ← q)

  pub minus_code : e ≡ exponent_under 2048 (suc a) → m ≡ nearest_to (suc a) (2 ^ e) → 0 < m → 32768 + e * 2048 + (2048 - m) ≡ code_for (negsuc a)
  unfolding code_for
  minus_code p q h = rw (smallest-minus a, ← p, ← q) (signed m h)
    where
      signed : (n : ℕ) → 0 < n → 32768 + e * 2048 + (2048 - n) ≡ code_of (neg_ℤ (pos n)) e
      signed zero h = absurd (omega arith)
      signed (suc n) h = omega arith

  pub plus_bounds : a ≤ 67043328 → e ≡ exponent_under 2047 a → m ≡ nearest_to a (2 ^ e) → (e ≤ 15) × (m ≤ 2047)
  plus_bounds h p q = (
    rw p (exponent-most 2047 a),
    rw (q, p) (exponent-meets 2047 a (let k = plus-meets a h in omega arith)),
  )

  pub minus_bounds : a < 67108864 → e ≡ exponent_under 2048 (suc a) → m ≡ nearest_to (suc a) (2 ^ e) → (e ≤ 15) × (m ≤ 2048) × (0 < m)
  minus_bounds h p q = (
    rw p (exponent-most 2048 (suc a)),
    rw (q, p) (exponent-meets 2048 (suc a) (minus_meets (suc a) h)),
    rw (q, p) (exponent-some 2048 (suc a) (omega arith) (omega arith)),
  )

-- the same of a size that is worked out as one more
module _ (a e m : ℕ) (p : e ≡ exponent_under 2048 (a + 1)) (q : m ≡ nearest_to (a + 1) (2 ^ e)) where
  pub below_code : 0 < m → 32768 + e * 2048 + (2048 - m) ≡ code_for (negsuc a)
  below_code = minus_code a e m (rw add-one at p) (rw add-one at q)

  pub below_bounds : a < 67108864 → (m ≤ 2048) × (0 < m)
  below_bounds h = let b = minus_bounds a e m h (rw add-one at p) (rw add-one at q) in (b.1, b.2)
