-- The code that is written is the one that R-4 chooses, and no other code is; what a code stands for is in the writer's range.
use Prim.Native.Nat.{ℕ, zero, suc, ◌+◌, ◌-◌, ◌*◌, ◌%◌, ◌^◌, ◌≤◌, ◌<◌}
use mathlib.Core.Bool.{Bool, true, false}
use mathlib.Core.Path.{◌≡◌, refl, sym, ap, ◌∙◌}
use native.Mathlib.Nat.{mul-le-mul_right}
use native.Mathlib.Omega.{arith}
use lib.Dec.{ltb, leb, eqb}
use lib.Pow.{pow_mono}
use lib.IntN.{ℤ, pos, negsuc, neg_ℤ}
use lib.Signed.{le_z}
use mir.Syntax.{w32}
use mir.Val.{SFits}
use borrow.Author.Tests.{le-leb, leb-true, ltb-true, ltb-false, eqb-true, eqb-false}
use Rattle.std.specs.Prelude.{Ok}
use Rattle.frame.proofs.Apart.{err-ok, ok-one}
use Rattle.octets.proofs.Truth.{by_cases, never, and-true}
use Rattle.leak.specs.Float.{exponent_of, mantissa_of, hundredths_of}
use Rattle.leak.specs.Nearest.{Chosen}
use Rattle.leak.specs.Reading.{read_code}
use Rattle.leak.specs.Writing.{nearest_to, nearest_m, fits_m, smallest_e, code_of, code_for, in_reach}
use Rattle.leak.specs.Stages.{exponent_under}
use Rattle.leak.proofs.Codes.{mantissa-plus, mantissa-minus}
use Rattle.leak.proofs.Exactly.{read-invalid, read-valid}
use Rattle.leak.proofs.NearestM.{nearest-is, nearest-one}
use Rattle.leak.proofs.Scale.{power-most}
use Rattle.leak.proofs.Smallest.{plus_code, plus_bounds, plus-meets, minus_code, minus_bounds}
use Rattle.leak.proofs.Written.{Reach, smallest-fits, smallest-most, smallest-none}

-- M and E of the code that they make
exponent-back : (m : ℤ) (e : ℕ) → fits_m m ≡ true → e ≤ 15 → exponent_of (code_of m e) ≡ e
exponent-back (pos m) e f h = let k : m ≤ 2047 = leb-true m 2047 f in omega arith
exponent-back (negsuc m) e f h = let k : m ≤ 2047 = leb-true m 2047 (and-true (leb m 2047) true f).0 in omega arith

mantissa-back : (m : ℤ) (e : ℕ) → fits_m m ≡ true → e ≤ 15 → mantissa_of (code_of m e) ≡ m
mantissa-back (pos m) e f h =
    let k : m ≤ 2047 = leb-true m 2047 f in
    mantissa-plus (e * 2048 + m) (omega arith) ∙ ap pos (omega arith)
mantissa-back (negsuc m) e f h =
    let k : m ≤ 2047 = leb-true m 2047 (and-true (leb m 2047) true f).0 in
    mantissa-minus (32768 + e * 2048 + (2047 - m)) (omega arith) (omega arith) ∙ ap negsuc (omega arith)

-- and the code that M and E of a code make
pub code-back : (c : ℕ) → c < 65536 → code_of (mantissa_of c) (exponent_of c) ≡ c
code-back c h =
    by_cases (ltb c 32768)
    (λ p. let l = ltb-true c 32768 p in ap (λ (m : ℤ). code_of m (exponent_of c)) (mantissa-plus c l) ∙ omega arith)
    (λ p. let l = ltb-false c 32768 p in ap (λ (m : ℤ). code_of m (exponent_of c)) (mantissa-minus c l h) ∙ omega arith)

pub mantissa-fits : (c : ℕ) → c < 65536 → fits_m (mantissa_of c) ≡ true
mantissa-fits c h =
    by_cases (ltb c 32768)
    (λ p. rw (mantissa-plus c (ltb-true c 32768 p)) (le-leb (c % 2048) 2047 (omega arith)))
    (λ p. rw (mantissa-minus c (ltb-false c 32768 p) h, le-leb (2047 - c % 2048) 2047 (omega arith)))

-- the range that the writer takes
pub reach_of : (z : ℤ) → in_reach z ≡ true → Reach z
reach_of z e = let b = and-true (le_z (negsuc 67108863) z) (le_z z (pos 67043328)) e in record { lower = b.0; upper = b.1 }

pub in_reach-is_true : (z : ℤ) → Reach z → in_reach z ≡ true
in_reach-is_true z r = rw (r.lower, r.upper)

module _ (z : ℤ) (r : Reach z) where
  written-exponent : exponent_of (code_for z) ≡ smallest_e z
  unfolding code_for
  written-exponent = exponent-back (nearest_m z (smallest_e z)) (smallest_e z) (smallest-fits z r) (smallest-most z)

  written-mantissa : mantissa_of (code_for z) ≡ nearest_m z (smallest_e z)
  unfolding code_for
  written-mantissa = mantissa-back (nearest_m z (smallest_e z)) (smallest_e z) (smallest-fits z r) (smallest-most z)

  pub written-chosen : Chosen z (code_for z)
  written-chosen = record {
    nearest = rw (written-exponent, written-mantissa) (nearest-is z (smallest_e z));
    smallest = λ e l m n. rw (nearest-one z e m n) (smallest-none z e (rw written-exponent at l));
  }

-- a smaller E would have fit
chosen_less : (z : ℤ) (c d : ℕ) → c < 65536 → Chosen z c → Chosen z d → exponent_of c < exponent_of d → ⊥
chosen_less z c d h x y l = never (sym (mantissa-fits c h) ∙ y.smallest (exponent_of c) l (mantissa_of c) x.nearest)

pub chosen-one : (z : ℤ) (c d : ℕ) → c < 65536 → d < 65536 → Chosen z c → Chosen z d → c ≡ d
chosen-one z c d h k x y = same (alike (ltb (exponent_of c) (exponent_of d)) (ltb (exponent_of d) (exponent_of c)) refl refl)
  where
    alike : (a b : Bool) → ltb (exponent_of c) (exponent_of d) ≡ a → ltb (exponent_of d) (exponent_of c) ≡ b → exponent_of c ≡ exponent_of d
    alike true b p q = absurd (chosen_less z c d h x y (ltb-true (exponent_of c) (exponent_of d) p))
    alike false true p q = absurd (chosen_less z d c k y x (ltb-true (exponent_of d) (exponent_of c) q))
    alike false false p q = let u = ltb-false (exponent_of c) (exponent_of d) p in let v = ltb-false (exponent_of d) (exponent_of c) q in omega (arith, u, v)

    same : exponent_of c ≡ exponent_of d → c ≡ d
    same e =
        let m : mantissa_of c ≡ mantissa_of d =
        nearest-one z (exponent_of c) (mantissa_of c) x.nearest ∙ ap (nearest_m z) e ∙ sym (nearest-one z (exponent_of d) (mantissa_of d) y.nearest) in
        sym (code-back c h) ∙ (λ i. code_of (m i) (e i)) ∙ code-back d k

-- every code but 7FFFh stands for a number that the writer takes: 2,047 at 14 and 2,046 at 15 are the most
plus-most : (m e : ℕ) → m ≤ 2047 → e < 16 → (e * 2048 + m ≡ 0x7FFF → ⊥) → m * 2 ^ e ≤ 67043328
plus-most m e h k n =
    by_cases (eqb e 15)
    (λ p. let x : e ≡ 15 = eqb-true e 15 p in rw x (omega (arith, n)))
    (λ p.
    let x : e ≡ 15 → ⊥ = eqb-false e 15 p in
    let y : e ≤ 14 = omega (arith, x) in
    let g : 2 ^ e ≤ 16384 = pow_mono y in
    let u : m * 2 ^ e ≤ 2047 * 2 ^ e = mul-le-mul_right (2 ^ e) h in
    omega arith)

reach-plus : (a : ℕ) → a ≤ 67043328 → Reach (pos a)
reach-plus a h = record { lower = refl; upper = le-leb a 67043328 h }

reach-minus : (n : ℕ) → n ≤ 67108864 → Reach (neg_ℤ (pos n))
reach-minus zero h = record { lower = refl; upper = refl }
reach-minus (suc n) h = record { lower = le-leb n 67108863 (omega arith); upper = refl }

pub value-reach : (c : ℕ) → c < 65536 → (c ≡ 0x7FFF → ⊥) → Reach (hundredths_of c)
unfolding hundredths_of
value-reach c h n =
    by_cases (ltb c 32768)
    (λ p.
    let l = ltb-true c 32768 p in
    let s : exponent_of c * 2048 + c % 2048 ≡ c = omega arith in
    rw (mantissa-plus c l) (reach-plus (c % 2048 * 2 ^ exponent_of c) (plus-most (c % 2048) (exponent_of c) (omega arith) (omega arith) (λ x. n (sym s ∙ x)))))
    (λ p.
    let l = ltb-false c 32768 p in
    let k : 2 ^ exponent_of c ≤ 32768 = power-most (exponent_of c) (omega arith) in
    let g : suc (2047 - c % 2048) * 2 ^ exponent_of c ≤ 2048 * 2 ^ exponent_of c = mul-le-mul_right (2 ^ exponent_of c) (omega arith) in
    rw (mantissa-minus c l h) (reach-minus (suc (2047 - c % 2048) * 2 ^ exponent_of c) (omega arith)))

-- what is written is a code, and never 7FFFh
pub code-valid : (z : ℤ) → Reach z → (code_for z < 65536) × (code_for z ≡ 0x7FFF → ⊥)
code-valid (pos a) r =
    let h : a ≤ 67043328 = leb-true a 67043328 r.upper in
    let e = exponent_under 2047 a in
    let m = nearest_to a (2 ^ exponent_under 2047 a) in
    let s = plus_code a (exponent_under 2047 a) (nearest_to a (2 ^ exponent_under 2047 a)) refl refl in
    let b = plus_bounds a (exponent_under 2047 a) (nearest_to a (2 ^ exponent_under 2047 a)) h refl refl in
    let valid : code_for (pos a) ≡ 0x7FFF → ⊥ = λ x.
    let k : exponent_under 2047 a ≡ 15 = omega (arith, b.0, b.1) in
    let l : nearest_to a (2 ^ exponent_under 2047 a) ≤ 2046 = rw k (plus-meets a h) in
    omega (arith, b.0) in
    (omega (arith, b.0, b.1), valid)
code-valid (negsuc a) r =
    let h : a < 67108864 = omega (arith, leb-true a 67108863 r.lower) in
    let b = minus_bounds a (exponent_under 2048 (suc a)) (nearest_to (suc a) (2 ^ exponent_under 2048 (suc a))) h refl refl in
    let s = minus_code a (exponent_under 2048 (suc a)) (nearest_to (suc a) (2 ^ exponent_under 2048 (suc a))) refl refl b.2 in
    (omega (arith, b.0, b.1, b.2), λ x. omega arith)

-- and so what the reader answers has 32 bits
reach-fits : (z : ℤ) → Reach z → SFits w32 z
reach-fits (pos a) r = record { sfits = omega (arith, leb-true a 67043328 r.upper) }
reach-fits (negsuc a) r = record { sfits = omega (arith, leb-true a 67108863 r.lower) }

pub read-fits : (code : ℕ) → code < 65536 → {v : ℤ} → read_code code ≡ Ok v → SFits w32 v
read-fits code h {v} e =
    let n : code ≡ 0x7FFF → ⊥ = λ x. err-ok (sym (read-invalid code x) ∙ e) in
    rw (ok-one (sym e ∙ read-valid code n)) (reach-fits (hundredths_of code) (value-reach code h n))
