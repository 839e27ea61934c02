-- `nearest_m` is the nearest M with ties to even M, and no other M is: by the signs, `near-one` of the sizes.
use Prim.Native.Nat.{ℕ, zero, suc, ◌+◌, ◌*◌, ◌%◌, ◌^◌, ◌≤◌, ◌<◌}
use mathlib.Core.Bool.{Bool, true, false}
use mathlib.Core.Logic.{inl, inr, ⊎_elim}
use mathlib.Core.Path.{◌≡◌, refl, sym, ap, ◌∙◌}
use native.Mathlib.Omega.{arith}
use lib.Dec.{ltb}
use lib.Pow.{pow_pos}
use lib.IntN.{ℤ, pos, negsuc, neg_ℤ}
use borrow.Author.Tests.{ltb-true, ltb-false}
use Rattle.leak.specs.Nearest.{off_by, Nearest}
use Rattle.leak.specs.Writing.{nearest_to, nearest_m}
use Rattle.leak.proofs.Distance.{gap, gap-plus, gap-minus, gap-across, size-minus, times-minus}
use Rattle.leak.proofs.NearestLaws.{Near, nearest-near, near-one}

-- nearness of sizes is a gap of at most half
gap-near : (a b q : ℕ) → Near a b q → gap (q * b) a * 2 ≤ b
gap-near a b q n = omega (arith, n.above, n.below)

gap-even : (a b q : ℕ) → Near a b q → gap (q * b) a * 2 ≡ b → q % 2 ≡ 0
gap-even a b q n e = go (ltb (q * b) a) refl
  where
    go : (x : Bool) → ltb (q * b) a ≡ x → q % 2 ≡ 0
    go true p = let l = ltb-true (q * b) a p in let t : a * 2 ≡ q * b * 2 + b = omega arith in n.even (inr t)
    go false p = let l = ltb-false (q * b) a p in let t : q * b * 2 ≡ a * 2 + b = omega arith in n.even (inl t)

near-gap : (a b q : ℕ) → gap (q * b) a * 2 ≤ b → (gap (q * b) a * 2 ≡ b → q % 2 ≡ 0) → Near a b q
near-gap a b q h f = record { above = omega arith; below = omega arith; even = λ t. f (⊎_elim (λ x. omega arith) (λ x. omega arith) t) }

-- how far off M is, by the signs
off-plus : (a e q : ℕ) → off_by (pos a) e (pos q) ≡ gap (q * 2 ^ e) a
off-plus a e q = gap-plus (q * 2 ^ e) a

off-minus : (a e q : ℕ) → off_by (negsuc a) e (neg_ℤ (pos q)) ≡ gap (q * 2 ^ e) (suc a)
off-minus a e q = rw (times-minus q (2 ^ e)) (gap-minus (q * 2 ^ e) a)

pub nearest-is : (z : ℤ) (e : ℕ) → Nearest z e (nearest_m z e)
nearest-is (pos a) e =
    let n = nearest-near a (2 ^ e) (pow_pos e) in
    let q = nearest_to a (2 ^ e) in
    let o = off-plus a e q in
    record { near = rw o (gap-near a (2 ^ e) q n); even = λ t. gap-even a (2 ^ e) q n (ap (λ (k : ℕ). k * 2) (sym o) ∙ t) }
nearest-is (negsuc a) e =
    let n = nearest-near (suc a) (2 ^ e) (pow_pos e) in
    let q = nearest_to (suc a) (2 ^ e) in
    let o = off-minus a e q in
    record {
      near = rw o (gap-near (suc a) (2 ^ e) q n);
      even = λ t. ap (λ (k : ℕ). k % 2) (size-minus q) ∙ gap-even (suc a) (2 ^ e) q n (ap (λ (k : ℕ). k * 2) (sym o) ∙ t);
    }

pub nearest-one : (z : ℤ) (e : ℕ) (m : ℤ) → Nearest z e m → m ≡ nearest_m z e
nearest-one (pos a) e (pos q) n =
    let o = off-plus a e q in
    let x : Near a (2 ^ e) q = near-gap a (2 ^ e) q (rw o at n.near) (λ t. n.even (ap (λ (k : ℕ). k * 2) o ∙ t)) in
    ap pos (near-one a (2 ^ e) q (nearest_to a (2 ^ e)) (pow_pos e) x (nearest-near a (2 ^ e) (pow_pos e)))
nearest-one (pos a) e (negsuc q) n =
    let h : (suc q * 2 ^ e + a) * 2 ≤ 2 ^ e = rw (gap-across (suc q * 2 ^ e) a) at n.near in
    let p : 0 < 2 ^ e = pow_pos e in
    absurd (omega arith)
nearest-one (negsuc a) e (pos zero) n =
    let h : (0 * 2 ^ e + suc a) * 2 ≤ 2 ^ e = n.near in
    let x : Near (suc a) (2 ^ e) 0 = record { above = omega arith; below = omega arith; even = λ t. refl } in
    ap (λ (k : ℕ). neg_ℤ (pos k)) (near-one (suc a) (2 ^ e) 0 (nearest_to (suc a) (2 ^ e)) (pow_pos e) x (nearest-near (suc a) (2 ^ e) (pow_pos e)))
nearest-one (negsuc a) e (pos (suc q)) n =
    let h : (suc q * 2 ^ e + suc a) * 2 ≤ 2 ^ e = n.near in
    let p : 0 < 2 ^ e = pow_pos e in
    absurd (omega arith)
nearest-one (negsuc a) e (negsuc q) n =
    let o = off-minus a e (suc q) in
    let x : Near (suc a) (2 ^ e) (suc q) = near-gap (suc a) (2 ^ e) (suc q) (rw o at n.near) (λ t. n.even (ap (λ (k : ℕ). k * 2) o ∙ t)) in
    ap (λ (k : ℕ). neg_ℤ (pos k)) (near-one (suc a) (2 ^ e) (suc q) (nearest_to (suc a) (2 ^ e)) (pow_pos e) x (nearest-near (suc a) (2 ^ e) (pow_pos e)))
