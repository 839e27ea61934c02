-- How far two signed numbers are apart, by their sizes.
use Prim.Native.Nat.{ℕ, zero, suc, ◌+◌, ◌-◌, ◌*◌}
use mathlib.Core.Bool.{Bool, true, false, cond}
use mathlib.Core.Path.{◌≡◌, refl, ◌∙◌}
use native.Mathlib.Omega.{arith}
use lib.Dec.{ltb}
use lib.IntN.{pos, negsuc, neg_ℤ, nat_abs, sub_ℕ, ◌-ℤ◌, ◌*ℤ◌}
use borrow.Author.Tests.{ltb-true, ltb-false}

-- of one sign: the larger less the smaller
abbrev pub gap : ℕ → ℕ → ℕ
gap x y = (x - y) + (y - x)

gap-sub : (x y : ℕ) → nat_abs (sub_ℕ x y) ≡ gap x y
gap-sub x y = go (ltb x y) refl
  where
    go : (b : Bool) → ltb x y ≡ b → nat_abs (cond b (negsuc (y - suc x)) (pos (x - y))) ≡ gap x y
    go true p = let l = ltb-true x y p in omega arith
    go false p = let l = ltb-false x y p in omega arith

pub gap-plus : (x y : ℕ) → nat_abs (pos x -ℤ pos y) ≡ gap x y
gap-plus x zero = omega arith
gap-plus x (suc y) = gap-sub x (suc y)

pub gap-minus : (x y : ℕ) → nat_abs (neg_ℤ (pos x) -ℤ negsuc y) ≡ gap x (suc y)
gap-minus zero y = omega arith
gap-minus (suc x) y = gap-sub (suc y) (suc x) ∙ omega arith

-- of two signs: both together
pub gap-across : (x y : ℕ) → nat_abs (neg_ℤ (pos x) -ℤ pos y) ≡ x + y
gap-across zero zero = refl
gap-across zero (suc y) = gap-sub 0 (suc y) ∙ omega arith
gap-across (suc x) zero = gap-sub 0 (suc x) ∙ omega arith
gap-across (suc x) (suc y) = omega arith

pub size-minus : (n : ℕ) → nat_abs (neg_ℤ (pos n)) ≡ n
size-minus zero = refl
size-minus (suc n) = refl

-- a number that is not above zero, times a size
pub times-minus : (q p : ℕ) → neg_ℤ (pos q) *ℤ pos p ≡ neg_ℤ (pos (q * p))
times-minus zero p = let e : 0 * p ≡ 0 = omega arith in rw e refl
times-minus (suc q) p = refl
