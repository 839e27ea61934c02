-- The exclusive or is associative; carried over a list it may start anywhere, and goes on over what is appended.
use Prim.Native.Nat.{ℕ, zero, suc, ◌+◌, ◌-◌, ◌*◌, ◌/◌, ◌%◌, ◌<◌}
use mathlib.Core.List.{List, [], ◌∷◌, ◌++◌}
use mathlib.Core.Path.{◌≡◌, refl, sym, ap, ap₂, ◌∙◌}
use native.Mathlib.Omega.{arith}
use lib.Arith.{bin_ind}
use lib.Bits.{bit_xor, differ, xor_step, xor_zero_l, xor_zero_r, xor_comm, xor_shr, xor_mod, xor_lt}
use lib.Dec.{eqb}
use lib.ListN.{take, drop, take-append-drop}
use borrow.Author.Tests.{eqb-true}
use Rattle.octets.specs.Octets.{Octets}
use Rattle.octets.specs.Check.{xor_from, check_octet}
use Rattle.octets.proofs.Below.{at-below}

bits-assoc : (x y z : ℕ) → x < 2 → y < 2 → z < 2 → differ (bit_xor x y) z ≡ differ x (bit_xor y z)
bits-assoc zero zero zero a b c = refl
bits-assoc zero zero (suc zero) a b c = refl
bits-assoc zero zero (suc (suc z)) a b c = absurd (omega arith)
bits-assoc zero (suc zero) zero a b c = refl
bits-assoc zero (suc zero) (suc zero) a b c = refl
bits-assoc zero (suc zero) (suc (suc z)) a b c = absurd (omega arith)
bits-assoc zero (suc (suc y)) z a b c = absurd (omega arith)
bits-assoc (suc zero) zero zero a b c = refl
bits-assoc (suc zero) zero (suc zero) a b c = refl
bits-assoc (suc zero) zero (suc (suc z)) a b c = absurd (omega arith)
bits-assoc (suc zero) (suc zero) zero a b c = refl
bits-assoc (suc zero) (suc zero) (suc zero) a b c = refl
bits-assoc (suc zero) (suc zero) (suc (suc z)) a b c = absurd (omega arith)
bits-assoc (suc zero) (suc (suc y)) z a b c = absurd (omega arith)
bits-assoc (suc (suc x)) y z a b c = absurd (omega arith)

-- bit by bit, from the lowest on
pub xor_assoc : (a b c : ℕ) → bit_xor (bit_xor a b) c ≡ bit_xor a (bit_xor b c)
xor_assoc = bin_ind (λ (a : ℕ). (b c : ℕ) → bit_xor (bit_xor a b) c ≡ bit_xor a (bit_xor b c)) (λ b c. ap (λ (x : ℕ). bit_xor x c) (xor_zero_l b) ∙ sym (xor_zero_l (bit_xor b c))) step
  where
    step : (n : ℕ) → ((b c : ℕ) → bit_xor (bit_xor (n / 2) b) c ≡ bit_xor (n / 2) (bit_xor b c)) → (b c : ℕ) → bit_xor (bit_xor n b) c ≡ bit_xor n (bit_xor b c)
    step n ih b c =
        xor_step (bit_xor n b) c
        ∙ ap₂ (λ (x y : ℕ). bit_xor x (c / 2) * 2 + differ y (c % 2)) (xor_shr n b 1) (xor_mod n b 1)
        ∙ ap₂ (λ (x y : ℕ). x * 2 + y) (ih (b / 2) (c / 2)) (bits-assoc (n % 2) (b % 2) (c % 2) (omega arith) (omega arith) (omega arith))
        ∙ sym (xor_step n (bit_xor b c) ∙ ap₂ (λ (x y : ℕ). bit_xor (n / 2) x * 2 + differ (n % 2) y) (xor_shr b c 1) (xor_mod b c 1))

pub xor-swap : (p q r s : ℕ) → bit_xor (bit_xor p q) (bit_xor r s) ≡ bit_xor (bit_xor p r) (bit_xor q s)
xor-swap p q r s =
    xor_assoc p q (bit_xor r s)
    ∙ ap (bit_xor p) (sym (xor_assoc q r s) ∙ ap (λ (x : ℕ). bit_xor x s) (xor_comm q r) ∙ xor_assoc r q s)
    ∙ sym (xor_assoc p r (bit_xor q s))

xor-from : (x y : ℕ) (s : List ℕ) → xor_from (bit_xor x y) s ≡ bit_xor x (xor_from y s)
xor-from x y [] = refl
xor-from x y (o ∷ s) = ap (λ (z : ℕ). xor_from z s) (xor_assoc x y o) ∙ xor-from x (bit_xor y o) s

xor-start : (x : ℕ) (s : List ℕ) → xor_from x s ≡ bit_xor x (xor_from 0 s)
xor-start x s = ap (λ (z : ℕ). xor_from z s) (sym (xor_zero_r x)) ∙ xor-from x 0 s

pub xor-append : (x : ℕ) (s t : List ℕ) → xor_from x (s ++ t) ≡ xor_from (xor_from x s) t
xor-append x [] t = refl
xor-append x (o ∷ s) t = xor-append (bit_xor x o) s t

-- a list's first elements, and then those behind them
pub xor_parts : (n : ℕ) (s : List ℕ) → xor_from (xor_from 0 (take n s)) (drop n s) ≡ xor_from 0 s
xor_parts n s = sym (xor-append 0 (take n s) (drop n s)) ∙ ap (xor_from 0) (take-append-drop n s)

-- what two lists come to, each by itself
pub xor-both : (s t : List ℕ) → xor_from 0 (s ++ t) ≡ bit_xor (xor_from 0 s) (xor_from 0 t)
xor-both s t = xor-append 0 s t ∙ xor-start (xor_from 0 s) t

-- below 256 what is missing to 255 is the exclusive or with it
xor_below : (x : ℕ) (s : List ℕ) → x < 256 → Octets s → xor_from x s < 256
xor_below x [] h o = h
xor_below x (a ∷ s) h o = xor_below (bit_xor x a) s (xor_lt 8 x a h (o 0)) (λ i. o (suc i))

complement : (x : ℕ) → x < 256 → 255 - x ≡ bit_xor 255 x
complement x h = eqb-true (255 - x) (bit_xor 255 x) (at-below (λ (n : ℕ). eqb (255 - n) (bit_xor 255 n)) 256 x refl h)

-- so the check octet may be worked out behind any octets whose exclusive or is known
pub check-behind : (x : ℕ) (s : List ℕ) → x < 256 → Octets s → bit_xor x (check_octet s) ≡ 255 - xor_from x s
unfolding check_octet
check-behind x s h o =
    let y : ℕ = xor_from 0 s in
    ap (bit_xor x) (complement y (xor_below 0 s (omega arith) o))
    ∙ sym (xor_assoc x 255 y) ∙ ap (λ (z : ℕ). bit_xor z y) (xor_comm x 255) ∙ xor_assoc 255 x y
    ∙ ap (bit_xor 255) (sym (xor-start x s))
    ∙ sym (complement (xor_from x s) (xor_below x s h o))
