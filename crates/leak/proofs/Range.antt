-- A sum within 64 bits: what the code asks before it adds.
use Prim.Native.Nat.{ℕ, ◌≤◌}
use mathlib.Core.Bool.{Bool, true, false, ◌&&◌}
use mathlib.Core.Path.{◌≡◌, refl, sym, ◌∙◌}
use native.Mathlib.Omega.{arith}
use lib.Dec.{leb}
use lib.IntN.{ℤ, pos, negsuc, ◌+ℤ◌}
use lib.Signed.{mag}
use mir.Syntax.{w32, w64}
use mir.Val.{SFits, to_z, of_z}
use mir.Facts.{to_z-of_z, sfits_widen}
use borrow.Author.Tests.{le-leb, leb-true}
use Rattle.std.specs.Option.{SomeIff, is_some}
use Rattle.std.specs.Prelude.{Option, Some, None}
use Rattle.leak.specs.Total.{in_total}

-- the greatest number of 64 bits; the least is -1 less it
abbrev top : ℕ
top = 9223372036854775807

and_one : (b : Bool) → b && true ≡ b
and_one true = refl
and_one false = refl

-- the range is one bound on the size
pub in_is : (z : ℤ) → in_total z ≡ leb (mag z) top
unfolding in_total
in_is (pos a) = refl
in_is (negsuc a) = and_one (leb a top)

pub in-fits : (z : ℤ) → in_total z ≡ true → SFits w64 z
in-fits z h = record { sfits = omega (arith, leb-true (mag z) top (sym (in_is z) ∙ h)) }

-- what adds with a test gives a sum where 64 bits hold it
some_in : (z : ℤ) (r : Option ℤ) → SomeIff r (SFits w64 z) z → is_some r ≡ in_total z
some_in z (Some x) h = sym (in_is z ∙ le-leb (mag z) top (omega (arith, h.0.sfits)))
some_in z None h = go (leb (mag z) top) refl ∙ sym (in_is z)
  where
    go : (b : Bool) → leb (mag z) top ≡ b → false ≡ leb (mag z) top
    go true e = let k : mag z ≤ top = leb-true (mag z) top e in absurd (h (record { sfits = omega arith }))
    go false e = sym e

pub stays_is : (t s : ℤ) → SFits w64 t → SFits w64 s → (r : Option ℤ)
    → SomeIff r (SFits w64 (to_z w64 (of_z w64 t) +ℤ to_z w64 (of_z w64 s))) (to_z w64 (of_z w64 t) +ℤ to_z w64 (of_z w64 s)) → is_some r ≡ in_total (t +ℤ s)
stays_is t s f g r h = some_in (t +ℤ s) r (rw (to_z-of_z f, to_z-of_z g) at h)

-- the increment, widened to 64 bits, and the sum
module _ (t v : ℤ) (f : SFits w64 t) (g : SFits w32 v) where
  pub wide_fits : SFits w64 (to_z w32 (of_z w32 v))
  wide_fits = rw (to_z-of_z g) (sfits_widen tt g)

  wide_is : to_z w64 (of_z w64 (to_z w32 (of_z w32 v))) ≡ v
  wide_is = to_z-of_z wide_fits ∙ to_z-of_z g

  sum_is : to_z w64 (of_z w64 t) +ℤ to_z w64 (of_z w64 (to_z w32 (of_z w32 v))) ≡ t +ℤ v
  sum_is = rw (to_z-of_z f, wide_is)

  -- what `stays` was asked, of the increment as it was handed on
  pub asked_is : (b : Bool) → b ≡ in_total (to_z w64 (of_z w64 t) +ℤ to_z w64 (of_z w64 (to_z w32 (of_z w32 v)))) → b ≡ in_total (t +ℤ v)
  asked_is b e = rw sum_is at e

  pub sum_fits : in_total (t +ℤ v) ≡ true → SFits w64 (to_z w64 (of_z w64 t) +ℤ to_z w64 (of_z w64 (to_z w32 (of_z w32 v))))
  sum_fits h = rw sum_is (in-fits (t +ℤ v) h)

  pub sum_back : in_total (t +ℤ v) ≡ true → to_z w64 (of_z w64 (to_z w64 (of_z w64 t) +ℤ to_z w64 (of_z w64 (to_z w32 (of_z w32 v))))) ≡ t +ℤ v
  sum_back h = to_z-of_z (sum_fits h) ∙ sum_is
