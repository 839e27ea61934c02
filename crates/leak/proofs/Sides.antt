-- A signed number of any width, taken apart by its sign into its size.
use Prim.Native.Nat.{ℕ, suc}
use mathlib.Core.Bool.{true, false}
use mathlib.Core.Path.{◌≡◌, refl, sym, ap, ◌∙◌}
use native.Mathlib.Omega.{arith}
use lib.IntN.{ℤ, pos, negsuc, ◌-ℤ◌}
use lib.Signed.{mag, lt_z}
use mir.Syntax.{Width}
use mir.Val.{SFits, to_z, of_z}
use mir.Facts.{to_z-of_z}
use Rattle.octets.proofs.Truth.{never}
use borrow.Author.Tests.{le-ltb}
use Rattle.leak.proofs.Codes.{sub-above}

-- below zero: -1 less the number is its size less one
lowered : (a : ℕ) → negsuc 0 -ℤ negsuc a ≡ pos a
lowered a = sub-above (suc a) 1 (omega arith) ∙ ap pos (omega arith)

-- of a width, as the machine has the number: by its bits
module _ (w : Width) where
  pub record Minus (z : ℤ) : Type 0 where
    pub is : z ≡ negsuc (mag z)
    pub fits : SFits w (negsuc 0 -ℤ to_z w (of_z w z))
    pub back : to_z w (of_z w (negsuc 0 -ℤ to_z w (of_z w z))) ≡ pos (mag z)

  pub minus-side : (z : ℤ) → SFits w z → lt_z (to_z w (of_z w z)) (pos 0) ≡ true → Minus z
  minus-side (pos a) f h = never (sym (rw (to_z-of_z f) at h) ∙ le-ltb a 0 (omega arith))
  minus-side (negsuc a) f h =
      let e : negsuc 0 -ℤ to_z w (of_z w (negsuc a)) ≡ pos a = rw (to_z-of_z f) (lowered a) in
      let g : SFits w (pos a) = record { sfits = f.sfits } in
      record { is = refl; fits = rw e g; back = rw e (to_z-of_z g) }

  pub plus-side : (z : ℤ) → SFits w z → lt_z (to_z w (of_z w z)) (pos 0) ≡ false → (z ≡ pos (mag z)) × (to_z w (of_z w z) ≡ pos (mag z))
  plus-side (pos a) f h = (refl, to_z-of_z f)
  plus-side (negsuc a) f h = never (rw (to_z-of_z f) at h)
