-- An acknowledgement's number is an octet, and no two have one number.
use Prim.Native.Nat.{ℕ, ◌<◌}
use mathlib.Core.Bool.{cond}
use mathlib.Core.Path.{◌≡◌, refl, sym, ap, ◌∙◌}
use native.Mathlib.Omega.{arith}
use lib.Dec.{eqb}
use Rattle.coupler.specs.Step.{acknowledgement_number}
use Rattle.coupler.specs.declared.Acknowledgement.TheVariants.{Silence, Acknowledged}
use Rattle.coupler.specs.declared.Acknowledgement.{Acknowledgement}

-- from a number back to the acknowledgement that has it
abbrev acknowledging : ℕ → Acknowledgement
acknowledging n = cond (eqb n 0) Silence Acknowledged

acknowledging-back : (a : Acknowledgement) → acknowledging (acknowledgement_number a) ≡ a
acknowledging-back Silence = refl
acknowledging-back Acknowledged = refl

pub acknowledgement-apart : (a b : Acknowledgement) → acknowledgement_number a ≡ acknowledgement_number b → a ≡ b
acknowledgement-apart a b e = sym (acknowledging-back a) ∙ ap acknowledging e ∙ acknowledging-back b

pub acknowledgement-fits : (a : Acknowledgement) → acknowledgement_number a < 256
acknowledgement-fits Silence = omega arith
acknowledgement-fits Acknowledged = omega arith
