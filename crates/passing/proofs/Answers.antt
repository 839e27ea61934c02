-- No two passages have one number.
use Prim.Native.Nat.{ℕ}
use mathlib.Core.Bool.{true, cond}
use mathlib.Core.Path.{◌≡◌, refl, sym, ap, ◌∙◌}
use lib.Dec.{leb, eqb}
use Rattle.passing.specs.Answers.{passage_number}
use Rattle.passing.specs.Passing.{does_pass}
use Rattle.passing.specs.declared.Passage.TheVariants.{Passes, NotFitted, OwnAddress, Closed, NotBelow, NotAbove, NotInTable, UsedUp}
use Rattle.passing.specs.declared.Passage.{Passage}

-- from a number back to the passage that has it
abbrev passaged : ℕ → Passage
passaged n =
    cond (eqb n 1) NotFitted
    (cond (eqb n 2) OwnAddress
    (cond (eqb n 3) Closed
    (cond (eqb n 4) NotBelow
    (cond (eqb n 5) NotAbove
    (cond (eqb n 6) NotInTable
    (cond (eqb n 7) UsedUp
    Passes))))))

passaged-back : (p : Passage) → passaged (passage_number p) ≡ p
passaged-back Passes = refl
passaged-back NotFitted = refl
passaged-back OwnAddress = refl
passaged-back Closed = refl
passaged-back NotBelow = refl
passaged-back NotAbove = refl
passaged-back NotInTable = refl
passaged-back UsedUp = refl

pub passage-apart : (p q : Passage) → passage_number p ≡ passage_number q → p ≡ q
passage-apart p q e = sym (passaged-back p) ∙ ap passaged e ∙ passaged-back q

-- 0 exactly if the telegram passes, otherwise 1 to 7
pub passage-zero : (p : Passage) → eqb (passage_number p) 0 ≡ does_pass p
passage-zero Passes = refl
passage-zero NotFitted = refl
passage-zero OwnAddress = refl
passage-zero Closed = refl
passage-zero NotBelow = refl
passage-zero NotAbove = refl
passage-zero NotInTable = refl
passage-zero UsedUp = refl

pub passage-most : (p : Passage) → leb (passage_number p) 7 ≡ true
passage-most Passes = refl
passage-most NotFitted = refl
passage-most OwnAddress = refl
passage-most Closed = refl
passage-most NotBelow = refl
passage-most NotAbove = refl
passage-most NotInTable = refl
passage-most UsedUp = refl
