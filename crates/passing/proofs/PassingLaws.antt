-- What a coupler makes of a telegram, beside who may pass: a reason is given exactly if address and codes or the count do not allow it.
use Prim.Native.Nat.{ℕ}
use mathlib.Core.Bool.{Bool, true, false, not, cond, ◌&&◌, ◌||◌}
use mathlib.Core.List.{List}
use mathlib.Core.Path.{◌≡◌, refl}
use native.Mathlib.Omega.{arith}
use lib.Dec.{eqb}
use borrow.Author.Tests.{eqb-true, ne_eqb}
use Rattle.passing.specs.Passing.{is_own, is_ruled, may_pass, ruled_out, passage_of, does_pass}
use Rattle.passing.specs.Settings.{code_in, class_of}
use Rattle.passing.specs.declared.Passage.TheVariants.{Passes, OwnAddress, Closed, NotBelow, NotAbove, NotInTable, UsedUp}
use Rattle.passing.specs.declared.Passage.{Passage}

ruled_out-is_false : (direction class : ℕ) → does_pass (ruled_out direction class) ≡ false
unfolding ruled_out
ruled_out-is_false direction class = pick (eqb class 0) (eqb direction 0)
  where
    pick : (individual down : Bool) → does_pass (cond individual (cond down NotBelow NotAbove) NotInTable) ≡ false
    pick true true = refl
    pick true false = refl
    pick false down = refl

by-causes : (own one two ruled none : Bool) (p : Passage) → does_pass p ≡ false → (one ≡ true → two ≡ false)
    → does_pass (cond own OwnAddress (cond (not (one || two)) Closed (cond (one && not ruled) p (cond none UsedUp Passes))))
    ≡ (not own && (two || (one && ruled))) && not none
by-causes true one two ruled none p d h = refl
by-causes false false false ruled none p d h = refl
by-causes false false true ruled true p d h = refl
by-causes false false true ruled false p d h = refl
by-causes false true true ruled none p d h = let e : true ≡ false = h refl in let z : ◌≡◌ {A = ℕ} 0 1 = cc in absurd (omega arith)
by-causes false true false true true p d h = refl
by-causes false true false true false p d h = refl
by-causes false true false false none p d h = d

pub passes-iff : (line : ℕ) (codes : List (List ℕ)) (table : List ℕ) (direction kind destination count : ℕ)
    → does_pass (passage_of line codes table direction kind destination count) ≡ may_pass line codes table direction kind destination && not (eqb count 0)
unfolding passage_of may_pass
passes-iff line codes table direction kind destination count =
    let class = class_of kind destination in
    let code = code_in codes direction class in
    by-causes (is_own line kind destination) (eqb code 1) (eqb code 2) (is_ruled line table direction class destination) (eqb count 0)
    (ruled_out direction class) (ruled_out-is_false direction class) (λ e. ne_eqb code 2 (λ z. omega (arith, eqb-true code 1 e)))
