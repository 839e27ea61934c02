-- The code's size is the layout's; each return is one of the three cases of a writer's answer.
-- the size that the code worked out
use Prim.Native.Nat.{ℕ, ◌+◌}
use mathlib.Core.List.{List}
use mathlib.Core.Path.{◌≡◌, refl, sym, ap, ◌∙◌}
use native.Mathlib.Omega.{arith}
use lib.ListN.{length}
use Rattle.frame.proofs.Writing.{unranged-iff, unroomed-iff, put-iff}
use Rattle.frame.specs.declared.Meaning.{Meaning}
use Rattle.tp1.proofs.LayoutLaws.{head-most, length-octets}
use Rattle.tp1.specs.Layout.{head_of, tp1_octets}
use Rattle.tp1.proofs.write.Goals as goal

size_is : (m : Meaning) (p : List ℕ) (n : ℕ) → n ≡ head_of m.extended → length (tp1_octets m p) ≡ n + length p + 1
size_is m p n e = length-octets m p ∙ ap (λ (k : ℕ). k + length p + 1) (sym e)

pub overflow_add-size : goal.overflow_add-size
overflow_add-size c = omega (arith, c.head_of.ensures, head-most c.args.meaning.extended)

pub overflow_add-size-then-in_range : goal.overflow_add-size-then-in_range
overflow_add-size-then-in_range c = omega (arith, c.head_of.ensures, head-most c.args.meaning.extended)

pub returns-then-room-size : goal.returns-then-room-size
returns-then-room-size c =
    let a = c.args in
    let e = size_is a.meaning a.payload.now _ c.head_of.ensures in
    record { answered = sym ((unroomed-iff _ _ _).1 (sym c.in_range.ensures ∙ c.if-in_range.true, omega arith)); left = refl }

pub put-requires : goal.put-requires
put-requires c =
    (sym c.in_range.ensures ∙ c.if-in_range.true, omega (arith, c.head_of.ensures))

pub returns-else-room-size : goal.returns-else-room-size
returns-else-room-size c =
    let a = c.args in
    let e = size_is a.meaning a.payload.now _ c.head_of.ensures in
    record { answered = sym ((put-iff _ _ _ _).1 (sym c.in_range.ensures ∙ c.if-in_range.true, (omega arith, e))); left = c.put.ensures }

pub returns-else-in_range : goal.returns-else-in_range
returns-else-in_range c = record { answered = sym ((unranged-iff _ _ _).1 (sym c.in_range.ensures ∙ c.if-in_range.false)); left = refl }
