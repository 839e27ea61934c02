-- The code's size is the plain form's; each return is one of the three cases of a writer's answer.
use mathlib.Core.Path.{refl, sym, ◌∙◌}
use native.Mathlib.Omega.{arith}
use Rattle.cemi.proofs.LayoutLaws.{length-plain, message-ranges}
use Rattle.frame.proofs.Writing.{unranged-iff, unroomed-iff, put-iff}
use Rattle.cemi.proofs.write.Goals as goal

pub returns-then-room-size : goal.returns-then-room-size
returns-then-room-size c =
    let a = c.args in
    let e = length-plain a.message a.payload.now in
    record { answered = sym ((unroomed-iff _ _ _).1 (sym c.in_range.ensures ∙ c.if-in_range.true, omega arith)); left = refl }

pub put-requires : goal.put-requires
put-requires c =
    let a = c.args in
    ((message-ranges a.codes a.message _ (sym c.in_range.ensures ∙ c.if-in_range.true)).meaning, omega arith)

pub returns-else-room-size : goal.returns-else-room-size
returns-else-room-size c =
    let a = c.args in
    let e = length-plain a.message a.payload.now in
    record { answered = sym ((put-iff _ _ _ _).1 (sym c.in_range.ensures ∙ c.if-in_range.true, (omega arith, e))); left = c.put.ensures }

pub returns-else-in_range : goal.returns-else-in_range
returns-else-in_range c = record { answered = sym ((unranged-iff _ _ _).1 (sym c.in_range.ensures ∙ c.if-in_range.false)); left = refl }
