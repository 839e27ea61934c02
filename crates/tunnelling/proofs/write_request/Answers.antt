-- The code's size is the request's; each return is one of the three cases of a writer's answer.
use mathlib.Core.Path.{refl, sym, ◌∙◌}
use native.Mathlib.Omega.{arith}
use Rattle.cemi.proofs.LayoutLaws.{message-ranges}
use Rattle.frame.proofs.Apart.{err-ok}
use Rattle.frame.proofs.Valid.{most-payload}
use Rattle.frame.proofs.Writing.{unranged-iff, unroomed-iff, put-iff}
use Rattle.tunnelling.proofs.LayoutLaws.{length-request, request-put, request-room}
use Rattle.tunnelling.proofs.write_request.Goals as goal

pub returns-then-room-size : goal.returns-then-room-size
returns-then-room-size c =
    let a = c.args in
    let e = length-request a.channel a.counter a.message a.payload.now in
    record { answered = sym ((unroomed-iff _ _ _).1 (sym c.in_range.ensures ∙ c.if-in_range.true, omega arith)); left = refl }

pub overflow_cast-size : goal.overflow_cast-size
overflow_cast-size c =
    let a = c.args in
    omega (arith, most-payload a.message.meaning _ (message-ranges _ a.message _ (sym c.in_range.ensures ∙ c.if-in_range.true)).meaning)

pub returns-in_ok-write : goal.returns-in_ok-write
returns-in_ok-write c =
    let a = c.args in
    let e = length-request a.channel a.counter a.message a.payload.now in
    let ok = sym c.in_range.ensures ∙ c.if-in_range.true in
    record { answered = sym ((put-iff _ _ _ _).1 (ok, (omega arith, e))); left = request-room a.channel a.counter a.message a.payload.now a.room.now ok c.if-room-size.false c.lay_head.ensures c.write.ensures }

-- the room was measured before
pub returns-in_err-write : goal.returns-in_err-write
returns-in_err-write c =
    let a = c.args in
    let ok = sym c.in_range.ensures ∙ c.if-in_range.true in
    err-ok (sym c.in_err-write.was ∙ request-put a.channel a.counter a.message a.payload.now a.room.now ok c.if-room-size.false c.lay_head.ensures c.write.ensures)

pub returns-else-in_range : goal.returns-else-in_range
returns-else-in_range c = record { answered = sym ((unranged-iff _ _ _).1 (sym c.in_range.ensures ∙ c.if-in_range.false)); left = refl }
