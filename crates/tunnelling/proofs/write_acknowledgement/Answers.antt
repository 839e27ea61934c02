-- The acknowledgement is ten octets: 13 below them, otherwise the head alone over the room.
use mathlib.Core.Path.{refl, sym, ◌∙◌}
use native.Mathlib.Omega.{arith}
use Rattle.frame.proofs.Writing.{unroomed-iff, put-iff}
use Rattle.octets.proofs.Room.{laid-front}
use Rattle.tunnelling.proofs.LayoutLaws.{length-acknowledgement}
use Rattle.tunnelling.specs.Layout.{connected, acknowledgement_octets}
use Rattle.tunnelling.proofs.write_acknowledgement.Goals as goal

pub returns-then-room-lt10 : goal.returns-then-room-lt10
returns-then-room-lt10 c =
    let a = c.args in
    let e = length-acknowledgement a.acknowledgement in
    record { answered = sym ((unroomed-iff _ _ _).1 (refl, omega (arith, c.if-room-lt10.true))); left = refl }

pub returns : goal.returns
unfolding acknowledgement_octets connected
returns c =
    record { answered = sym ((put-iff _ _ _ _).1 (refl, (c.if-room-lt10.false, refl))); left = c.lay_head.ensures ∙ laid-front _ _ c.if-room-lt10.false }
