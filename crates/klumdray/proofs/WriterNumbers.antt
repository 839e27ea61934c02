-- A writer's number is the size above eight bits. No frame has more than 274 octets.
use Rattle.std.specs.Prelude.{Result, Ok, Err}
use Prim.Native.Nat.{ℕ, ◌*◌, ◌^◌, ◌≤◌}
use mathlib.Core.Bool.{Bool, true, ◌&&◌}
use mathlib.Core.List.{List, [], ◌∷◌}
use mathlib.Core.Path.{◌≡◌, refl, sym, ap, ◌∙◌}
use native.Mathlib.Omega.{arith}
use lib.ListN.{length, get_or}
use Rattle.cemi.proofs.LayoutLaws.{message-ranges, length-plain}
use Rattle.cemi.specs.Layout.{plain}
use Rattle.cemi.specs.Writing.{message_in_range}
use Rattle.cemi.specs.declared.Codes.TheVariants.{All}
use Rattle.cemi.specs.declared.Codes.{Codes}
use Rattle.cemi.specs.declared.Message.{Message}
use Rattle.frame.proofs.Apart.{err-ok, err-one}
use Rattle.frame.proofs.Numbers.{refused-number}
use Rattle.frame.proofs.Valid.{most-payload}
use Rattle.frame.proofs.Writing.{put-iff}
use Rattle.frame.specs.Answers.{Numbered, written_numbered}
use Rattle.frame.specs.Valid.{in_range}
use Rattle.frame.specs.Writing.{written, room_after}
use Rattle.frame.specs.declared.Meaning.{Meaning}
use Rattle.klumdray.proofs.Bits.{Field, ◌holding◌, packed, Fit, read_back, below}
use Rattle.klumdray.proofs.Telling.{number-alone, tells-refused, tells-accepted, accepted-values}
use Rattle.klumdray.specs.Decoding.{number_in, written_in, written_from, Tells}
use Rattle.klumdray.specs.Numbers.{written_number, WroteNumber}
use Rattle.octets.proofs.Truth.{and-true}
use Rattle.routing.proofs.LayoutLaws.{length-routing}
use Rattle.routing.specs.Layout.{routing_octets}
use Rattle.tp1.proofs.LayoutLaws.{octets-most}
use Rattle.tp1.specs.Layout.{tp1_octets}
use Rattle.tunnelling.proofs.LayoutLaws.{length-request, length-acknowledgement}
use Rattle.tunnelling.specs.Layout.{request_octets, acknowledgement_octets}
use Rattle.tunnelling.specs.declared.Acknowledgement.{Acknowledgement}
use Rattle.frame.specs.declared.Refusal.{Refusal}

pub written-answer : (w : Result ℕ Refusal) → ((n : ℕ) → w ≡ Ok n → n ≤ 274) → Tells 64 written_from (written_number w) (written_numbered w) (λ r. w ≡ Err r)
written-answer (Ok n) h =
    let fs : List Field = 8 holding 0 ∷ 56 holding n ∷ [] in
    let fit : Fit fs = (omega arith, (omega (arith, h n refl), tt)) in
    let e : n * 2 ^ 8 ≡ packed fs = omega arith in
    let field = read_back fs (n * 2 ^ 8) fit e in
    let z : number_in (n * 2 ^ 8) ≡ 0 = field 0 (omega arith) in
    tells-accepted z (λ r e. err-ok (sym e)) (below fs (n * 2 ^ 8) fit e) (rw (z, field 1 (omega arith)))
written-answer (Err q) h = tells-refused q refl refl (λ r. err-one) (omega arith) (rw (number-alone q, refused-number q))

module _ {ranged : Bool} {octets room : List ℕ} {answer : ℕ} {after : List ℕ} (most : ranged ≡ true → length octets ≤ 274) (w : WroteNumber ranged octets room answer after) where
  pub written-told : Tells 64 written_from answer (written_numbered (written ranged octets room)) (λ r. written ranged octets room ≡ Err r)
  written-told =
      rw w.answered (written-answer (written ranged octets room) (λ n e. let x = (put-iff ranged octets room n).0 e in omega (arith, most x.0, x.1.1)))

  -- written: all of the frame's octets
  pub written-size : number_in answer ≡ 0 → written_in answer ≡ length octets
  written-size z = go (written ranged octets room) refl
    where
      go : (v : Result ℕ Refusal) → written ranged octets room ≡ v → written_in answer ≡ length octets
      go (Ok n) e =
          let d : written_from answer ≡ written_numbered (Ok n) = written-told.decoded ∙ ap written_numbered e in
          let v : written_in answer ∷ [] ≡ n ∷ [] = sym (accepted-values answer (written_in answer ∷ []) z) ∙ ap (λ (i : Numbered). i.values) d in
          ap (λ (l : List ℕ). get_or l 0 0) v ∙ sym ((put-iff ranged octets room n).0 e).1.1
      go (Err r) e = absurd (written-told.accepted.0 z r e)

  -- refused: the room as it was
  pub written-leaves : (number_in answer ≡ 0 → ⊥) → after ≡ room
  written-leaves n = go (written ranged octets room) refl
    where
      go : (v : Result ℕ Refusal) → written ranged octets room ≡ v → after ≡ room
      go (Ok k) e = absurd (n (written-told.accepted.1 (λ r f. err-ok (sym f ∙ e))))
      go (Err r) e = w.left ∙ ap (λ (v : Result ℕ Refusal). room_after v octets room) e

-- each format's frame, where the numbers are in range
pub tp1-most : (fit : Bool) (m : Meaning) (p : List ℕ) → fit && in_range m (length p) ≡ true → length (tp1_octets m p) ≤ 274
tp1-most fit m p e = omega (arith, octets-most m p (and-true fit (in_range m (length p)) e).1)

module _ (fit : Bool) (codes : Codes) (x : Message) (p : List ℕ) (e : fit && message_in_range codes x (length p) ≡ true) where
  payload : length p ≤ 255
  payload = most-payload x.meaning (length p) (message-ranges codes x (length p) (and-true fit (message_in_range codes x (length p)) e).1).meaning

  pub cemi-most : length (plain x p) ≤ 274
  cemi-most = omega (arith, length-plain x p, payload)

  pub routing-most : length (routing_octets x p) ≤ 274
  routing-most = omega (arith, length-routing x p, payload)

pub request-most : (fit : Bool) (k n : ℕ) (x : Message) (p : List ℕ) → fit && message_in_range All x (length p) ≡ true → length (request_octets k n x p) ≤ 274
request-most fit k n x p e = omega (arith, length-request k n x p, payload fit All x p e)

pub acknowledgement-most : (a : Acknowledgement) → length (acknowledgement_octets a) ≤ 274
acknowledgement-most a = omega (arith, length-acknowledgement a)
