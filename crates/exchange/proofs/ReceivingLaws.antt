-- A request judged in parts: cEMI's answer behind the channel's tests, those behind the header's, and the acknowledgement's room.
use Rattle.std.specs.Prelude.{Result, Ok, Err}
use Prim.Native.Nat.{ℕ, ◌≤◌}
use mathlib.Core.Bool.{Bool, true, false, ◌||◌}
use mathlib.Core.List.{List, ◌∷◌, ◌++◌}
use mathlib.Core.Path.{◌≡◌, refl, sym, ap, ◌∙◌}
use native.Mathlib.Omega.{arith}
use lib.Dec.{ltb}
use lib.ListN.{length}
use borrow.Author.Tests.{le-ltb, ltb-false}
use Rattle.octets.proofs.Room.{laid-front}
use Rattle.octets.specs.Room.{laid, over}
use Rattle.frame.proofs.Order.{passed-iff, refused-iff}
use Rattle.frame.specs.Order.{Test, first_of, answer_by, ◌gives◌}
use Rattle.frame.specs.declared.Refusal.TheVariants.{SmallRoom}
use Rattle.frame.specs.declared.Refusal.{Refusal}
use Rattle.cemi.proofs.Refusals.{accepted-iff as cemi-accepted, refused-iff as cemi-refused}
use Rattle.cemi.specs.Reading.{cemi_tests, read_cemi}
use Rattle.cemi.specs.declared.Codes.TheVariants.{All}
use Rattle.cemi.specs.declared.Message.{Message}
use Rattle.channels.proofs.CallLaws.{called-one}
use Rattle.channels.specs.declared.Channel.{Channel}
use Rattle.tunnelling.proofs.ConnectionLaws.{connection-refused, connection-passed}
use Rattle.tunnelling.proofs.LayoutLaws.{length-acknowledgement}
use Rattle.tunnelling.specs.Layout.{request_service}
use Rattle.tunnelling.specs.Reading.{channel_in, counter_in, message, connected_tests, read_connection}
use Rattle.exchange.specs.Receiving.{is_expected, is_behind, channel_tests, taken_as, received, sent_back, ReceivedOn, Took}
use Rattle.exchange.specs.Stages.{received_behind, received_message}
use Rattle.exchange.specs.declared.Received.TheVariants.{Delivered, Again}
use Rattle.exchange.specs.declared.Received.{Received}

module _ (s : List ℕ) where
  -- cEMI's answer decides behind the channel's tests
  pub message-refused : (expected : Bool) (r : Refusal) → read_cemi All (message s) ≡ Err r → received_message expected s ≡ Err r
  unfolding received_message
  message-refused expected r e = ap (answer_by Err (taken_as expected s)) ((refused-iff (cemi_tests All (message s)) r).1 ((cemi-refused All (message s) r).0 e))

  pub message-taken : (expected : Bool) (x : Message) → read_cemi All (message s) ≡ Ok x → received_message expected s ≡ taken_as expected s
  unfolding received_message
  message-taken expected x e = ap (answer_by Err (taken_as expected s)) ((passed-iff (cemi_tests All (message s))).1 ((cemi-accepted All (message s) x).0 e).0)

  -- and its message is the request's
  pub taken-delivered : (x : Message) → read_cemi All (message s) ≡ Ok x → taken_as true s ≡ Ok (Delivered (record { channel = channel_in s; counter = counter_in s; message = x }))
  taken-delivered x e = ap (λ (m : Message). (Ok (Delivered (record { channel = channel_in s; counter = counter_in s; message = m })))) ((cemi-accepted All (message s) x).0 e).1

  module _ (c : Channel) (room : ℕ) (fits : 10 ≤ room) where
    past_room : (ts : List Test) → first_of (ltb room 10 gives SmallRoom ∷ ts) ≡ first_of ts
    past_room ts = rw (le-ltb room 10 fits)

    pub connection-refuses : (r : Refusal) → read_connection request_service s ≡ Err r → received c s room ≡ Err r
    unfolding received
    connection-refuses r e =
        let us : List Test = channel_tests c (is_expected c s || is_behind c s) ++ cemi_tests All (message s) in
        let ts : List Test = connected_tests request_service s in
        ap (answer_by Err (taken_as (is_expected c s) s)) (past_room (ts ++ us) ∙ connection-refused request_service s us e)

    pub connection-passes : read_connection request_service s ≡ Ok tt → received c s room ≡ received_behind c s
    unfolding received received_behind
    connection-passes e =
        let us : List Test = channel_tests c (is_expected c s || is_behind c s) ++ cemi_tests All (message s) in
        let ts : List Test = connected_tests request_service s in
        ap (answer_by Err (taken_as (is_expected c s) s)) (past_room (ts ++ us) ∙ connection-passed request_service s us e)

-- the acknowledgement has room: nothing is sent back where the room is below 10
refused-small : (c : Channel) (s : List ℕ) (room : ℕ) → ltb room 10 ≡ true → received c s room ≡ Err SmallRoom
unfolding received
refused-small c s room e = rw e

sent-least : (a : Result Received Refusal) (s : List ℕ) → length (sent_back a s) ≤ 10
sent-least (Ok (Delivered x)) s = omega (arith, length-acknowledgement (record { channel = channel_in s; counter = counter_in s; status = 0 }))
sent-least (Ok Again) s = omega (arith, length-acknowledgement (record { channel = channel_in s; counter = counter_in s; status = 0 }))
sent-least (Err r) s = omega arith

pub sent-size : (a : Result Received Refusal) (s : List ℕ) (room : ℕ) (c : Channel) → a ≡ received c s room → length (sent_back a s) ≤ room
sent-size a s room c e = by-room (ltb room 10) refl
  where
    by-room : (b : Bool) → ltb room 10 ≡ b → length (sent_back a s) ≤ room
    by-room true h = rw (e ∙ refused-small c s room h) (omega arith)
    by-room false h = omega (arith, sent-least a s, ltb-false room 10 h)

-- the call where the channel is given, as its parts
pub received-on : (c : Channel) (s room : List ℕ) {a : Result Received Refusal} {room' : List ℕ} → a ≡ received c s (length room) → room' ≡ laid (sent_back a s) 0 room → ReceivedOn c s room a room'
received-on c s room {a} e w = record { answers = e; left = w ∙ laid-front (sent_back a s) room (sent-size a s (length room) c e) }

-- two outcomes that a contract allows coincide
module _ {s room : List ℕ} {a₁ a₂ : Result Received Refusal} {r₁ r₂ : List ℕ} where
  pub received-on-one : {c : Channel} → ReceivedOn c s room a₁ r₁ → ReceivedOn c s room a₂ r₂ → (a₁ ≡ a₂) × (r₁ ≡ r₂)
  received-on-one x y =
      let e : a₁ ≡ a₂ = x.answers ∙ sym y.answers in
      (e, x.left ∙ ap (λ (a : Result Received Refusal). over (sent_back a s) room) e ∙ sym y.left)

  pub took_one : {cs cs₁ cs₂ : List Channel} → Took cs s room a₁ cs₁ r₁ → Took cs s room a₂ cs₂ r₂ → (a₁ ≡ a₂) × ((cs₁ ≡ cs₂) × (r₁ ≡ r₂))
  took_one x y =
      let e = called-one x.called y.called in
      (e.0, (e.1, x.left ∙ ap (λ (a : Result Received Refusal). over (sent_back a s) room) e.0 ∙ sym y.left))
