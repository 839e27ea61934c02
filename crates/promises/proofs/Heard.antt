-- Which octets a coupler takes for a frame, and which refusal it gives otherwise: the settings' and the reader's one order. Both readers
-- answer by the first test of their own order, and so do the settings; the two orders one behind the other are one. What is accepted is a
-- layout by the readers' round trips.
use Rattle.std.specs.Prelude.{Result, Ok, Err}
use Prim.Native.Nat.{ℕ, ◌<◌}
use mathlib.Core.Bool.{Bool, true, false}
use mathlib.Core.List.{List}
use mathlib.Core.Logic.{◌↔◌}
use mathlib.Core.Path.{◌≡◌, refl, sym, ap, ◌∙◌, subst}
use lib.Dec.{ltb}
use lib.ListN.{drop}
use borrow.Author.Tests.{ltb-true, eqb-true, not-true, not-false}
use Rattle.cemi.proofs.LayoutLaws.{message-ranges}
use Rattle.cemi.proofs.RoundTrip.{read-laid as cemi-read-laid, laid-read as cemi-laid-read, laid-payload as cemi-laid-payload}
use Rattle.cemi.specs.Layout.{cemi_octets}
use Rattle.cemi.specs.Reading.{body, message_in, information_in}
use Rattle.cemi.specs.Valid.{ValidMessage}
use Rattle.cemi.specs.Writing.{message_in_range}
use Rattle.cemi.specs.declared.Codes.TheVariants.{IndicationOnly}
use Rattle.cemi.specs.declared.Message.{Message}
use Rattle.coupler.proofs.Apart.{frame-nothing, frame-one, nothing-one}
use Rattle.coupler.specs.Step.{Coupler, setting_tests, from_ip, frame, nothing, heard_tp1, heard_ip, read_by, reader_tests, step_tests, after, heard, indication}
use Rattle.frame.proofs.Apart.{err-one}
use Rattle.frame.proofs.Order.{passed-iff, refused-iff, first-passed, first-refused}
use Rattle.frame.specs.Order.{first_of, answer_by, NoneOf, FirstIs}
use Rattle.frame.specs.Valid.{Valid}
use Rattle.frame.specs.declared.Meaning.{Meaning}
use Rattle.frame.specs.declared.Refusal.{Refusal}
use Rattle.promises.proofs.Demand2.{IsFrame, IsMessage, IsDatagram}
use Rattle.octets.proofs.Octets.{octets-drop}
use Rattle.octets.proofs.Truth.{and-true}
use Rattle.octets.specs.Octets.{Octets, octet_at}
use Rattle.routing.proofs.RoundTrip.{read-datagram, datagram-read, datagram-payload}
use Rattle.routing.specs.Layout.{datagram}
use Rattle.routing.specs.Reading.{message, routing_tests, read_routing, routed_payload}
use Rattle.tp1.proofs.RoundTrip.{read-laid, laid-read, laid-payload}
use Rattle.tp1.specs.Layout.{tp1_octets}
use Rattle.tp1.specs.Reading.{meaning_in, payload_in, tp1_tests, read_tp1}

-- octets are the frame of a meaning and a payload, as demand 2 has it: on TP1 a frame, from IP a datagram over an indication of theirs, with
-- some additional information
abbrev pub IsFrameOn : List ℕ → Meaning → List ℕ → Bool → Type 0
IsFrameOn s m p false = IsFrame s m p
IsFrameOn s m p true = (information : List ℕ) × IsDatagram s (indication m) information p

-- a coupler hears a frame: nothing of its settings, side, medium and room is refused, and the octets are that frame
pub record Hears (k : Coupler) (s : List ℕ) (room : ℕ) (m : Meaning) (p : List ℕ) : Type 0 where
  pub set : NoneOf (setting_tests k room)
  pub is : IsFrameOn s m p (from_ip k)

-- then its side is one of the two
pub hears-side : {k : Coupler} {s : List ℕ} {room : ℕ} {m : Meaning} {p : List ℕ} → Hears k s room m p → k.setting.side < 2
hears-side {k} h = ltb-true k.setting.side 2 (and-true (ltb k.setting.side 2) (ltb k.setting.medium 2) (not-false _ h.set.1.1.0)).0

-- a message that is read where only indications are is the indication of its meaning
is-indication : (x : Message) (k : ℕ) → message_in_range IndicationOnly x k ≡ true → x ≡ indication x.meaning
is-indication x k e =
    let r = message-ranges IndicationOnly x k e in
    let c : x.code ≡ 0x29 = eqb-true x.code 0x29 r.code in
    let n : x.error ≡ false = not-true x.error (rw c at r.mark) in
    λ j. record { code = c j; error = n j; meaning = x.meaning }

pub valid-indication : (m : Meaning) (p : List ℕ) → Valid m p → ValidMessage IndicationOnly (indication m) p
unfolding message_in_range
valid-indication m p v = record { ranges = v.ranges; valid = v }

-- what the reader of a medium accepts
pub read-iff : (b : Bool) (s : List ℕ) (m : Meaning) (p : List ℕ) → Octets s → read_by b s ≡ frame m p ↔ IsFrameOn s m p b
read-iff false s m p o = (to (read_tp1 s) refl, from)
  where
    to : (a : Result Meaning Refusal) → read_tp1 s ≡ a → heard_tp1 a s ≡ frame m p → IsFrameOn s m p false
    to (Ok x) q e =
        let f = frame-one e in
        let w = read-laid s x o q in
        subst (λ (y : Meaning). IsFrameOn s y p false) f.0 (subst (λ (l : List ℕ). IsFrameOn s x l false) f.1 (record { valid = w.valid; layout = w.layout }))
    to (Err r) q e = frame-nothing e

    from : IsFrameOn s m p false → heard_tp1 (read_tp1 s) s ≡ frame m p
    from f =
        ap (λ (l : List ℕ). heard_tp1 (read_tp1 l) l) f.layout
        ∙ ap (λ (a : Result Meaning Refusal). heard_tp1 a (tp1_octets m p)) (laid-read m p f.valid)
        ∙ ap (frame m) (laid-payload m p)
read-iff true s m p o = (to (read_routing s) refl, from)
  where
    to : (a : Result Message Refusal) → read_routing s ≡ a → heard_ip a s ≡ frame m p → IsFrameOn s m p true
    to (Ok x) q e =
        let f = frame-one e in
        let d = read-datagram s x o q in
        let w = cemi-read-laid IndicationOnly (drop 6 s) x (octets-drop 6 s o) d.1 in
        let i : x ≡ indication x.meaning = is-indication x _ w.valid.ranges in
        let information : List ℕ = information_in (Ok x) (drop 6 s) in
        let message : IsMessage IndicationOnly (drop 6 s) (indication x.meaning) information (routed_payload (Ok x) s) =
        subst (λ (y : Message). IsMessage IndicationOnly (drop 6 s) y information (routed_payload (Ok x) s)) i
        (record { unread = w.unread; informed = w.information; valid = w.valid; layout = w.layout }) in
        subst (λ (y : Meaning). IsFrameOn s y p true) f.0
        (subst (λ (l : List ℕ). IsFrameOn s x.meaning l true) f.1 (information, record { indication = drop 6 s; message = message; layout = d.0 }))
    to (Err r) q e = frame-nothing e

    from : IsFrameOn s m p true → heard_ip (read_routing s) s ≡ frame m p
    from (i, d) =
        let u = d.message.unread in
        let o : List ℕ = cemi_octets u i (indication m) p in
        let e : s ≡ datagram o = d.layout ∙ ap datagram d.message.layout in
        let q : read_routing (datagram o) ≡ Ok (indication m) = datagram-read o ∙ cemi-laid-read IndicationOnly u i (indication m) p d.message.informed d.message.valid in
        ap (λ (l : List ℕ). heard_ip (read_routing l) l) e
        ∙ ap (λ (a : Result Message Refusal). heard_ip a (datagram o)) q
        ∙ ap (frame m) (datagram-payload (indication m) o ∙ cemi-laid-payload u i (indication m) p)

-- each reader answers by its order
record ByOrder (b : Bool) (s : List ℕ) : Type 0 where
  meaning : Meaning
  payload : List ℕ
  answers : read_by b s ≡ answer_by nothing (frame meaning payload) (first_of (reader_tests b s))

by_order : (b : Bool) (s : List ℕ) → ByOrder b s
unfolding read_tp1 read_routing
by_order false s = record { meaning = meaning_in s; payload = payload_in (Ok (meaning_in s)) s; answers = go (first_of (tp1_tests s)) }
  where
    go : (v : Result (Unit {0}) Refusal) → heard_tp1 (answer_by Err (Ok (meaning_in s)) v) s ≡ answer_by nothing (frame (meaning_in s) (payload_in (Ok (meaning_in s)) s)) v
    go (Ok _) = refl
    go (Err r) = refl
by_order true s = go (message_in (octet_at (message s) 0) (body (message s))) refl
  where
    go : (x : Message) → message_in (octet_at (message s) 0) (body (message s)) ≡ x → ByOrder true s
    go x e = record { meaning = x.meaning; payload = routed_payload (Ok x) s; answers = rw e (by (first_of (routing_tests s))) }
      where
        by : (v : Result (Unit {0}) Refusal) → heard_ip (answer_by Err (Ok x) v) s ≡ answer_by nothing (frame x.meaning (routed_payload (Ok x) s)) v
        by (Ok _) = refl
        by (Err r) = refl

module _ (k : Coupler) (s : List ℕ) (room : ℕ) where
  -- a frame is heard exactly if ..
  pub hears-iff : (m : Meaning) (p : List ℕ) → Octets s → heard k s room ≡ frame m p ↔ Hears k s room m p
  unfolding heard
  hears-iff m p o = (to (first_of (setting_tests k room)) refl, from)
    where
      to : (v : Result (Unit {0}) Refusal) → first_of (setting_tests k room) ≡ v → after v (read_by (from_ip k) s) ≡ frame m p → Hears k s room m p
      to (Ok _) e q = record { set = (passed-iff (setting_tests k room)).0 e; is = (read-iff (from_ip k) s m p o).0 q }
      to (Err r) e q = frame-nothing q

      from : Hears k s room m p → after (first_of (setting_tests k room)) (read_by (from_ip k) s) ≡ frame m p
      from h = ap (λ (v : Result (Unit {0}) Refusal). after v (read_by (from_ip k) s)) ((passed-iff (setting_tests k room)).1 h.set) ∙ (read-iff (from_ip k) s m p o).1 h.is

  order : ByOrder (from_ip k) s
  order = by_order (from_ip k) s

  -- .. and a refusal is given exactly if it is the first of the one order
  pub refuses-iff : (r : Refusal) → heard k s room ≡ nothing r ↔ FirstIs (step_tests k s room) r
  unfolding heard
  refuses-iff r = (
    (λ e. (refused-iff (step_tests k s room) r).0 (to (first_of (setting_tests k room)) refl e)),
    (λ f. from (first_of (setting_tests k room)) refl ((refused-iff (step_tests k s room) r).1 f)),
  )
    where
      read : (v : Result (Unit {0}) Refusal) → answer_by nothing (frame order.meaning order.payload) v ≡ nothing r → v ≡ Err r
      read (Ok _) e = frame-nothing (sym e)
      read (Err q) e = ap Err (nothing-one e)

      to : (v : Result (Unit {0}) Refusal) → first_of (setting_tests k room) ≡ v → after v (read_by (from_ip k) s) ≡ nothing r → first_of (step_tests k s room) ≡ Err r
      to (Ok _) e q = first-passed (setting_tests k room) (reader_tests (from_ip k) s) e ∙ read _ (sym order.answers ∙ q)
      to (Err x) e q = first-refused (setting_tests k room) (reader_tests (from_ip k) s) x e ∙ ap Err (nothing-one q)

      from : (v : Result (Unit {0}) Refusal) → first_of (setting_tests k room) ≡ v → first_of (step_tests k s room) ≡ Err r → after (first_of (setting_tests k room)) (read_by (from_ip k) s) ≡ nothing r
      from (Ok _) e q =
          ap (λ (v : Result (Unit {0}) Refusal). after v (read_by (from_ip k) s)) e
          ∙ order.answers
          ∙ ap (answer_by nothing (frame order.meaning order.payload)) (sym (first-passed (setting_tests k room) (reader_tests (from_ip k) s) e) ∙ q)
      from (Err x) e q =
          ap (λ (v : Result (Unit {0}) Refusal). after v (read_by (from_ip k) s)) e
          ∙ ap nothing (err-one (sym (first-refused (setting_tests k room) (reader_tests (from_ip k) s) x e) ∙ q))
