-- Demand 2 of the two tunnelling services: "octets are accepted exactly if they are a frame .. cEMI comes back in plain form with equal
-- meaning." By document 02, R-1, the octets are "KNXnet/IP TUNNELLING_REQUEST (0420h) and TUNNELLING_ACK (0421h)": "After the KNXnet/IP header
-- come 04h, channel, counter, 00h (status in the acknowledgement)", and "The octet 00h isn't read." What a request carries is Demand2's of
-- cEMI; the two headers over it leave all to that, and an acknowledgement has every octet read.
use Rattle.std.specs.Prelude.{Result, Ok, Err}
use Prim.Native.Nat.{ℕ}
use mathlib.Core.Bool.{true}
use mathlib.Core.List.{List, []}
use mathlib.Core.Logic.{◌↔◌}
use mathlib.Core.Path.{◌≡◌, refl, sym, ap, ◌∙◌, subst}
use lib.ListN.{length}
use Rattle.cemi.proofs.Answers.{cemi-tells}
use Rattle.cemi.specs.Answers.{cemi_numbered}
use Rattle.cemi.specs.Layout.{plain}
use Rattle.cemi.specs.Reading.{read_cemi, payload_in, information_in}
use Rattle.cemi.specs.Valid.{ValidMessage}
use Rattle.cemi.specs.Writing.{message_in_range}
use Rattle.cemi.specs.declared.Codes.TheVariants.{All}
use Rattle.frame.specs.Answers.{Numbered, accepted}
use Rattle.frame.specs.Writing.{Wrote}
use Rattle.octets.proofs.Octets.{octets-drop}
use Rattle.octets.specs.Octets.{octet_at, Octets}
use Rattle.tunnelling.proofs.Answers.{request-apart, request-tells, acknowledgement-tells}
use Rattle.tunnelling.proofs.RoundTrip.{request_by, connected-read, connected-message, read-connected, acknowledgement-read, read-acknowledgement}
use Rattle.tunnelling.specs.Answers.{request_values, request_numbered, acknowledgement_values, acknowledgement_numbered}
use Rattle.tunnelling.specs.Layout.{request_service, connected, request_octets, acknowledgement_octets}
use Rattle.tunnelling.specs.Reading.{message, read_request, request_message, read_acknowledgement}
use Rattle.tunnelling.specs.declared.Acknowledgement.{Acknowledgement}
use Rattle.tunnelling.specs.declared.Request.{Request}
use Rattle.promises.proofs.Demand2.{number_of, CemiAccepts, IsMessage, message-accepts, cemi-accepted-exactly, plain-accepts, Takes, TakesAndReads, taken, taken-and-read}
use Rattle.frame.specs.declared.Refusal.{Refusal}

-- requests: "octets are accepted exactly if they are a frame"

-- number 0 with the values of this channel, counter and message; and what is handed out is read as that message, with these parts
pub record RequestAccepts (s : List ℕ) (x : Request) (information p : List ℕ) : Type 0 where
  pub answer : request_numbered (read_request s) ≡ accepted (request_values x)
  pub handed : CemiAccepts All (request_message (read_request s) s) x.message information p

-- header and connection header over the octets of this message, payload and additional information, with some octet for the one that
-- "isn't read"; "all three message codes are read"
pub record IsRequest (s : List ℕ) (x : Request) (information p : List ℕ) : Type 0 where
  pub unread : ℕ
  pub carried : List ℕ
  pub carries : IsMessage All carried x.message information p
  pub layout : s ≡ connected request_service x.channel x.counter unread carried

request-zero : (a : Result Request Refusal) → (request_numbered a).number ≡ 0 → (x : Request) × (a ≡ Ok x)
request-zero (Ok x) z = (x, refl)
request-zero (Err r) z = absurd ((request-tells.zero (Err r)).0 z r refl)

-- the two headers over octets that fill the datagram leave all to cEMI
request-accepts : (u : ℕ) (o : List ℕ) (x : Request) (i p : List ℕ) → CemiAccepts All o x.message i p → RequestAccepts (connected request_service x.channel x.counter u o) x i p
request-accepts u o x i p a =
    let s : List ℕ = connected request_service x.channel x.counter u o in
    let m : read_cemi All o ≡ Ok x.message = cemi-tells.apart (read_cemi All o) (Ok x.message) a.answer in
    let e : read_request s ≡ Ok x = connected-read x.channel x.counter u o ∙ ap (request_by x.channel x.counter) m in
    let h : request_message (read_request s) s ≡ o = ap (λ (r : Result Request Refusal). request_message r s) e ∙ connected-message request_service x.channel x.counter u o x in
    record { answer = ap request_numbered e; handed = subst (λ (t : List ℕ). CemiAccepts All t x.message i p) (sym h) a }

-- as this request exactly if they are its octets ..
pub request-accepted-exactly : (s : List ℕ) (x : Request) (information p : List ℕ) → Octets s → RequestAccepts s x information p ↔ IsRequest s x information p
request-accepted-exactly s x i p o = (
  (λ a.
      let e : read_request s ≡ Ok x = request-tells.apart (read_request s) (Ok x) a.answer in
      let h : request_message (read_request s) s ≡ message s = ap (λ (r : Result Request Refusal). request_message r s) e in
      record {
        unread = octet_at s 9;
        carried = message s;
        carries = (cemi-accepted-exactly All (message s) x.message i p (octets-drop 10 s o)).0 (subst (λ (t : List ℕ). CemiAccepts All t x.message i p) h a.handed);
        layout = (read-connected s x o e).0;
      }),
  (λ f. rw f.layout (request-accepts f.unread f.carried x i p (message-accepts All f.carries))),
)

-- .. and with number 0 exactly if they are some request's
pub request-zero-exactly : (s : List ℕ) → Octets s → (request_numbered (read_request s)).number ≡ 0 ↔ ((x : Request) × ((information : List ℕ) × ((p : List ℕ) × IsRequest s x information p)))
request-zero-exactly s o = (
  (λ z.
      let f = request-zero (read_request s) z in
      let x : Request = f.0 in
      let h : List ℕ = request_message (read_request s) s in
      let i : List ℕ = information_in (read_cemi All h) h in
      let p : List ℕ = payload_in (read_cemi All h) h in
      let e : read_cemi All h ≡ Ok x.message = ap (λ (r : Result Request Refusal). read_cemi All (request_message r s)) f.1 ∙ (read-connected s x o f.1).1 in
      (x, (i, (p, (request-accepted-exactly s x i p o).0 (record { answer = ap request_numbered f.1; handed = record { answer = ap cemi_numbered e; informed = refl; payload = refl } }))))),
  (λ f. ap number_of ((request-accepted-exactly s f.0 f.1.0 f.1.1.0 o).1 f.1.1.1).answer),
)

-- round trips: the writer takes what the reader accepted

request-plain-accepts : (x : Request) (p : List ℕ) → ValidMessage All x.message p → RequestAccepts (request_octets x.channel x.counter x.message p) x [] p
unfolding request_octets
request-plain-accepts x p v = request-accepts 0x00 (plain x.message p) x [] p (plain-accepts All x.message p v)

-- what was written reads as what was given: channel, counter, message and payload, with no additional information
pub request-written-reads : (x : Request) (p room after : List ℕ) (answer : Result ℕ Refusal) → ValidMessage All x.message p
    → Wrote (message_in_range All x.message (length p)) (request_octets x.channel x.counter x.message p) room answer after
    → TakesAndReads (request_octets x.channel x.counter x.message p) room answer after (λ o. RequestAccepts o x [] p)
request-written-reads x p room after answer v w = taken-and-read v.ranges w (λ o. RequestAccepts o x [] p) (request-plain-accepts x p v)

-- "cEMI comes back in plain form with equal meaning": what came is the layout of what was read; and that, written again with its channel and
-- counter, is its plain form, which reads as the same request, with the same payload and no additional information
pub request-comes-back : (s : List ℕ) (x : Request) (information p room after : List ℕ) (answer : Result ℕ Refusal) → Octets s → RequestAccepts s x information p
    → Wrote (message_in_range All x.message (length p)) (request_octets x.channel x.counter x.message p) room answer after
    → IsRequest s x information p × TakesAndReads (request_octets x.channel x.counter x.message p) room answer after (λ o. RequestAccepts o x [] p)
request-comes-back s x i p room after answer o a w =
    let f = (request-accepted-exactly s x i p o).0 a in
    (f, request-written-reads x p room after answer f.carries.valid w)

-- what came in plain form stays, octet for octet
pub request-plain-stays : (x y : Request) (information p q room after : List ℕ) (answer : Result ℕ Refusal) → ValidMessage All y.message q
    → RequestAccepts (request_octets y.channel y.counter y.message q) x information p
    → Wrote (message_in_range All x.message (length p)) (request_octets x.channel x.counter x.message p) room answer after
    → Takes (request_octets y.channel y.counter y.message q) room answer after
request-plain-stays x y i p q room after answer v a w =
    let b = request-plain-accepts y q v in
    let same : x ≡ y = request-apart x y (ap (λ (n : Numbered). n.values) (sym a.answer ∙ b.answer)) in
    taken v.ranges (rw (same, sym a.handed.payload ∙ b.handed.payload) at w)

-- acknowledgements: number 0 with the values of this one ..
pub record AcknowledgementAccepts (s : List ℕ) (a : Acknowledgement) : Type 0 where
  pub answer : acknowledgement_numbered (read_acknowledgement s) ≡ accepted (acknowledgement_values a)

-- .. and its octets: none is left to choose, "status in the acknowledgement"
pub record IsAcknowledgement (s : List ℕ) (a : Acknowledgement) : Type 0 where
  pub layout : s ≡ acknowledgement_octets a

acknowledgement-zero : (r : Result Acknowledgement Refusal) → (acknowledgement_numbered r).number ≡ 0 → (a : Acknowledgement) × (r ≡ Ok a)
acknowledgement-zero (Ok a) z = (a, refl)
acknowledgement-zero (Err q) z = absurd ((acknowledgement-tells.zero (Err q)).0 z q refl)

acknowledgement-accepts : (a : Acknowledgement) → AcknowledgementAccepts (acknowledgement_octets a) a
acknowledgement-accepts a = record { answer = ap acknowledgement_numbered (acknowledgement-read a) }

pub acknowledgement-accepted-exactly : (s : List ℕ) (a : Acknowledgement) → Octets s → AcknowledgementAccepts s a ↔ IsAcknowledgement s a
acknowledgement-accepted-exactly s a o = (
  (λ c. record { layout = read-acknowledgement s a o (acknowledgement-tells.apart (read_acknowledgement s) (Ok a) c.answer) }),
  (λ f. rw f.layout (acknowledgement-accepts a)),
)

pub acknowledgement-zero-exactly : (s : List ℕ) → Octets s → (acknowledgement_numbered (read_acknowledgement s)).number ≡ 0 ↔ ((a : Acknowledgement) × IsAcknowledgement s a)
acknowledgement-zero-exactly s o = (
  (λ z.
      let f = acknowledgement-zero (read_acknowledgement s) z in
      (f.0, (acknowledgement-accepted-exactly s f.0 o).0 (record { answer = ap acknowledgement_numbered f.1 }))),
  (λ f. ap number_of ((acknowledgement-accepted-exactly s f.0 o).1 f.1).answer),
)

-- what was read, written again, is what came, octet for octet; whatever the numbers, nothing but the room refuses it
pub acknowledgement-survives : (s : List ℕ) (a : Acknowledgement) (room after : List ℕ) (answer : Result ℕ Refusal) → Octets s → AcknowledgementAccepts s a
    → Wrote true (acknowledgement_octets a) room answer after → Takes s room answer after
acknowledgement-survives s a room after answer o c w =
    subst (λ (t : List ℕ). Takes t room answer after) (sym ((acknowledgement-accepted-exactly s a o).0 c).layout) (taken refl w)

-- the other way round: what was written reads as what was given
pub acknowledgement-written-reads : (a : Acknowledgement) (room after : List ℕ) (answer : Result ℕ Refusal)
    → Wrote true (acknowledgement_octets a) room answer after → TakesAndReads (acknowledgement_octets a) room answer after (λ o. AcknowledgementAccepts o a)
acknowledgement-written-reads a room after answer w = taken-and-read refl w (λ o. AcknowledgementAccepts o a) (acknowledgement-accepts a)
