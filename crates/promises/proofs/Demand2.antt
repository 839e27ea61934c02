-- Demand 2, exact: "octets are accepted exactly if they are a frame. TP1 survives read and write octet for octet; cEMI comes back in plain
-- form with equal meaning." Accepted is the number 0; what was read are the answer's values and the parts handed out, so that each sentence
-- is of meaning and payload. Of a writer: whatever its contract `Wrote` allows, for every room. The coupler's sentence is in Step.
use Rattle.std.specs.Prelude.{Result, Ok, Err}
use Prim.Native.Nat.{ℕ, ◌≤◌, ◌<◌}
use mathlib.Core.Bool.{Bool, true, false}
use mathlib.Core.List.{List, [], ◌∷◌, ◌++◌}
use mathlib.Core.Logic.{◌↔◌}
use mathlib.Core.Path.{◌≡◌, refl, sym, ap, ◌∙◌, subst}
use lib.Dec.{ltb}
use lib.ListN.{length, take, drop}
use lib.Seq.{take_at}
use borrow.Author.Tests.{ltb-true, ltb-false}
use Rattle.cemi.proofs.Answers.{message-apart, cemi-tells}
use Rattle.cemi.specs.Answers.{message_values, cemi_numbered}
use Rattle.cemi.specs.Layout.{Unread, cemi_octets, plain}
use Rattle.cemi.specs.Reading.{read_cemi, payload_in, information_in}
use Rattle.cemi.specs.Valid.{ValidMessage, ValidInformation}
use Rattle.cemi.specs.Writing.{message_in_range}
use Rattle.cemi.specs.declared.Codes.TheVariants.{IndicationOnly}
use Rattle.cemi.specs.declared.Codes.{Codes}
use Rattle.cemi.specs.declared.Message.{Message}
use Rattle.frame.proofs.Answers.{written-tells}
use Rattle.frame.proofs.Writing.{unroomed-iff, put-iff, wrote-over}
use Rattle.frame.specs.Answers.{Numbered, accepted, refused, meaning_values, written_numbered}
use Rattle.frame.specs.Valid.{in_range, Valid}
use Rattle.frame.specs.Writing.{room_after, Wrote}
use Rattle.frame.specs.declared.Meaning.{Meaning}
use Rattle.frame.specs.declared.Refusal.TheVariants.{SmallRoom}
use Rattle.octets.proofs.Octets.{octets-drop}
use Rattle.octets.specs.Octets.{Octets}
use Rattle.routing.specs.Layout.{datagram, routing_octets}
use Rattle.routing.specs.Reading.{read_routing, routed_payload, routed_information}
use Rattle.tp1.proofs.Answers.{tp1-tells}
use Rattle.tp1.specs.Answers.{tp1_numbered}
use Rattle.tp1.specs.Layout.{tp1_octets}
use Rattle.tp1.proofs.RoundTrip.{laid-read as tp1-laid-read, laid-payload as tp1-laid-payload, read-laid as tp1-read-laid}
use Rattle.cemi.proofs.RoundTrip.{laid-read, laid-payload, laid-information, read-laid, plain-read, plain-payload, plain-information}
use Rattle.routing.proofs.RoundTrip.{datagram-read, datagram-payload, datagram-information, read-datagram}
use Rattle.tp1.specs.Reading.{read_tp1, payload_in as tp1_payload}
use Rattle.frame.specs.declared.Refusal.{Refusal}

-- an answer by its number and values, and back

abbrev pub number_of : Numbered → ℕ
number_of n = n.number

tp1-zero : (a : Result Meaning Refusal) → (tp1_numbered a).number ≡ 0 → (m : Meaning) × (a ≡ Ok m)
tp1-zero (Ok m) z = (m, refl)
tp1-zero (Err r) z = absurd ((tp1-tells.zero (Err r)).0 z r refl)

cemi-zero : (a : Result Message Refusal) → (cemi_numbered a).number ≡ 0 → (x : Message) × (a ≡ Ok x)
cemi-zero (Ok x) z = (x, refl)
cemi-zero (Err r) z = absurd ((cemi-tells.zero (Err r)).0 z r refl)

-- "octets are accepted exactly if they are a frame"

-- TP1: number 0 with the values of this meaning, and this payload handed out
pub record Tp1Accepts (s : List ℕ) (m : Meaning) (p : List ℕ) : Type 0 where
  pub answer : tp1_numbered (read_tp1 s) ≡ accepted (meaning_values m)
  pub payload : tp1_payload (read_tp1 s) s ≡ p

-- the octets of a frame with this meaning and payload
pub record IsFrame (s : List ℕ) (m : Meaning) (p : List ℕ) : Type 0 where
  pub valid : Valid m p
  pub layout : s ≡ tp1_octets m p

tp1-accepts : (m : Meaning) (p : List ℕ) → Valid m p → Tp1Accepts (tp1_octets m p) m p
tp1-accepts m p v =
    let e : read_tp1 (tp1_octets m p) ≡ Ok m = tp1-laid-read m p v in
    record { answer = ap tp1_numbered e; payload = ap (λ (r : Result Meaning Refusal). tp1_payload r (tp1_octets m p)) e ∙ tp1-laid-payload m p }

-- with this meaning and payload exactly if they are that frame's octets ..
pub tp1-accepted-exactly : (s : List ℕ) (m : Meaning) (p : List ℕ) → Octets s → Tp1Accepts s m p ↔ IsFrame s m p
tp1-accepted-exactly s m p o = (
  (λ a.
      let e : read_tp1 s ≡ Ok m = tp1-tells.apart (read_tp1 s) (Ok m) a.answer in
      let f = tp1-read-laid s m o e in
      let q : tp1_payload (Ok m) s ≡ p = ap (λ (r : Result Meaning Refusal). tp1_payload r s) (sym e) ∙ a.payload in
      record { valid = subst (Valid m) q f.valid; layout = subst (λ (p : List ℕ). s ≡ tp1_octets m p) q f.layout }),
  (λ f. rw f.layout (tp1-accepts m p f.valid)),
)

-- .. and with number 0 exactly if they are some frame's
pub tp1-zero-exactly : (s : List ℕ) → Octets s → (tp1_numbered (read_tp1 s)).number ≡ 0 ↔ ((m : Meaning) × ((p : List ℕ) × IsFrame s m p))
tp1-zero-exactly s o = (
  (λ z.
      let f = tp1-zero (read_tp1 s) z in
      let p : List ℕ = tp1_payload (read_tp1 s) s in
      (f.0, (p, (tp1-accepted-exactly s f.0 p o).0 (record { answer = ap tp1_numbered f.1; payload = refl })))),
  (λ f. ap number_of ((tp1-accepted-exactly s f.0 f.1.0 o).1 f.1.1).answer),
)

-- cEMI: number 0 with the values of this message, and these parts handed out
pub record CemiAccepts (codes : Codes) (s : List ℕ) (x : Message) (information p : List ℕ) : Type 0 where
  pub answer : cemi_numbered (read_cemi codes s) ≡ accepted (message_values x)
  pub informed : information_in (read_cemi codes s) s ≡ information
  pub payload : payload_in (read_cemi codes s) s ≡ p

-- the octets of this message, payload and additional information, with some bits of Ctrl1 that "are not read"
pub record IsMessage (codes : Codes) (s : List ℕ) (x : Message) (information p : List ℕ) : Type 0 where
  pub unread : Unread
  pub informed : ValidInformation information
  pub valid : ValidMessage codes x p
  pub layout : s ≡ cemi_octets unread information x p

cemi-accepts : (codes : Codes) (u : Unread) (i : List ℕ) (x : Message) (p : List ℕ) → ValidInformation i → ValidMessage codes x p → CemiAccepts codes (cemi_octets u i x p) x i p
cemi-accepts codes u i x p w v =
    let s : List ℕ = cemi_octets u i x p in
    let e : read_cemi codes s ≡ Ok x = laid-read codes u i x p w v in
    record {
      answer = ap cemi_numbered e;
      informed = ap (λ (r : Result Message Refusal). information_in r s) e ∙ laid-information u i x p;
      payload = ap (λ (r : Result Message Refusal). payload_in r s) e ∙ laid-payload u i x p;
    }

pub message-accepts : (codes : Codes) {s : List ℕ} {x : Message} {i p : List ℕ} → IsMessage codes s x i p → CemiAccepts codes s x i p
message-accepts codes {s} {x} {i} {p} f = rw f.layout (cemi-accepts codes f.unread i x p f.informed f.valid)

pub cemi-accepted-exactly : (codes : Codes) (s : List ℕ) (x : Message) (information p : List ℕ) → Octets s → CemiAccepts codes s x information p ↔ IsMessage codes s x information p
cemi-accepted-exactly codes s x i p o = (
  (λ a.
      let e : read_cemi codes s ≡ Ok x = cemi-tells.apart (read_cemi codes s) (Ok x) a.answer in
      let f = read-laid codes s x o e in
      let j : information_in (Ok x) s ≡ i = ap (λ (r : Result Message Refusal). information_in r s) (sym e) ∙ a.informed in
      let q : payload_in (Ok x) s ≡ p = ap (λ (r : Result Message Refusal). payload_in r s) (sym e) ∙ a.payload in
      record {
        unread = f.unread;
        informed = subst ValidInformation j f.information;
        valid = subst (ValidMessage codes x) q f.valid;
        layout = f.layout ∙ (λ k. cemi_octets f.unread (j k) x (q k));
      }),
  message-accepts codes,
)

pub cemi-zero-exactly : (codes : Codes) (s : List ℕ) → Octets s
    → (cemi_numbered (read_cemi codes s)).number ≡ 0 ↔ ((x : Message) × ((information : List ℕ) × ((p : List ℕ) × IsMessage codes s x information p)))
cemi-zero-exactly codes s o = (
  (λ z.
      let f = cemi-zero (read_cemi codes s) z in
      let i : List ℕ = information_in (read_cemi codes s) s in
      let p : List ℕ = payload_in (read_cemi codes s) s in
      (f.0, (i, (p, (cemi-accepted-exactly codes s f.0 i p o).0 (record { answer = ap cemi_numbered f.1; informed = refl; payload = refl }))))),
  (λ f. ap number_of ((cemi-accepted-exactly codes s f.0 f.1.0 f.1.1.0 o).1 f.1.1.1).answer),
)

-- routing: the same of a datagram
pub record RoutingAccepts (s : List ℕ) (x : Message) (information p : List ℕ) : Type 0 where
  pub answer : cemi_numbered (read_routing s) ≡ accepted (message_values x)
  pub informed : routed_information (read_routing s) s ≡ information
  pub payload : routed_payload (read_routing s) s ≡ p

-- "06h, 10h, 0530h, total length (2), then one cEMI indication"
pub record IsDatagram (s : List ℕ) (x : Message) (information p : List ℕ) : Type 0 where
  pub indication : List ℕ
  pub message : IsMessage IndicationOnly indication x information p
  pub layout : s ≡ datagram indication

-- the header over octets that fill the datagram leaves all to cEMI
routing-accepts : (o : List ℕ) (x : Message) (i p : List ℕ) → CemiAccepts IndicationOnly o x i p → RoutingAccepts (datagram o) x i p
routing-accepts o x i p a =
    let e : read_cemi IndicationOnly o ≡ Ok x = cemi-tells.apart (read_cemi IndicationOnly o) (Ok x) a.answer in
    let f : read_routing (datagram o) ≡ Ok x = datagram-read o ∙ e in
    record {
      answer = ap cemi_numbered f;
      informed = ap (λ (r : Result Message Refusal). routed_information r (datagram o)) f ∙ datagram-information x o ∙ ap (λ (r : Result Message Refusal). information_in r o) (sym e) ∙ a.informed;
      payload = ap (λ (r : Result Message Refusal). routed_payload r (datagram o)) f ∙ datagram-payload x o ∙ ap (λ (r : Result Message Refusal). payload_in r o) (sym e) ∙ a.payload;
    }

pub routing-accepted-exactly : (s : List ℕ) (x : Message) (information p : List ℕ) → Octets s → RoutingAccepts s x information p ↔ IsDatagram s x information p
routing-accepted-exactly s x i p o = (
  (λ a.
      let e : read_routing s ≡ Ok x = cemi-tells.apart (read_routing s) (Ok x) a.answer in
      let d = read-datagram s x o e in
      let same : read_cemi IndicationOnly (drop 6 s) ≡ read_routing s = d.1 ∙ sym e in
      record {
        indication = drop 6 s;
        message = (cemi-accepted-exactly IndicationOnly (drop 6 s) x i p (octets-drop 6 s o)).0 (record {
          answer = ap cemi_numbered same ∙ a.answer;
          informed = ap (λ (r : Result Message Refusal). information_in r (drop 6 s)) same ∙ a.informed;
          payload = ap (λ (r : Result Message Refusal). payload_in r (drop 6 s)) same ∙ a.payload;
        });
        layout = d.0;
      }),
  (λ f. rw f.layout (routing-accepts f.indication x i p (message-accepts IndicationOnly f.message))),
)

pub routing-zero-exactly : (s : List ℕ) → Octets s → (cemi_numbered (read_routing s)).number ≡ 0 ↔ ((x : Message) × ((information : List ℕ) × ((p : List ℕ) × IsDatagram s x information p)))
routing-zero-exactly s o = (
  (λ z.
      let f = cemi-zero (read_routing s) z in
      let i : List ℕ = routed_information (read_routing s) s in
      let p : List ℕ = routed_payload (read_routing s) s in
      (f.0, (i, (p, (routing-accepted-exactly s f.0 i p o).0 (record { answer = ap cemi_numbered f.1; informed = refl; payload = refl }))))),
  (λ f. ap number_of ((routing-accepted-exactly s f.0 f.1.0 f.1.1.0 o).1 f.1.1.1).answer),
)

-- round trips: the writer takes what the reader accepted

-- octets that a writer takes, whatever the room: "13, exactly when the room is below the written size; octets behind it stay"
pub record Takes (octets room : List ℕ) (answer : Result ℕ Refusal) (after : List ℕ) : Type 0 where
  pub fits : length octets ≤ length room → (written_numbered answer ≡ accepted (length octets ∷ [])) × (after ≡ octets ++ drop (length octets) room)
  pub small : length room < length octets → (written_numbered answer ≡ refused SmallRoom) × (after ≡ room)

-- and what stands at the front of the room is read so
pub record TakesAndReads (octets room : List ℕ) (answer : Result ℕ Refusal) (after : List ℕ) (Reads : List ℕ → Type 0) : Type 0 where
  pub takes : Takes octets room answer after
  pub reads : length octets ≤ length room → Reads (take (length octets) after)

-- that leaves one answer and one room
pub takes_one : {octets room : List ℕ} {a b : Result ℕ Refusal} {after after' : List ℕ} → Takes octets room a after → Takes octets room b after' → (a ≡ b) × (after ≡ after')
takes_one {octets} {room} {a} {b} {after} {after'} x y = go (ltb (length room) (length octets)) refl
  where
    both : {n : Numbered} {l : List ℕ} → (written_numbered a ≡ n) × (after ≡ l) → (written_numbered b ≡ n) × (after' ≡ l) → (a ≡ b) × (after ≡ after')
    both p q = (written-tells.apart a b (p.0 ∙ sym q.0), p.1 ∙ sym q.1)

    go : (t : Bool) → ltb (length room) (length octets) ≡ t → (a ≡ b) × (after ≡ after')
    go true e = both (x.small (ltb-true _ _ e)) (y.small (ltb-true _ _ e))
    go false e = both (x.fits (ltb-false _ _ e)) (y.fits (ltb-false _ _ e))

-- where no number is outside its range, a writer takes the octets
module _ {ranged : Bool} {octets room : List ℕ} {answer : Result ℕ Refusal} {after : List ℕ} (e : ranged ≡ true) (w : Wrote ranged octets room answer after) where
  pub taken : Takes octets room answer after
  taken = record {
    fits = λ h. (ap written_numbered (w.answered ∙ (put-iff ranged octets room (length octets)).1 (e, (h, refl))), wrote-over e h w);
    small = λ h.
        let a : answer ≡ Err SmallRoom = w.answered ∙ (unroomed-iff ranged octets room).1 (e, h) in
        (ap written_numbered a, w.left ∙ ap (λ (v : Result ℕ Refusal). room_after v octets room) a);
  }

  pub taken-and-read : (Reads : List ℕ → Type 0) → Reads octets → TakesAndReads octets room answer after Reads
  taken-and-read Reads r = record {
    takes = taken;
    reads = λ h. subst Reads (sym (ap (take (length octets)) (wrote-over e h w) ∙ take_at octets (drop (length octets) room) (length octets) refl)) r;
  }

-- "TP1 survives read and write octet for octet": what was read, written again, is what came
pub tp1-survives : (s : List ℕ) (m : Meaning) (p room after : List ℕ) (answer : Result ℕ Refusal) → Octets s → Tp1Accepts s m p
    → Wrote (in_range m (length p)) (tp1_octets m p) room answer after → Takes s room answer after
tp1-survives s m p room after answer o a w =
    let f = (tp1-accepted-exactly s m p o).0 a in
    subst (λ (t : List ℕ). Takes t room answer after) (sym f.layout) (taken f.valid.ranges w)

-- the other way round: what was written reads as what was given, meaning and payload
pub tp1-written-reads : (m : Meaning) (p room after : List ℕ) (answer : Result ℕ Refusal) → Valid m p
    → Wrote (in_range m (length p)) (tp1_octets m p) room answer after → TakesAndReads (tp1_octets m p) room answer after (λ o. Tp1Accepts o m p)
tp1-written-reads m p room after answer v w = taken-and-read v.ranges w (λ o. Tp1Accepts o m p) (tp1-accepts m p v)

-- the plain form reads as what it was made of, with no additional information
pub plain-accepts : (codes : Codes) (x : Message) (p : List ℕ) → ValidMessage codes x p → CemiAccepts codes (plain x p) x [] p
plain-accepts codes x p v =
    let e : read_cemi codes (plain x p) ≡ Ok x = plain-read codes x p v in
    record {
      answer = ap cemi_numbered e;
      informed = ap (λ (r : Result Message Refusal). information_in r (plain x p)) e ∙ plain-information x p;
      payload = ap (λ (r : Result Message Refusal). payload_in r (plain x p)) e ∙ plain-payload x p;
    }

routed-accepts : (x : Message) (p : List ℕ) → ValidMessage IndicationOnly x p → RoutingAccepts (routing_octets x p) x [] p
unfolding routing_octets
routed-accepts x p v = routing-accepts (plain x p) x [] p (plain-accepts IndicationOnly x p v)

pub cemi-written-reads : (codes : Codes) (x : Message) (p room after : List ℕ) (answer : Result ℕ Refusal) → ValidMessage codes x p
    → Wrote (message_in_range codes x (length p)) (plain x p) room answer after → TakesAndReads (plain x p) room answer after (λ o. CemiAccepts codes o x [] p)
cemi-written-reads codes x p room after answer v w = taken-and-read v.ranges w (λ o. CemiAccepts codes o x [] p) (plain-accepts codes x p v)

pub routing-written-reads : (x : Message) (p room after : List ℕ) (answer : Result ℕ Refusal) → ValidMessage IndicationOnly x p
    → Wrote (message_in_range IndicationOnly x (length p)) (routing_octets x p) room answer after → TakesAndReads (routing_octets x p) room answer after (λ o. RoutingAccepts o x [] p)
routing-written-reads x p room after answer v w = taken-and-read v.ranges w (λ o. RoutingAccepts o x [] p) (routed-accepts x p v)

-- "cEMI comes back in plain form with equal meaning": what came is the layout of what was read; and that, written again, is its plain form,
-- which reads with the same message, the same payload and no additional information
pub cemi-comes-back : (codes : Codes) (s : List ℕ) (x : Message) (information p room after : List ℕ) (answer : Result ℕ Refusal) → Octets s → CemiAccepts codes s x information p
    → Wrote (message_in_range codes x (length p)) (plain x p) room answer after
    → IsMessage codes s x information p × TakesAndReads (plain x p) room answer after (λ o. CemiAccepts codes o x [] p)
cemi-comes-back codes s x i p room after answer o a w =
    let f = (cemi-accepted-exactly codes s x i p o).0 a in
    (f, cemi-written-reads codes x p room after answer f.valid w)

pub routing-comes-back : (s : List ℕ) (x : Message) (information p room after : List ℕ) (answer : Result ℕ Refusal) → Octets s → RoutingAccepts s x information p
    → Wrote (message_in_range IndicationOnly x (length p)) (routing_octets x p) room answer after
    → IsDatagram s x information p × TakesAndReads (routing_octets x p) room answer after (λ o. RoutingAccepts o x [] p)
routing-comes-back s x i p room after answer o a w =
    let f = (routing-accepted-exactly s x i p o).0 a in
    (f, routing-written-reads x p room after answer f.message.valid w)

-- one answer has one message
message-one : (x y : Message) {n : Numbered} → n ≡ accepted (message_values x) → n ≡ accepted (message_values y) → x ≡ y
message-one x y e f = message-apart x y (ap (λ (n : Numbered). n.values) (sym e ∙ f))

-- what came in plain form stays, octet for octet
pub cemi-plain-stays : (codes : Codes) (x y : Message) (information p q room after : List ℕ) (answer : Result ℕ Refusal) → ValidMessage codes y q → CemiAccepts codes (plain y q) x information p
    → Wrote (message_in_range codes x (length p)) (plain x p) room answer after → Takes (plain y q) room answer after
cemi-plain-stays codes x y i p q room after answer v a w =
    let b = plain-accepts codes y q v in
    taken v.ranges (rw (message-one x y a.answer b.answer, sym a.payload ∙ b.payload) at w)

pub routing-plain-stays : (x y : Message) (information p q room after : List ℕ) (answer : Result ℕ Refusal) → ValidMessage IndicationOnly y q → RoutingAccepts (routing_octets y q) x information p
    → Wrote (message_in_range IndicationOnly x (length p)) (routing_octets x p) room answer after → Takes (routing_octets y q) room answer after
routing-plain-stays x y i p q room after answer v a w =
    let b = routed-accepts y q v in
    taken v.ranges (rw (message-one x y a.answer b.answer, sym a.payload ∙ b.payload) at w)
