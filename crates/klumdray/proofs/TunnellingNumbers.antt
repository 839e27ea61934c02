-- The numbers of tunnelling's calls taken apart again: each is what the call inside answers, and nothing is lost.
use Rattle.std.specs.Prelude.{Result, Ok, Err}
use Prim.Native.Nat.{ℕ, ◌+◌, ◌≤◌, ◌<◌}
use mathlib.Core.Bool.{Bool, true, false, not, ◌&&◌}
use mathlib.Core.List.{List, [], ◌∷◌}
use mathlib.Core.Path.{◌≡◌, refl, sym, ap, ◌∙◌}
use native.Mathlib.Omega.{arith}
use lib.Dec.{eqb}
use lib.ListN.{length, get_or}
use Rattle.frame.proofs.Apart.{err-ok, err-one, ok-one}
use Rattle.cemi.proofs.RoundTrip.{read-laid as cemi-laid}
use Rattle.cemi.specs.Answers.{message_values, cemi_numbered}
use Rattle.cemi.specs.Reading.{payload_in as cemi_payload}
use Rattle.cemi.specs.Writing.{message_in_range}
use Rattle.cemi.specs.Valid.{ValidMessage}
use Rattle.cemi.specs.declared.Codes.TheVariants.{All}
use Rattle.cemi.specs.declared.Message.{Message}
use Rattle.channels.specs.Table.{channel_at}
use Rattle.exchange.proofs.Apart.{delivered-again}
use Rattle.exchange.proofs.Exactly.{Arrives, delivered-iff}
use Rattle.exchange.specs.Answers.{received_numbered, confirmed_numbered}
use Rattle.exchange.specs.Receiving.{delivered_message}
use Rattle.exchange.specs.declared.Confirmed.TheVariants.{Raised, Kept}
use Rattle.exchange.specs.declared.Confirmed.{Confirmed}
use Rattle.exchange.specs.declared.Received.TheVariants.{Delivered, Again}
use Rattle.exchange.specs.declared.Received.{Received}
use Rattle.frame.proofs.Numbers.{number-listed, number-some, refused-number}
use Rattle.frame.specs.Answers.{Numbered, written_numbered}
use Rattle.frame.specs.Refusals.{number}
use Rattle.frame.specs.Writing.{room_after}
use Rattle.frame.specs.declared.Refusal.{Refusal}
use Rattle.klumdray.proofs.Bits.{Field, ◌holding◌, packed, Fit, read_back, below}
use Rattle.klumdray.proofs.ChannelLaws.{sent-put}
use Rattle.klumdray.proofs.ReaderNumbers.{code-some, cemi-answer}
use Rattle.klumdray.proofs.Telling.{number-alone, tells-refused, tells-accepted, accepted-values}
use Rattle.klumdray.proofs.WriterNumbers.{written-answer, request-most}
use Rattle.klumdray.specs.Channels.{channels_in, are_channels, received_number, delivered_payload, confirmed_number, received_through, confirmed_through, sent_through, TookThrough, SentThrough, ConfirmedThrough}
use Rattle.klumdray.specs.Decoding.{number_in, written_in, written_from, code_number_in, message_code_in, error_mark_in, meaning_values_in, delivered_in, cemi_from, request_from, acknowledged_from, confirmed_from, received_from, Tells, TellsReading, TellsTaking}
use Rattle.klumdray.specs.Numbers.{message_number, cemi_number, message_answer, request_payload, request_answered, acknowledged_number, acknowledgement_answered}
use Rattle.octets.proofs.Octets.{octets-drop}
use Rattle.octets.proofs.Truth.{by_cases, never}
use Rattle.octets.specs.Octets.{Octets}
use Rattle.octets.specs.Room.{over}
use Rattle.tunnelling.proofs.LayoutLaws.{length-request}
use Rattle.tunnelling.proofs.Refusals.{request-accepted-iff, acknowledgement-accepted-iff}
use Rattle.tunnelling.proofs.RoundTrip.{read-connected}
use Rattle.tunnelling.specs.Answers.{request_numbered, acknowledgement_numbered}
use Rattle.tunnelling.specs.Layout.{request_octets}
use Rattle.tunnelling.specs.Reading.{channel_in, counter_in, message, read_request, read_acknowledgement, request_in}
use Rattle.tunnelling.specs.declared.Acknowledgement.{Acknowledgement}
use Rattle.tunnelling.specs.declared.Request.{Request}

-- a request that is told by its message's number; channel and counter are the datagram's own
record Carries (s : List ℕ) (x : Request) (p : List ℕ) : Type 0 where
  valid : ValidMessage All x.message p
  channel : x.channel ≡ channel_in s
  counter : x.counter ≡ counter_in s

module _ (s : List ℕ) (x : Request) (p : List ℕ) (c : Carries s x p) where
  abbrev told : ℕ
  told = message_number x.message (length p)

  message-told : TellsReading 59 cemi_from told (cemi_numbered (Ok x.message)) (λ r. Ok x.message ≡ Err r) p
  message-told = cemi-answer All (Ok x.message) p (λ y e. rw (← ok-one e) c.valid) (λ r e. err-ok (sym e))

  none : number_in told ≡ 0
  none = message-told.told.accepted.1 (λ r e. err-ok (sym e))

  values : message_code_in told ∷ error_mark_in told ∷ meaning_values_in told ≡ message_values x.message
  values = sym (accepted-values told (message_code_in told ∷ error_mark_in told ∷ meaning_values_in told) none) ∙ ap (λ (i : Numbered). i.values) message-told.told.decoded

  coded : eqb (code_number_in told) 0 ≡ false
  coded = code-some All x.message p c.valid

  request-decoded : request_from s told ≡ request_numbered (Ok x)
  request-decoded = rw (none, values, c.channel, c.counter)

  delivered-decoded : received_from s told ≡ received_numbered (Ok (Delivered x))
  delivered-decoded = rw (none, coded, values, c.channel, c.counter)

-- a request that is read, and its payload
request-carries : (s : List ℕ) (x : Request) → Octets s → read_request s ≡ Ok x → Carries s x (cemi_payload (Ok x.message) (message s))
request-carries s x o e =
    let same : request_in s ≡ x = ((request-accepted-iff s x).0 e).1 in
    record {
      valid = (cemi-laid All (message s) x.message (octets-drop 10 s o) (read-connected s x o e).1).valid;
      channel = ap (λ (y : Request). y.channel) (sym same);
      counter = ap (λ (y : Request). y.counter) (sym same);
    }

request-answer : (s : List ℕ) (a : Result Request Refusal) (p : List ℕ) → ((x : Request) → a ≡ Ok x → Carries s x p) → ((r : Refusal) → a ≡ Err r → p ≡ [])
    → TellsReading 59 (request_from s) (cemi_number (message_answer a) (length p)) (request_numbered a) (λ r. a ≡ Err r) p
request-answer s (Ok x) p v n =
    let c = v x refl in
    let t = message-told s x p c in
    record {
      told = tells-accepted (none s x p c) (λ r e. err-ok (sym e)) t.told.fits (request-decoded s x p c);
      size = t.size;
      some = t.some;
    }
request-answer s (Err q) p v n = record {
  told = tells-refused q refl refl (λ r. err-one) (omega arith) (rw (number-alone q, refused-number q));
  size = rw (n q refl) (omega (arith, (number-listed q).1));
  some = λ z. absurd (number-some q (sym (number-alone q) ∙ z));
}

-- an acknowledgement: three octets above the number
module _ (a : Acknowledgement) (k : a.channel < 256) (n : a.counter < 256) (u : a.status < 256) where
  abbrev ack_fields : List Field
  ack_fields = 8 holding 0 ∷ 8 holding a.channel ∷ 8 holding a.counter ∷ 8 holding a.status ∷ []

  ack-fit : Fit ack_fields
  ack-fit = (omega arith, (k, (n, (u, tt))))

  ack-packed : acknowledged_number (Ok a) ≡ packed ack_fields
  ack-packed = omega arith

  ack-told : Tells 32 acknowledged_from (acknowledged_number (Ok a)) (acknowledgement_numbered (Ok a)) (λ r. Ok a ≡ Err r)
  ack-told =
      let field = read_back ack_fields (acknowledged_number (Ok a)) ack-fit ack-packed in
      let z : number_in (acknowledged_number (Ok a)) ≡ 0 = field 0 (omega arith) in
      tells-accepted z (λ r e. err-ok (sym e)) (below ack_fields (acknowledged_number (Ok a)) ack-fit ack-packed)
      (rw (z, field 1 (omega arith), field 2 (omega arith), field 3 (omega arith)))

ack-answer : (a : Result Acknowledgement Refusal) → ((b : Acknowledgement) → a ≡ Ok b → (b.channel < 256) × ((b.counter < 256) × (b.status < 256)))
    → Tells 32 acknowledged_from (acknowledged_number a) (acknowledgement_numbered a) (λ r. a ≡ Err r)
ack-answer (Ok b) h = let f = h b refl in ack-told b f.0 f.1.0 f.1.1
ack-answer (Err q) h = tells-refused q refl refl (λ r. err-one) (omega arith) (rw (number-alone q, refused-number q))

module _ (s : List ℕ) (o : Octets s) where
  pub request-tells : TellsReading 59 (request_from s) (request_answered s) (request_numbered (read_request s)) (λ r. read_request s ≡ Err r) (request_payload (read_request s) s)
  request-tells = request-answer s (read_request s) (request_payload (read_request s) s) (λ x e. rw e (request-carries s x o e)) (λ r e. rw e)

  pub acknowledgement-tells : Tells 32 acknowledged_from (acknowledgement_answered s) (acknowledgement_numbered (read_acknowledgement s)) (λ r. read_acknowledgement s ≡ Err r)
  acknowledgement-tells = ack-answer (read_acknowledgement s) (λ a e. rw (← ((acknowledgement-accepted-iff s a).0 e).1) (o 7, (o 8, o 9)))

-- what a request that arrives is told as

again-told : (s p : List ℕ) → p ≡ [] → TellsTaking s 0 (Ok Again) p
again-told s p e = record {
  told = tells-accepted refl (λ r f. err-ok (sym f)) (omega arith) refl;
  size = rw e refl;
  delivers = ((λ f. never (sym f)), λ f. delivered-again (sym f.1));
}

refused-told : (s : List ℕ) (q : Refusal) (p : List ℕ) → p ≡ [] → TellsTaking s (number q) (Err q) p
refused-told s q p e =
    let none : code_number_in (number q) ≡ 0 = omega (arith, (number-listed q).1) in
    record {
      told = tells-refused q refl refl (λ r. err-one) (omega arith) (rw (number-alone q, refused-number q));
      size = rw e (omega (arith, (number-listed q).1));
      delivers = ((λ f. never (sym f ∙ ap (λ (n : ℕ). not (eqb n 0)) none)), λ f. err-ok f.1);
    }

received-answer : (s : List ℕ) (a : Result Received Refusal) → ((x : Request) → a ≡ Ok (Delivered x) → Carries s x (cemi_payload (Ok x.message) (message s)))
    → TellsTaking s (received_number a (length (delivered_payload a (delivered_message a s)))) a (delivered_payload a (delivered_message a s))
received-answer s (Ok (Delivered x)) v =
    let p : List ℕ = cemi_payload (Ok x.message) (message s) in
    let c = v x refl in
    let t = message-told s x p c in
    record {
      told = tells-accepted (none s x p c) (λ r e. err-ok (sym e)) t.told.fits (delivered-decoded s x p c);
      size = t.size;
      delivers = ((λ e. (x, refl)), λ e. ap not (coded s x p c));
    }
received-answer s (Ok Again) v = again-told s [] refl
received-answer s (Err q) v = refused-told s q [] refl

-- delivered only from a block of the right size, by an open channel
pub delivered-inside : (block s : List ℕ) (room : ℕ) (x : Request) → received_through block s room ≡ Ok (Delivered x)
    → (are_channels block ≡ true) × Arrives (channel_at (channels_in block) (channel_in s)) s room x
unfolding received_through
delivered-inside block s room x e =
    by_cases (are_channels block)
    (λ b. (b, ((delivered-iff (channel_at (channels_in block) (channel_in s)) s room x).0 (rw b at e)).0))
    (λ b. err-ok (rw b at e))

module _ {block s room : List ℕ} {answer : ℕ} {block' room' : List ℕ} (o : Octets s) (w : TookThrough block s room answer block' room') where
  pub took-told : TellsTaking s answer (received_through block s (length room)) (delivered_payload (received_through block s (length room)) (delivered_message (received_through block s (length room)) s))
  took-told = rw w.answers (received-answer s (received_through block s (length room)) (λ x e. request-carries s x o (delivered-inside block s (length room) x e).1.read))

  -- delivered: the answer is the reader's of the same datagram
  pub took-reads : delivered_in answer ≡ true → answer ≡ request_answered s
  took-reads d =
      let e = took-told.delivers.0 d in
      let f : read_request s ≡ Ok e.0 = (delivered-inside block s (length room) e.0 e.1).1.read in
      w.answers
      ∙ ap (λ (a : Result Received Refusal). received_number a (length (delivered_payload a (delivered_message a s)))) e.1
      ∙ sym (ap (λ (a : Result Request Refusal). cemi_number (message_answer a) (length (request_payload a s))) f)

-- what an acknowledgement that arrives is told as
confirmed-answer : (a : Result Confirmed Refusal) → Tells 9 confirmed_from (confirmed_number a) (confirmed_numbered a) (λ r. a ≡ Err r)
confirmed-answer (Ok Raised) = tells-accepted refl (λ r e. err-ok (sym e)) (omega arith) refl
confirmed-answer (Ok Kept) = tells-accepted refl (λ r e. err-ok (sym e)) (omega arith) refl
confirmed-answer (Err q) = tells-refused q refl refl (λ r. err-one) (omega arith) (rw (number-alone q, refused-number q))

pub confirmed-told : {block s : List ℕ} {answer : ℕ} {block' : List ℕ} → ConfirmedThrough block s answer block'
    → Tells 9 confirmed_from answer (confirmed_numbered (confirmed_through block s)) (λ r. confirmed_through block s ≡ Err r)
confirmed-told {block} {s} w = rw w.answers (confirmed-answer (confirmed_through block s))

-- what a request that is sent is told as
module _ {fit : Bool} {block : List ℕ} {n : ℕ} {x : Message} {p room : List ℕ} {answer : ℕ} {room' : List ℕ} (w : SentThrough fit block n x p room answer room') where
  abbrev octets : List ℕ
  octets = request_octets n (channel_at (channels_in block) n).send x p

  put-size : (k : ℕ) → sent_through fit block n x p (length room) ≡ Ok k → (length octets ≡ k) × (length octets ≤ 274)
  put-size k e =
      let f = sent-put (are_channels block && fit && message_in_range All x (length p)) (channel_at (channels_in block) n) octets (length room) k e in
      (f.1, request-most (are_channels block && fit) n (channel_at (channels_in block) n).send x p f.0)

  pub sent-told : Tells 64 written_from answer (written_numbered (sent_through fit block n x p (length room))) (λ r. sent_through fit block n x p (length room) ≡ Err r)
  sent-told = rw w.answers (written-answer (sent_through fit block n x p (length room)) (λ k e. let f = put-size k e in omega (arith, f.0, f.1)))

  -- sent: the whole request, with the channel's send counter
  pub sent-whole : number_in answer ≡ 0 → (written_in answer ≡ length p + 19) × (room' ≡ over (request_octets n (channel_at (channels_in block) n).send x p) room)
  sent-whole z = go (sent_through fit block n x p (length room)) refl
    where
      go : (v : Result ℕ Refusal) → sent_through fit block n x p (length room) ≡ v → (written_in answer ≡ length p + 19) × (room' ≡ over octets room)
      go (Ok k) e =
          let d : written_from answer ≡ written_numbered (Ok k) = sent-told.decoded ∙ ap written_numbered e in
          let v : written_in answer ∷ [] ≡ k ∷ [] = sym (accepted-values answer (written_in answer ∷ []) z) ∙ ap (λ (i : Numbered). i.values) d in
          let f : written_in answer ≡ k = ap (λ (l : List ℕ). get_or l 0 0) v in
          (omega (arith, f, (put-size k e).0, length-request n (channel_at (channels_in block) n).send x p), w.left ∙ ap (λ (u : Result ℕ Refusal). room_after u octets room) e)
      go (Err r) e = absurd (sent-told.accepted.0 z r e)

  -- refused: the room as it was
  pub sent-leaves : (number_in answer ≡ 0 → ⊥) → room' ≡ room
  sent-leaves h = go (sent_through fit block n x p (length room)) refl
    where
      go : (v : Result ℕ Refusal) → sent_through fit block n x p (length room) ≡ v → room' ≡ room
      go (Ok k) e = absurd (h (sent-told.accepted.1 (λ r f. err-ok (sym f ∙ e))))
      go (Err r) e = w.left ∙ ap (λ (u : Result ℕ Refusal). room_after u octets room) e
