-- Where the header's formulas say that a part begins, there the inner call's part lies, and it is as long: of accepted octets, whose size is
-- what the layout says.
use Rattle.std.specs.Prelude.{Result, Ok, Err}
use Prim.Native.Nat.{ℕ, ◌+◌, ◌-◌, ◌≤◌}
use mathlib.Core.Bool.{Bool, true, false}
use mathlib.Core.List.{List}
use mathlib.Core.Path.{◌≡◌, refl, sym, ap, ◌∙◌}
use native.Mathlib.Omega.{arith}
use lib.ListN.{length, take, drop, get_or, length-drop}
use lib.Seq.{take_all, drop-drop}
use borrow.Author.Tests.{lt-ltb, le-leb}
use Rattle.cemi.specs.Reading.{information_size, read_cemi, information_in, information_at}
use Rattle.cemi.specs.declared.Codes.{Codes}
use Rattle.cemi.specs.declared.Codes.TheVariants.{All, IndicationOnly}
use Rattle.cemi.specs.declared.Message.{Message}
use Rattle.frame.proofs.Valid.{ranges-of}
use Rattle.frame.specs.Answers.{Numbered, meaning_values}
use Rattle.klumdray.proofs.ReaderNumbers.{tp1-tells, cemi-tells, routing-tells}
use Rattle.klumdray.proofs.Telling.{accepted-values}
use Rattle.klumdray.proofs.TunnellingNumbers.{request-tells}
use Rattle.klumdray.specs.Decoding.{number_in, extended_in, payload_length_in, meaning_values_in, tp1_payload_start, message_payload_start, cemi_information_start, cemi_information_length, routing_information_start, routing_information_length, tunnelling_message_start, tunnelling_information_start, tunnelling_information_length, LiesAt, MessageParts}
use Rattle.klumdray.specs.Numbers.{tp1_answered, cemi_answered, routing_answered, message_answer, request_payload, request_answered}
use Rattle.octets.proofs.Octets.{octets-drop}
use Rattle.octets.specs.Octets.{Octets, weigh}
use Rattle.routing.proofs.RoundTrip.{read-datagram}
use Rattle.routing.specs.Reading.{read_routing, routed_payload, routed_payload_at, routed_information, routed_information_at}
use Rattle.tp1.proofs.LayoutLaws.{length-octets}
use Rattle.tp1.proofs.RoundTrip.{read-laid}
use Rattle.tp1.specs.Answers.{tp1_numbered}
use Rattle.tp1.specs.Layout.{head_of}
use Rattle.tp1.specs.Reading.{read_tp1, payload_in, payload_at}
use Rattle.tunnelling.proofs.RoundTrip.{read-connected}
use Rattle.tunnelling.specs.Reading.{message, read_request, request_message, request_message_at}
use Rattle.cemi.proofs.RoundTrip.{read-laid as cemi-laid}
use Rattle.cemi.specs.Reading.{payload_in as cemi_payload, payload_at as cemi_payload_at}
use Rattle.frame.specs.declared.Refusal.{Refusal}
use Rattle.tunnelling.specs.declared.Request.{Request}
use Rattle.frame.specs.declared.Meaning.{Meaning}

-- TP1

tp1-start : (b : Bool) (n : ℕ) → extended_in n ≡ weigh b 1 → tp1_payload_start n ≡ head_of b
tp1-start true n e = rw e
tp1-start false n e = rw e

module _ (s : List ℕ) (o : Octets s) where
  pub tp1-payload : number_in (tp1_answered s) ≡ 0 → LiesAt s (tp1_payload_start (tp1_answered s)) (payload_length_in (tp1_answered s)) (payload_at (read_tp1 s) s) (payload_in (read_tp1 s) s)
  tp1-payload z = go (read_tp1 s) refl
    where
      go : (a : Result Meaning Refusal) → read_tp1 s ≡ a → LiesAt s (tp1_payload_start (tp1_answered s)) (payload_length_in (tp1_answered s)) (payload_at (read_tp1 s) s) (payload_in (read_tp1 s) s)
      go (Ok m) e =
          let H : ℕ = head_of m.extended in
          let f = read-laid s m o e in
          let p : List ℕ = payload_in (Ok m) s in
          let n : length s ≡ H + length p + 1 = ap length f.layout ∙ length-octets m p in
          let v : meaning_values_in (tp1_answered s) ≡ meaning_values m = sym (accepted-values (tp1_answered s) (meaning_values_in (tp1_answered s)) z) ∙ ap (λ (i : Numbered). i.values) ((tp1-tells s o).told.decoded ∙ ap tp1_numbered e) in
          let x : extended_in (tp1_answered s) ≡ weigh m.extended 1 = ap (λ (l : List ℕ). get_or l 0 0) v in
          let l : payload_length_in (tp1_answered s) ≡ length p = (tp1-tells s o).size ∙ ap (λ (a : Result Meaning Refusal). length (payload_in a s)) e in
          let k : length s - 1 - H ≡ length p = omega arith in
          rw (tp1-start m.extended (tp1_answered s) x, l, e) (record {
            within = omega arith;
            at = rw (lt-ltb H (length s) (omega arith));
            holds = ap (λ (i : ℕ). take i (drop H s)) (sym k);
          })
      go (Err r) e = absurd ((tp1-tells s o).told.accepted.0 z r e)

-- cEMI: the payload is what follows the a octets and the nine others, to the end

module _ (codes : Codes) (t : List ℕ) (x : Message) (o : Octets t) (e : read_cemi codes t ≡ Ok x) where
  abbrev a : ℕ
  a = information_size t

  abbrev payload : List ℕ
  payload = cemi_payload (Ok x) t

  some : 1 ≤ length payload
  some = (ranges-of x.meaning (length payload) (cemi-laid codes t x o e).valid.valid.ranges).some

  size : 9 + a + length payload ≡ length t
  size = omega (arith, length-drop (9 + a) t, some)

  payload-lies : (start k : ℕ) → start ≡ 9 + a → k ≡ length payload → LiesAt t start k (cemi_payload_at (Ok x) t) payload
  payload-lies start k es ek = rw (es, ek) (record {
    within = omega (arith, size);
    at = rw (lt-ltb (9 + a) (length t) (omega (arith, size, some)));
    holds = take_all (length payload) payload (omega arith);
  })

  information-lies : (k : ℕ) → k ≡ a → LiesAt t 2 k (information_at (Ok x) t) (information_in (Ok x) t)
  information-lies k ek = rw (ek, le-leb (2 + a) (length t) (omega (arith, size))) (record {
    within = omega (arith, size);
    at = refl;
    holds = refl;
  })

module _ (s : List ℕ) (o : Octets s) where
  pub cemi-parts : number_in (cemi_answered s) ≡ 0
      → MessageParts s (cemi_answered s) cemi_information_start (cemi_information_length (cemi_answered s) (length s))
      (information_at (read_cemi All s) s) (information_in (read_cemi All s) s) (cemi_payload_at (read_cemi All s) s) (cemi_payload (read_cemi All s) s)
  cemi-parts z = go (read_cemi All s) refl
    where
      go : (c : Result Message Refusal) → read_cemi All s ≡ c
          → MessageParts s (cemi_answered s) cemi_information_start (cemi_information_length (cemi_answered s) (length s)) (information_at c s) (information_in c s) (cemi_payload_at c s) (cemi_payload c s)
      go (Ok x) e =
          let k : payload_length_in (cemi_answered s) ≡ length (cemi_payload (Ok x) s) = (cemi-tells s o).size ∙ ap (λ (c : Result Message Refusal). length (cemi_payload c s)) e in
          let n : 9 + information_size s + length (cemi_payload (Ok x) s) ≡ length s = size All s x o e in
          record {
            information = information-lies All s x o e (cemi_information_length (cemi_answered s) (length s)) (omega arith);
            payload = payload-lies All s x o e (message_payload_start (cemi_answered s) (length s)) (payload_length_in (cemi_answered s)) (omega arith) k;
            between = omega arith;
            end = omega arith;
          }
      go (Err r) e = absurd ((cemi-tells s o).told.accepted.0 z r e)

  -- a datagram's message starts behind its head of n octets
  behind : (n start size place : ℕ) (part : List ℕ) → n ≤ length s → LiesAt (drop n s) start size place part → LiesAt s (n + start) size (n + place) part
  behind n start size place part h x = record {
    within = omega (arith, x.within, length-drop n s);
    at = ap (λ (i : ℕ). n + i) x.at;
    holds = rw (← drop-drop start n s) x.holds;
  }

  pub routing-parts : number_in (routing_answered s) ≡ 0
      → MessageParts s (routing_answered s) routing_information_start (routing_information_length (routing_answered s) (length s))
      (routed_information_at (read_routing s) s) (routed_information (read_routing s) s) (routed_payload_at (read_routing s) s) (routed_payload (read_routing s) s)
  routing-parts z = go (read_routing s) refl
    where
      go : (c : Result Message Refusal) → read_routing s ≡ c
          → MessageParts s (routing_answered s) routing_information_start (routing_information_length (routing_answered s) (length s))
          (routed_information_at c s) (routed_information c s) (routed_payload_at c s) (routed_payload c s)
      go (Ok x) e =
          let t : List ℕ = drop 6 s in
          let q : List ℕ = cemi_payload (Ok x) t in
          let f = (read-datagram s x o e).1 in
          let ot : Octets t = octets-drop 6 s o in
          let k : payload_length_in (routing_answered s) ≡ length q = (routing-tells s o).size ∙ ap (λ (c : Result Message Refusal). length (routed_payload c s)) e in
          let n : 9 + information_size t + length q ≡ length t = size IndicationOnly t x ot f in
          let m : length t ≡ length s - 6 = length-drop 6 s in
          let h : 6 ≤ length s = omega arith in
          let start : message_payload_start (routing_answered s) (length s) ≡ 6 + (9 + information_size t) = omega arith in
          rw (le-leb 6 (length s) h) (record {
            information = behind 6 2 _ _ _ h (information-lies IndicationOnly t x ot f (routing_information_length (routing_answered s) (length s)) (omega arith));
            payload = rw start (behind 6 (9 + information_size t) _ _ _ h (payload-lies IndicationOnly t x ot f (9 + information_size t) (payload_length_in (routing_answered s)) refl k));
            between = omega arith;
            end = omega arith;
          })
      go (Err r) e = absurd ((routing-tells s o).told.accepted.0 z r e)

  -- a request's message, and the message's parts
  abbrev request : Result Request Refusal
  request = read_request s

  pub request-message : number_in (request_answered s) ≡ 0 → LiesAt s tunnelling_message_start (length s - tunnelling_message_start) (request_message_at (read_request s) s) (request_message (read_request s) s)
  request-message z = go request refl
    where
      go : (a : Result Request Refusal) → read_request s ≡ a → LiesAt s tunnelling_message_start (length s - tunnelling_message_start) (request_message_at a s) (request_message a s)
      go (Ok x) e =
          let t : List ℕ = message s in
          let n = size All t x.message (octets-drop 10 s o) (read-connected s x o e).1 in
          let h : 10 ≤ length s = omega (arith, n, length-drop 10 s) in
          record {
            within = omega (arith, h);
            at = rw (le-leb 10 (length s) h);
            holds = take_all (length s - 10) t (omega (arith, length-drop 10 s));
          }
      go (Err r) e = absurd ((request-tells s o).told.accepted.0 z r e)

  pub request-parts : number_in (request_answered s) ≡ 0
      → MessageParts s (request_answered s) tunnelling_information_start (tunnelling_information_length (request_answered s) (length s))
      (request_message_at (read_request s) s + information_at (message_answer (read_request s)) (request_message (read_request s) s)) (information_in (message_answer (read_request s)) (request_message (read_request s) s))
      (request_message_at (read_request s) s + cemi_payload_at (message_answer (read_request s)) (request_message (read_request s) s)) (request_payload (read_request s) s)
  request-parts z = go request refl
    where
      go : (a : Result Request Refusal) → read_request s ≡ a
          → MessageParts s (request_answered s) tunnelling_information_start (tunnelling_information_length (request_answered s) (length s))
          (request_message_at a s + information_at (message_answer a) (request_message a s)) (information_in (message_answer a) (request_message a s))
          (request_message_at a s + cemi_payload_at (message_answer a) (request_message a s)) (request_payload a s)
      go (Ok x) e =
          let t : List ℕ = message s in
          let q : List ℕ = cemi_payload (Ok x.message) t in
          let f = (read-connected s x o e).1 in
          let ot : Octets t = octets-drop 10 s o in
          let k : payload_length_in (request_answered s) ≡ length q = (request-tells s o).size ∙ ap (λ (a : Result Request Refusal). length (request_payload a s)) e in
          let n : 9 + information_size t + length q ≡ length t = size All t x.message ot f in
          let m : length t ≡ length s - 10 = length-drop 10 s in
          let h : 10 ≤ length s = omega arith in
          let start : message_payload_start (request_answered s) (length s) ≡ 10 + (9 + information_size t) = omega arith in
          rw (le-leb 10 (length s) h) (record {
            information = behind 10 2 _ _ _ h (information-lies All t x.message ot f (tunnelling_information_length (request_answered s) (length s)) (omega arith));
            payload = rw start (behind 10 (9 + information_size t) _ _ _ h (payload-lies All t x.message ot f (9 + information_size t) (payload_length_in (request_answered s)) refl k));
            between = omega arith;
            end = omega arith;
          })
      go (Err r) e = absurd ((request-tells s o).told.accepted.0 z r e)
