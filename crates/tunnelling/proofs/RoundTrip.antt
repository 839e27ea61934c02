-- Requests, acknowledgements and their readers are inverse: header and connection header over octets that fill the datagram pass their
-- tests, and what passes them is such a datagram (knxnetip's laws of the header). What a request carries is cEMI's round trip, cited.
-- Channel, counter and status are given back as they are, whatever number stands there.
use Rattle.std.specs.Prelude.{Result, Ok, Err}
use Prim.Native.Nat.{ℕ, ◌+◌, ◌≤◌}
use mathlib.Core.List.{List, [], ◌∷◌, ◌++◌}
use mathlib.Core.Path.{◌≡◌, refl, sym, ap, ◌∙◌, subst}
use native.Mathlib.Omega.{arith}
use lib.ListN.{length, drop, drop_of_length-le}
use borrow.Author.Tests.{ltb-false, eqb-true, not-false, le-ltb}
use Rattle.cemi.proofs.Refusals.{accepted-iff}
use Rattle.cemi.proofs.RoundTrip.{plain-read, plain-payload}
use Rattle.cemi.specs.Layout.{plain}
use Rattle.cemi.specs.Reading.{body, message_in, cemi_tests, read_cemi, payload_in}
use Rattle.cemi.specs.Valid.{ValidMessage}
use Rattle.cemi.specs.declared.Codes.TheVariants.{All}
use Rattle.cemi.specs.declared.Message.{Message}
use Rattle.frame.proofs.Order.{passed-iff, first-passed, none-split}
use Rattle.frame.specs.Order.{Test, first_of, answer_by, NoneOf}
use Rattle.knxnetip.proofs.HeaderLaws.{headed, header-laid, header-back}
use Rattle.knxnetip.specs.Header.{header_tests}
use Rattle.octets.proofs.Split.{firsts-drop}
use Rattle.octets.specs.Octets.{octet_at, Octets}
use Rattle.frame.proofs.Apart.{ok-one}
use Rattle.tunnelling.proofs.Refusals.{request-accepted-iff, acknowledgement-accepted-iff}
use Rattle.tunnelling.specs.Layout.{request_service, acknowledgement_service, connected_head, connected, request_octets, acknowledgement_octets}
use Rattle.tunnelling.specs.Reading.{channel_in, counter_in, status_in, message, is_other_connection, connection_tests, connected_tests, read_request, request_message, acknowledgement_tests, read_acknowledgement}
use Rattle.tunnelling.specs.declared.Acknowledgement.{Acknowledgement}
use Rattle.tunnelling.specs.declared.Request.{Request}
use Rattle.frame.specs.declared.Refusal.{Refusal}

-- the two headers, of whichever service

-- the connection header is part of what the header stands over
connection-headed : (service k n u : ℕ) (o : List ℕ) → headed service (0x04 ∷ k ∷ n ∷ u ∷ o) ≡ connected service k n u o
unfolding connected
connection-headed service k n u o =
    let e : 6 + length (0x04 ∷ k ∷ n ∷ u ∷ o) ≡ 10 + length o = omega arith in
    ap (λ (total : ℕ). connected_head service total k n u ++ o) e

pub connected-laid : (service k n u : ℕ) (o : List ℕ) → NoneOf (connected_tests service (connected service k n u o))
unfolding connected is_other_connection
connected-laid service k n u o =
    let s : List ℕ = connected service k n u o in
    let header : NoneOf (header_tests service s) = subst (λ (t : List ℕ). NoneOf (header_tests service t)) (connection-headed service k n u o) (header-laid service (0x04 ∷ k ∷ n ∷ u ∷ o)) in
    (none-split (header_tests service s) (connection_tests s)).1 (header, (le-ltb (length s) 10 (omega arith), (refl, tt)))

pub connected-back : (service : ℕ) (s : List ℕ) → Octets s → NoneOf (connected_tests service s) → s ≡ connected service (channel_in s) (counter_in s) (status_in s) (message s)
unfolding is_other_connection
connected-back service s o n =
    let w = (none-split (header_tests service s) (connection_tests s)).0 n in
    let fits : 10 ≤ length s = ltb-false _ _ w.1.0 in
    let first : octet_at s 6 ≡ 0x04 = eqb-true _ _ (not-false _ w.1.1.0) in
    let behind : drop 6 s ≡ 0x04 ∷ channel_in s ∷ counter_in s ∷ status_in s ∷ message s = firsts-drop 4 6 s fits ∙ (λ j. first j ∷ channel_in s ∷ counter_in s ∷ status_in s ∷ message s) in
    header-back service s o w.0 ∙ ap (headed service) behind ∙ connection-headed service (channel_in s) (counter_in s) (status_in s) (message s)

-- requests

-- cEMI's answer, said of a request with this channel and counter
abbrev pub request_by : ℕ → ℕ → Result Message Refusal → Result Request Refusal
request_by k n (Ok x) = Ok (record { channel = k; counter = n; message = x })
request_by k n (Err r) = Err r

-- the two headers over octets that fill the datagram leave the decision to cEMI, whatever the octet that "isn't read" ..
pub connected-read : (k n u : ℕ) (o : List ℕ) → read_request (connected request_service k n u o) ≡ request_by k n (read_cemi All o)
unfolding read_request read_cemi connected
connected-read k n u o =
    ap answer (first-passed ts (cemi_tests All o) ((passed-iff ts).1 (connected-laid request_service k n u o))) ∙ by-message (first_of (cemi_tests All o))
  where
    x : Message
    x = message_in (octet_at o 0) (body o)

    ts : List Test
    ts = connected_tests request_service (connected request_service k n u o)

    answer : Result (Unit {0}) Refusal → Result Request Refusal
    answer = answer_by Err (Ok (record { channel = k; counter = n; message = x }))

    by-message : (v : Result (Unit {0}) Refusal) → answer v ≡ request_by k n (answer_by Err (Ok x) v)
    by-message (Ok _) = refl
    by-message (Err r) = refl

-- .. and these octets are handed out
pub connected-message : (service k n u : ℕ) (o : List ℕ) (x : Request) → request_message (Ok x) (connected service k n u o) ≡ o
unfolding connected
connected-message service k n u o x = refl

-- what is accepted is the two headers over an accepted message that fills the datagram
pub read-connected : (s : List ℕ) (x : Request) → Octets s → read_request s ≡ Ok x
    → (s ≡ connected request_service x.channel x.counter (octet_at s 9) (message s)) × (read_cemi All (message s) ≡ Ok x.message)
read-connected s x o e =
    let w = (request-accepted-iff s x).0 e in
    let n = (none-split (connected_tests request_service s) (cemi_tests All (message s))).0 w.0 in (
      connected-back request_service s o n.0 ∙ ap (λ (y : Request). connected request_service y.channel y.counter (octet_at s 9) (message s)) w.1,
      (accepted-iff All (message s) x.message).1 (n.1, ap (λ (y : Request). y.message) w.1),
    )

-- a valid message's request is accepted with just that channel, counter, message and payload
pub request-read : (x : Request) (p : List ℕ) → ValidMessage All x.message p → read_request (request_octets x.channel x.counter x.message p) ≡ Ok x
unfolding request_octets
request-read x p v =
    connected-read x.channel x.counter 0x00 (plain x.message p) ∙ ap (request_by x.channel x.counter) (plain-read All x.message p v)

pub request-message : (x : Request) (p : List ℕ) → request_message (Ok x) (request_octets x.channel x.counter x.message p) ≡ plain x.message p
unfolding request_octets
request-message x p = connected-message request_service x.channel x.counter 0x00 (plain x.message p) x

pub request-payload : (x : Request) (p : List ℕ) → payload_in (Ok x.message) (request_message (Ok x) (request_octets x.channel x.counter x.message p)) ≡ p
request-payload x p = ap (payload_in (Ok x.message)) (request-message x p) ∙ plain-payload x.message p

-- a request in plain form survives reading and writing octet for octet
pub request-stays : (s : List ℕ) (x y : Request) (q : List ℕ) → ValidMessage All y.message q → s ≡ request_octets y.channel y.counter y.message q → read_request s ≡ Ok x
    → request_octets x.channel x.counter x.message (payload_in (Ok x.message) (request_message (Ok x) s)) ≡ s
request-stays s x y q v e r =
    let same : y ≡ x = ok-one (sym (request-read y q v) ∙ ap read_request (sym e) ∙ r) in
    let handed : payload_in (Ok y.message) (request_message (Ok y) s) ≡ q = ap (λ (t : List ℕ). payload_in (Ok y.message) (request_message (Ok y) t)) e ∙ request-payload y q in
    ap (λ (z : Request). request_octets z.channel z.counter z.message (payload_in (Ok z.message) (request_message (Ok z) s))) (sym same)
    ∙ ap (request_octets y.channel y.counter y.message) handed
    ∙ sym e

-- acknowledgements

-- every acknowledgement is accepted with just that channel, counter and status ..
pub acknowledgement-read : (a : Acknowledgement) → read_acknowledgement (acknowledgement_octets a) ≡ Ok a
unfolding acknowledgement_octets connected
acknowledgement-read a =
    let s : List ℕ = acknowledgement_octets a in
    let passed = connected-laid acknowledgement_service a.channel a.counter a.status [] in
    (acknowledgement-accepted-iff s a).1 ((none-split (connected_tests acknowledgement_service s) (drop 6 (acknowledgement_tests s))).1 (passed, (refl, tt)), refl)

-- .. and what is accepted is it, octet for octet
pub read-acknowledgement : (s : List ℕ) (a : Acknowledgement) → Octets s → read_acknowledgement s ≡ Ok a → s ≡ acknowledgement_octets a
unfolding acknowledgement_octets
read-acknowledgement s a o e =
    let w = (acknowledgement-accepted-iff s a).0 e in
    let n = (none-split (connected_tests acknowledgement_service s) (drop 6 (acknowledgement_tests s))).0 w.0 in
    let none : message s ≡ [] = drop_of_length-le s (ltb-false _ _ n.1.0) in
    connected-back acknowledgement_service s o n.0 ∙ (λ j. connected acknowledgement_service (w.1 j).channel (w.1 j).counter (w.1 j).status (none j))
