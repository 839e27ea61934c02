-- Demand 1, total: "whatever octets arrive, every call ends with its answer or with the one numbered refusal that its case lists. Callers
-- check nothing beforehand. A refused call writes to no buffer and changes no memory." That every call ends, and asks nothing, is in
-- Determined: `free` of each `-stated`, and the proofs of the functions themselves. Here: which answer or refusal, by its number and values,
-- and what a refusal leaves.
use Rattle.std.specs.Prelude.{Result, Ok, Err}
use Rattle.frame.proofs.Apart.{err-ok}
use Prim.Native.Nat.{ℕ, ◌≤◌}
use mathlib.Core.Bool.{Bool}
use mathlib.Core.List.{List, [], ◌∷◌, ◌++◌}
use mathlib.Core.Path.{◌≡◌, refl, sym, ap, ◌∙◌}
use lib.ListN.{length, drop}
use Rattle.cemi.specs.Answers.{message_values, cemi_numbered}
use Rattle.cemi.specs.Reading.{body, message_in, cemi_tests, read_cemi, payload_in, information_in}
use Rattle.cemi.specs.declared.Codes.{Codes}
use Rattle.frame.proofs.Numbers.{number-listed, number-not-22, number-some, number-apart}
use Rattle.frame.specs.Answers.{Numbered, accepted, refused, meaning_values, written_numbered, verdict_numbered}
use Rattle.frame.specs.Order.{Test, first_of, answer_by}
use Rattle.frame.specs.Refusals.{number, last_number}
use Rattle.frame.specs.Writing.{write_tests, written, Wrote}
use Rattle.frame.specs.declared.Refusal.{Refusal}
use Rattle.octets.specs.Octets.{octet_at}
use Rattle.octets.specs.Room.{over}
use Rattle.knxnetip.specs.Header.{header_tests, read_header}
use Rattle.routing.specs.Reading.{message, routing_tests, read_routing, routed_payload, routed_information}
use Rattle.site.specs.Stores.{Stores}
use Rattle.site.specs.WellFormed.{site_tests}
use Rattle.tp1.specs.Answers.{tp1_numbered}
use Rattle.tp1.specs.Reading.{meaning_in, tp1_tests, read_tp1, payload_in as tp1_payload}
use Rattle.tunnelling.specs.Answers.{request_values, request_numbered, acknowledgement_values, acknowledgement_numbered}
use Rattle.tunnelling.specs.Reading.{connected_tests, read_connection, request_tests, request_in, read_request, request_message, acknowledgement_tests, acknowledgement_in, read_acknowledgement}
use Rattle.tracer.proofs.Answers.{why-answers, why-reason}
use Rattle.tracer.specs.Answers.{explanation_numbered}
use Rattle.tracer.specs.Listing.{lines_listed, forwardings}
use Rattle.tracer.specs.declared.Query.{Query}
use Rattle.tracer.specs.Tracing.{trace_tests, traced_by, list_by, DidTrace}
use Rattle.tracer.specs.Why.{why_of, why_tests, answer_why}
use Rattle.tracer.specs.declared.Traced.{Traced}
use Rattle.promises.proofs.Ends.{Ends, EndsNumbered, ends_by}

-- the numbers of refusals are the table's, 1 to the last but for 22, each stands for one, and 0 for none
pub numbers-listed : (r : Refusal) → (1 ≤ number r) × ((number r ≤ last_number) × (number r ≡ 22 → ⊥))
numbers-listed r = ((number-listed r).0, ((number-listed r).1, number-not-22 r))

pub numbers_apart : (q r : Refusal) → number q ≡ number r → q ≡ r
numbers_apart = number-apart

pub zero-is-none : (r : Refusal) → number r ≡ 0 → ⊥
zero-is-none = number-some

-- the readers: whatever the octets are

abbrev pub AllEmpty : List (List ℕ) → Type 0
AllEmpty [] = Unit {0}
AllEmpty (p ∷ ps) = (p ≡ []) × AllEmpty ps

pub record ReaderEnds (values : List ℕ) (ts : List Test) (given : Numbered) (parts : List (List ℕ)) : Type 0 where
  pub numbered : EndsNumbered values ts given
  -- payload and additional information: "With a refusal both are empty."
  pub empty : (given.number ≡ 0 → ⊥) → AllEmpty parts

-- an answer with these values, or a refusal and no parts, as the verdict of the order chooses
reader-by : {A : Type 0} (refusal : Refusal → A) (answer : A) (numbered : A → Numbered) (parts : A → List (List ℕ)) (values : List ℕ)
    → numbered answer ≡ accepted values → ((r : Refusal) → numbered (refusal r) ≡ refused r) → ((r : Refusal) → AllEmpty (parts (refusal r)))
    → (ts : List Test) → ReaderEnds values ts (numbered (answer_by refusal answer (first_of ts))) (parts (answer_by refusal answer (first_of ts)))
reader-by refusal answer numbered parts values a r none ts = record {
  numbered = ends_by refused (accepted values) (λ v. numbered (answer_by refusal answer v)) a r ts;
  empty = go (first_of ts);
}
  where
    go : (v : Result (Unit {0}) Refusal) → ((numbered (answer_by refusal answer v)).number ≡ 0 → ⊥) → AllEmpty (parts (answer_by refusal answer v))
    go (Ok _) n = absurd (n (ap (λ (x : Numbered). x.number) a))
    go (Err q) n = none q

pub tp1-ends : (s : List ℕ) → ReaderEnds (meaning_values (meaning_in s)) (tp1_tests s) (tp1_numbered (read_tp1 s)) (tp1_payload (read_tp1 s) s ∷ [])
unfolding read_tp1
tp1-ends s = reader-by Err (Ok (meaning_in s)) tp1_numbered (λ a. tp1_payload a s ∷ []) (meaning_values (meaning_in s)) refl (λ r. refl) (λ r. (refl, tt)) (tp1_tests s)

pub cemi-ends : (codes : Codes) (s : List ℕ)
    → ReaderEnds (message_values (message_in (octet_at s 0) (body s))) (cemi_tests codes s) (cemi_numbered (read_cemi codes s)) (payload_in (read_cemi codes s) s ∷ information_in (read_cemi codes s) s ∷ [])
unfolding read_cemi
cemi-ends codes s =
    let x = message_in (octet_at s 0) (body s) in
    reader-by Err (Ok x) cemi_numbered (λ a. payload_in a s ∷ information_in a s ∷ []) (message_values x) refl (λ r. refl) (λ r. (refl, (refl, tt))) (cemi_tests codes s)

pub routing-ends : (s : List ℕ)
    → ReaderEnds (message_values (message_in (octet_at (message s) 0) (body (message s)))) (routing_tests s) (cemi_numbered (read_routing s)) (routed_payload (read_routing s) s ∷ routed_information (read_routing s) s ∷ [])
unfolding read_routing
routing-ends s =
    let x = message_in (octet_at (message s) 0) (body (message s)) in
    reader-by Err (Ok x) cemi_numbered (λ a. routed_payload a s ∷ routed_information a s ∷ []) (message_values x) refl (λ r. refl) (λ r. (refl, (refl, tt))) (routing_tests s)

-- a header, of whichever service is wanted
pub header-ends : (service : ℕ) (s : List ℕ) → EndsNumbered [] (header_tests service s) (verdict_numbered (read_header service s))
unfolding read_header
header-ends service s = ends_by refused (accepted []) verdict_numbered refl (λ r. refl) (header_tests service s)

-- header and connection header, of whichever service is wanted: document 02, R-1, "19 first octet not 04h ..; they come after 12 (fewer
-- than 10 octets in all is 1 just before 19)"
pub connection-ends : (service : ℕ) (s : List ℕ) → EndsNumbered [] (connected_tests service s) (verdict_numbered (read_connection service s))
unfolding read_connection
connection-ends service s = ends_by refused (accepted []) verdict_numbered refl (λ r. refl) (connected_tests service s)

-- a tunnelling request: its channel, its counter and what its message means; the message is handed out, with a refusal none
pub request-ends : (s : List ℕ) → ReaderEnds (request_values (request_in s)) (request_tests s) (request_numbered (read_request s)) (request_message (read_request s) s ∷ [])
unfolding read_request
request-ends s =
    reader-by Err (Ok (request_in s)) request_numbered (λ a. request_message a s ∷ []) (request_values (request_in s)) refl (λ r. refl) (λ r. (refl, tt)) (request_tests s)

-- an acknowledgement: "for an acknowledgement 5 comes last"; it has no parts
pub acknowledgement-ends : (s : List ℕ) → ReaderEnds (acknowledgement_values (acknowledgement_in s)) (acknowledgement_tests s) (acknowledgement_numbered (read_acknowledgement s)) []
unfolding read_acknowledgement
acknowledgement-ends s =
    reader-by Err (Ok (acknowledgement_in s)) acknowledgement_numbered (λ a. []) (acknowledgement_values (acknowledgement_in s)) refl (λ r. refl) (λ r. tt) (acknowledgement_tests s)

-- the writers: whatever the numbers, the payload and the room; a format gives its test of the numbers and its octets

pub record WriterEnds (ranged : Bool) (octets room : List ℕ) (answer : Result ℕ Refusal) (after : List ℕ) : Type 0 where
  -- "14 .., then 13, exactly when the room is below the written size"; otherwise 0 and the written size
  pub numbered : EndsNumbered (length octets ∷ []) (write_tests ranged octets room) (written_numbered answer)
  -- the octets at the front of the room, "octets behind it stay"
  pub writes : (written_numbered answer).number ≡ 0 → after ≡ octets ++ drop (length octets) room

module _ (ranged : Bool) (octets room after : List ℕ) where
  pub writer-ends : (answer : Result ℕ Refusal) → Wrote ranged octets room answer after → WriterEnds ranged octets room answer after
  unfolding written
  writer-ends answer w = record {
    numbered = rw w.answered (ends_by refused (accepted (length octets ∷ [])) (λ v. written_numbered (answer_by Err (Ok (length octets)) v)) refl (λ r. refl) (write_tests ranged octets room));
    writes = go answer w;
  }
    where
      go : (a : Result ℕ Refusal) → Wrote ranged octets room a after → (written_numbered a).number ≡ 0 → after ≡ octets ++ drop (length octets) room
      go (Ok n) w z = w.left
      go (Err r) w z = absurd (zero-is-none r z)

  -- "A refused call writes to no buffer and changes no memory."
  pub writer-refused : (answer : Result ℕ Refusal) → Wrote ranged octets room answer after → ((written_numbered answer).number ≡ 0 → ⊥) → after ≡ room
  writer-refused (Ok n) w z = absurd (z refl)
  writer-refused (Err r) w z = w.left

-- a site with its stores: "well-formed exactly if it and its stores draw none of 15 to 18"
pub site-ends : (st : Stores) (site : List ℕ) → EndsNumbered [] (site_tests st site) (verdict_numbered (first_of (site_tests st site)))
site-ends st site = ends_by refused (accepted []) verdict_numbered refl (λ r. refl) (site_tests st site)

-- the tracer: whatever the site, the stores, the query and the room; a refusal has no line and no forwarding ..
abbrev pub accepted_trace : Stores → List ℕ → Query → Traced
accepted_trace st site q = record { lines = lines_listed st site q; forwardings = forwardings st site q }

module _ (st : Stores) (site : List ℕ) (q : Query) (room room' : List ℕ) (answer : Result Traced Refusal) (d : DidTrace st site q room answer room') where
  pub trace-ends : Ends Err (Ok (accepted_trace st site q)) (trace_tests st site q (length room)) answer
  trace-ends = rw d.answered (ends_by Err (Ok (accepted_trace st site q)) (traced_by st site q) refl (λ r. refl) (trace_tests st site q (length room)))

  -- .. and leaves the room as it was
  pub trace-refused : (r : Refusal) → answer ≡ Err r → room' ≡ room
  trace-refused r n = go (first_of (trace_tests st site q (length room))) refl
    where
      go : (v : Result (Unit {0}) Refusal) → first_of (trace_tests st site q (length room)) ≡ v → room' ≡ room
      go (Ok _) e = err-ok (sym n ∙ d.answered ∙ ap (traced_by st site q) e)
      go (Err _) e = d.left ∙ ap (λ (v : Result (Unit {0}) Refusal). over (list_by st site q v) room) e

-- its explanation: nothing of a line that is reached; otherwise the reason's number, the coupler's line and the direction of travel
pub why-ends : (st : Stores) (site : List ℕ) (q : Query) (line : ℕ) → EndsNumbered (explanation_numbered (why_of st site q line)).values (why_tests st site q) (explanation_numbered (answer_why st site q line))
unfolding answer_why
why-ends st site q line =
    ends_by refused (accepted (explanation_numbered (why_of st site q line)).values) (λ v. explanation_numbered (answer_by Err (why_of st site q line) v))
    (why-answers st site q line) (λ r. refl) (why_tests st site q)

-- a reason that is given has one of the numbers 1 to 7
pub why-reasons : (st : Stores) (site : List ℕ) (q : Query) (line n coupler direction : ℕ) → (explanation_numbered (answer_why st site q line)).values ≡ n ∷ coupler ∷ direction ∷ [] → (1 ≤ n) × (n ≤ 7)
why-reasons = why-reason
