-- The numbers that cross the surface, taken apart again: what the helpers at the end of include/klumdray.h work out, each under its name
-- there. Beside them the whole answer, as document 01's number and values.
use Rattle.std.specs.Prelude.{ℕ, ◌+◌, ◌-◌, ◌*◌, ◌/◌, ◌%◌, ◌^◌, ◌≤◌, ◌<◌, Bool, true, cond, not, ◌&&◌, List, [], ◌∷◌, ◌↔◌, ◌≡◌, ltb, leb, eqb, ℤ, length, take, drop, get_or, Result, Ok, Err}
use Rattle.coupler.specs.Step.{acknowledgement_number}
use Rattle.coupler.specs.declared.Acknowledgement.TheVariants.{Silence, Acknowledged}
use Rattle.coupler.specs.declared.Outcome.{Outcome}
use Rattle.exchange.specs.Answers.{received_numbered}
use Rattle.exchange.specs.declared.Received.TheVariants.{Delivered}
use Rattle.exchange.specs.declared.Received.{Received}
use Rattle.frame.specs.Answers.{Numbered, refusal_number, refusal_in}
use Rattle.frame.specs.Refusals.{number}
use Rattle.frame.specs.declared.Refusal.{Refusal}
use Rattle.octets.specs.Octets.{octet_at, weigh}
use Rattle.octets.specs.Word.{word_at}
use Rattle.tracer.specs.Lines.{Crossing, distance}
use Rattle.tracer.specs.Query.{on_arrival}
use Rattle.tracer.specs.declared.Query.{Query}
use Rattle.tracer.specs.Listing.{is_listed}
use Rattle.tracer.specs.declared.Traced.{Traced}
use Rattle.tunnelling.specs.Reading.{channel_in, counter_in}
use Rattle.tunnelling.specs.declared.Request.{Request}
use Rattle.leak.specs.Answers.{signed_values}
use Rattle.klumdray.specs.Channels.{channel_size, open_place, receive_place, send_place}
use Rattle.klumdray.specs.Litres.{signed_of, total_in}

-- so many bits of a number from a bit on, the bit 0 being worth 1: a shift and a mask
abbrev pub bits : ℕ → ℕ → ℕ → ℕ
bits from width n = n / 2 ^ from % 2 ^ width

-- klumdray_number, of any answer
abbrev pub number_in : ℕ → ℕ
number_in n = bits 0 8 n

-- klumdray_written
abbrev pub written_in : ℕ → ℕ
written_in n = bits 8 56 n

-- klumdray_extended, klumdray_first_sending, klumdray_priority, klumdray_group, klumdray_count
abbrev pub extended_in : ℕ → ℕ
extended_in n = bits 8 1 n

abbrev pub first_sending_in : ℕ → ℕ
first_sending_in n = bits 9 1 n

abbrev pub priority_in : ℕ → ℕ
priority_in n = bits 10 2 n

abbrev pub group_in : ℕ → ℕ
group_in n = bits 12 1 n

abbrev pub count_in : ℕ → ℕ
count_in n = bits 13 3 n

-- klumdray_source, klumdray_destination, klumdray_payload_length
abbrev pub source_in : ℕ → ℕ
source_in n = bits 16 16 n

abbrev pub destination_in : ℕ → ℕ
destination_in n = bits 32 16 n

abbrev pub payload_length_in : ℕ → ℕ
payload_length_in n = bits 48 8 n

-- klumdray_message, klumdray_message_code, klumdray_error_mark
abbrev pub code_number_in : ℕ → ℕ
code_number_in n = bits 56 2 n

abbrev pub message_code_in : ℕ → ℕ
message_code_in n = get_or (0x00 ∷ 0x11 ∷ 0x2E ∷ 0x29 ∷ []) (code_number_in n) 0

abbrev pub error_mark_in : ℕ → ℕ
error_mark_in n = bits 58 1 n

-- klumdray_delivered, klumdray_raised; klumdray_tunnelling_channel and klumdray_tunnelling_counter are `channel_in` and `counter_in` of the
-- datagram
abbrev pub delivered_in : ℕ → Bool
delivered_in n = not (eqb (code_number_in n) 0)

abbrev pub raised_in : ℕ → ℕ
raised_in n = bits 8 1 n

-- klumdray_ack_channel, klumdray_ack_counter, klumdray_ack_status
abbrev pub ack_channel_in : ℕ → ℕ
ack_channel_in n = bits 8 8 n

abbrev pub ack_counter_in : ℕ → ℕ
ack_counter_in n = bits 16 8 n

abbrev pub ack_status_in : ℕ → ℕ
ack_status_in n = bits 24 8 n

-- klumdray_acknowledgement, klumdray_own, klumdray_forwarded
abbrev pub acknowledgement_in : ℕ → ℕ
acknowledgement_in n = bits 8 8 n

abbrev pub own_in : ℕ → ℕ
own_in n = bits 16 1 n

abbrev pub forwarded_in : ℕ → ℕ
forwarded_in n = bits 32 32 n

-- klumdray_listed, klumdray_forwardings
abbrev pub lines_in : ℕ → ℕ
lines_in n = bits 8 16 n

abbrev pub forwardings_in : ℕ → ℕ
forwardings_in n = bits 24 16 n

-- klumdray_reason, klumdray_stopping_line, klumdray_stopping_side
abbrev pub reason_in : ℕ → ℕ
reason_in n = bits 8 8 n

abbrev pub stopping_line_in : ℕ → ℕ
stopping_line_in n = bits 16 8 n

abbrev pub stopping_side_in : ℕ → ℕ
stopping_side_in n = bits 24 1 n

-- whole answers: the number, and the values where it is 0
abbrev pub numbered_by : ℕ → List ℕ → Numbered
numbered_by n values = record { number = number_in n; values = cond (eqb (number_in n) 0) values [] }

abbrev pub meaning_values_in : ℕ → List ℕ
meaning_values_in n =
    extended_in n
    ∷ first_sending_in n
    ∷ priority_in n
    ∷ source_in n
    ∷ group_in n
    ∷ destination_in n
    ∷ count_in n
    ∷ []

abbrev pub tp1_from : ℕ → Numbered
tp1_from n = numbered_by n (meaning_values_in n)

abbrev pub cemi_from : ℕ → Numbered
cemi_from n = numbered_by n (message_code_in n ∷ error_mark_in n ∷ meaning_values_in n)

-- a request's channel and counter are the datagram's own
abbrev pub request_values_in : List ℕ → ℕ → List ℕ
request_values_in s n = channel_in s ∷ counter_in s ∷ message_code_in n ∷ error_mark_in n ∷ meaning_values_in n

abbrev pub request_from : List ℕ → ℕ → Numbered
request_from s n = numbered_by n (request_values_in s n)

-- acknowledged again, nothing is delivered
abbrev pub received_from : List ℕ → ℕ → Numbered
received_from s n = numbered_by n (cond (delivered_in n) (request_values_in s n) [])

abbrev pub acknowledged_from : ℕ → Numbered
acknowledged_from n = numbered_by n (ack_channel_in n ∷ ack_counter_in n ∷ ack_status_in n ∷ [])

abbrev pub confirmed_from : ℕ → Numbered
confirmed_from n = numbered_by n (raised_in n ∷ [])

abbrev pub written_from : ℕ → Numbered
written_from n = numbered_by n (written_in n ∷ [])

-- klumdray_hundredths: bits 32 to 63, in two's complement
abbrev pub hundredths_in : ℕ → ℤ
hundredths_in n = signed_of 32 (bits 32 32 n)

-- klumdray_code
abbrev pub code_in : ℕ → ℕ
code_in n = bits 16 16 n

-- klumdray_is_increment
abbrev pub is_increment_in : ℕ → ℕ
is_increment_in n = bits 8 1 n

-- klumdray_taken
abbrev pub taken_in : ℕ → ℕ
taken_in n = bits 8 8 n

abbrev pub value_from : ℕ → Numbered
value_from n = numbered_by n (signed_values (hundredths_in n))

abbrev pub coded_from : ℕ → Numbered
coded_from n = numbered_by n (code_in n ∷ [])

abbrev pub carried_from : ℕ → Numbered
carried_from n = numbered_by n (cond (eqb (is_increment_in n) 0) [] (code_in n ∷ []))

-- the sum is the block's: klumdray_total
abbrev pub added_from : List ℕ → ℕ → Numbered
added_from block n = numbered_by n (signed_values (total_in block))

abbrev pub telegram_from : ℕ → Numbered
telegram_from n = numbered_by n (cond (eqb (taken_in n) 1) (taken_in n ∷ code_in n ∷ []) (taken_in n ∷ []))

-- the reason 0 is "the line is reached"
abbrev pub explanation_from : ℕ → Numbered
explanation_from n = numbered_by n (cond (eqb (reason_in n) 0) [] (reason_in n ∷ stopping_line_in n ∷ stopping_side_in n ∷ []))

-- "The step's result: number, acknowledgement or none, for itself or not, octets forwarded (0 if none)."
abbrev pub outcome_numbered : Outcome → Numbered
outcome_numbered o = record { number = refusal_number o.refusal; values = acknowledgement_number o.acknowledgement ∷ weigh o.own 1 ∷ o.forwarded ∷ [] }

abbrev pub outcome_from : ℕ → Numbered
outcome_from n = record { number = number_in n; values = acknowledgement_in n ∷ own_in n ∷ forwarded_in n ∷ [] }

-- the same as the outcome of a step
abbrev pub outcome_in : ℕ → Outcome
outcome_in n = record {
  refusal = refusal_in (number_in n);
  acknowledgement = cond (eqb (acknowledgement_in n) 0xCC) Acknowledged Silence;
  own = eqb (own_in n) 1;
  forwarded = forwarded_in n;
}

-- how many lines are listed, and "the number of forwardings made on the site"; with a refusal 0 and 0
abbrev pub traced_numbered : Result Traced Refusal → Numbered
traced_numbered (Ok t) = record { number = 0; values = t.lines ∷ t.forwardings ∷ [] }
traced_numbered (Err r) = record { number = number r; values = 0 ∷ 0 ∷ [] }

abbrev pub traced_from : ℕ → Numbered
traced_from n = record { number = number_in n; values = lines_in n ∷ forwardings_in n ∷ [] }

-- what a step's answer says, "whatever the number is": its parts are the inner call's, and its number is that of the refusal given
pub record TellsParts (width : ℕ) (from : ℕ → Numbered) (answer : ℕ) (inner : Numbered) (Refused : Refusal → Type 0) : Type 0 where
  pub fits : answer < 2 ^ width
  pub decoded : from answer ≡ inner
  pub accepted : number_in answer ≡ 0 ↔ ((r : Refusal) → Refused r → ⊥)
  pub refused : (r : Refusal) → number_in answer ≡ number r ↔ Refused r

-- what any other answer says
pub record Tells (width : ℕ) (from : ℕ → Numbered) (answer : ℕ) (inner : Numbered) (Refused : Refusal → Type 0) : Type 0 where
  -- it has no bit above its width
  pub fits : answer < 2 ^ width
  -- taken apart it is the inner call's answer
  pub decoded : from answer ≡ inner
  -- bits 0 to 7 are 0 exactly if the inner call refuses nothing; otherwise "every bit above 7 is 0"
  pub accepted : number_in answer ≡ 0 ↔ ((r : Refusal) → Refused r → ⊥)
  pub alone : (number_in answer ≡ 0 → ⊥) → answer ≡ number_in answer
  -- and then it is the number of the very refusal that the inner call gives
  pub refused : (r : Refusal) → answer ≡ number r ↔ Refused r

-- a reader's answer: also "payload length, TPCI onward, 1 to 255", which is that of the payload handed out
pub record TellsReading (width : ℕ) (from : ℕ → Numbered) (answer : ℕ) (inner : Numbered) (Refused : Refusal → Type 0) (payload : List ℕ) : Type 0 where
  pub told : Tells width from answer inner Refused
  pub size : payload_length_in answer ≡ length payload
  pub some : number_in answer ≡ 0 → 1 ≤ payload_length_in answer

-- the answer to a request that arrives: also whether it is delivered, and the length of the payload that is
pub record TellsTaking (s : List ℕ) (answer : ℕ) (a : Result Received Refusal) (payload : List ℕ) : Type 0 where
  pub told : Tells 59 (received_from s) answer (received_numbered a) (λ r. a ≡ Err r)
  pub size : payload_length_in answer ≡ length payload
  pub delivers : delivered_in answer ≡ true ↔ ((x : Request) × (a ≡ Ok (Delivered x)))

-- where parts of the caller's own octets begin, and how many octets they have

-- klumdray_tp1_payload_start
abbrev pub tp1_payload_start : ℕ → ℕ
tp1_payload_start n = cond (eqb (extended_in n) 0) 6 7

-- klumdray_cemi_payload_start, klumdray_routing_payload_start and klumdray_tunnelling_payload_start, of so many octets
abbrev pub message_payload_start : ℕ → ℕ → ℕ
message_payload_start n size = size - payload_length_in n

-- klumdray_cemi_information_start, klumdray_cemi_information_length
abbrev pub cemi_information_start : ℕ
cemi_information_start = 2

abbrev pub cemi_information_length : ℕ → ℕ → ℕ
cemi_information_length n size = size - payload_length_in n - 9

-- klumdray_routing_information_start, klumdray_routing_information_length
abbrev pub routing_information_start : ℕ
routing_information_start = 8

abbrev pub routing_information_length : ℕ → ℕ → ℕ
routing_information_length n size = size - payload_length_in n - 15

-- klumdray_tunnelling_message_start, klumdray_tunnelling_information_start, klumdray_tunnelling_information_length
abbrev pub tunnelling_message_start : ℕ
tunnelling_message_start = 10

abbrev pub tunnelling_information_start : ℕ
tunnelling_information_start = 12

abbrev pub tunnelling_information_length : ℕ → ℕ → ℕ
tunnelling_information_length n size = size - payload_length_in n - 19

-- a part by where it starts and its size: it lies within the octets, at the very place where the inner call's part lies, and holds the same
pub record LiesAt (s : List ℕ) (start size place : ℕ) (part : List ℕ) : Type 0 where
  pub within : start + size ≤ length s
  pub at : start ≡ place
  pub holds : take size (drop start s) ≡ part

-- the parts of an accepted message or datagram: additional information, Ctrl1 to LG, and the payload to the end. (So no difference in the
-- formulas goes below 0.)
pub record MessageParts (s : List ℕ) (answer start size : ℕ) (information_place : ℕ) (information_part : List ℕ) (payload_place : ℕ) (payload_part : List ℕ) : Type 0 where
  pub information : LiesAt s start size information_place information_part
  pub payload : LiesAt s (message_payload_start answer (length s)) (payload_length_in answer) payload_place payload_part
  pub between : start + size + 7 ≡ message_payload_start answer (length s)
  pub end : message_payload_start answer (length s) + payload_length_in answer ≡ length s

-- klumdray_remembered_part, klumdray_remembered_size, klumdray_remembered: where a side's part of a step's memory begins, the size of the
-- frame remembered of it, and where that frame begins
abbrev pub remembered_part : ℕ → ℕ
remembered_part side = cond (eqb side 1) 265 0

abbrev pub remembered_size : List ℕ → ℕ → ℕ
remembered_size block side = cond (ltb 263 (word_at block (remembered_part side))) 0 (word_at block (remembered_part side))

abbrev pub remembered_start : ℕ → ℕ
remembered_start side = remembered_part side + 2

-- klumdray_channel_open, klumdray_channel_receive, klumdray_channel_send: of a channel's number, in the block of channels
abbrev pub channel_place : ℕ → ℕ → ℕ
channel_place channel place = channel_size * (channel - 1) + place

abbrev pub channel_open : List ℕ → ℕ → Bool
channel_open block channel = eqb (octet_at block (channel_place channel open_place)) 0x01

abbrev pub channel_receive : List ℕ → ℕ → ℕ
channel_receive block channel = octet_at block (channel_place channel receive_place)

abbrev pub channel_send : List ℕ → ℕ → ℕ
channel_send block channel = octet_at block (channel_place channel send_place)

-- "A call changes at most one octet of it": the one at this place, and the block's size stays
pub record ChangesAt (at : ℕ) (block block' : List ℕ) : Type 0 where
  pub size : length block' ≡ length block
  pub others : (place : ℕ) → (place ≡ at → ⊥) → octet_at block' place ≡ octet_at block place

-- klumdray_listed_line, klumdray_listed_count, klumdray_listed_crossed: of the listed line at a place, counted from 0, in a trace's room
abbrev pub listed_line : List ℕ → ℕ → ℕ
listed_line room place = octet_at room (3 * place)

abbrev pub listed_count : List ℕ → ℕ → ℕ
listed_count room place = octet_at room (3 * place + 1)

abbrev pub listed_crossed : List ℕ → ℕ → ℕ
listed_crossed room place = octet_at room (3 * place + 2)

-- "Each listed line takes three octets: line, count on arrival .., couplers crossed": what a place of the room says
pub record ListedAt (passes : Crossing → Bool) (q : Query) (room : List ℕ) (place : ℕ) : Type 0 where
  pub listed : is_listed passes q.start q.count (listed_line room place) ≡ true
  pub arrives : listed_count room place ≡ on_arrival q (distance q.start (listed_line room place))
  pub crossed : listed_crossed room place ≡ distance q.start (listed_line room place)

-- the list as the helpers read it off a trace's answer and room: each place has a listed line, the lines rise, and every listed line has a place
pub record ListReads (passes : Crossing → Bool) (q : Query) (answer : ℕ) (room : List ℕ) : Type 0 where
  pub places : (place : ℕ) → place < lines_in answer → (listed_line room place < 256) × ListedAt passes q room place
  pub rising : (place later : ℕ) → place < later → later < lines_in answer → listed_line room place < listed_line room later
  pub each : (line : ℕ) → line < 256 → is_listed passes q.start q.count line ≡ true → (place : ℕ) × ((place < lines_in answer) × (listed_line room place ≡ line))

-- klumdray_overlap, of n octets from one address on and m from another on
abbrev pub overlapping : ℕ → ℕ → ℕ → ℕ → Bool
overlapping from n other m = cond (leb from other) (ltb (other - from) n && ltb 0 m) (ltb (from - other) m && ltb 0 n)

-- an octet that lies in both
pub record InBoth (from n other m place : ℕ) : Type 0 where
  pub first : (from ≤ place) × (place < from + n)
  pub second : (other ≤ place) × (place < other + m)
