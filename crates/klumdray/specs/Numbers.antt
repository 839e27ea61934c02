-- The numbers that cross the surface: include/klumdray.h says the same in its words.
use Rattle.std.specs.Prelude.{ℕ, ◌+◌, ◌*◌, ◌%◌, ◌^◌, Bool, cond, ◌&&◌, List, ◌≡◌, ltb, eqb, length, Result, Ok, Err}
use Rattle.cemi.specs.Layout.{plain}
use Rattle.cemi.specs.Writing.{message_in_range}
use Rattle.cemi.specs.declared.Codes.TheVariants.{All, IndicationOnly}
use Rattle.cemi.specs.declared.Message.{Message}
use Rattle.frame.specs.Refusals.{number}
use Rattle.frame.specs.Valid.{in_range}
use Rattle.frame.specs.Writing.{written, room_after}
use Rattle.frame.specs.declared.Meaning.{Meaning}
use Rattle.octets.specs.Octets.{weigh}
use Rattle.routing.specs.Layout.{routing_octets}
use Rattle.routing.specs.Reading.{read_routing, routed_payload}
use Rattle.tp1.specs.Layout.{tp1_octets}
use Rattle.tp1.specs.Reading.{read_tp1, payload_in}
use Rattle.tunnelling.specs.Layout.{request_octets, acknowledgement_octets}
use Rattle.tunnelling.specs.Reading.{read_request, request_message, read_acknowledgement}
use Rattle.tunnelling.specs.declared.Acknowledgement.{Acknowledgement}
use Rattle.cemi.specs.Reading.{read_cemi, payload_in as cemi_payload}
use Rattle.frame.specs.declared.Refusal.{Refusal}
use Rattle.tunnelling.specs.declared.Request.{Request}

-- one octet: format (bit 0), repeat flag (1), priority (2 and 3), AT (4), hop count (5 to 7)
unfoldable pub flags_of : Meaning → ℕ
flags_of m = weigh m.extended 1 + weigh m.first 2 + m.priority % 4 * 4 + weigh m.group 16 + m.count % 8 * 32

-- bits 0 to 7: 0, not a refusal; 8 to 15: that octet; 16 to 31: source; 32 to 47: destination; 48 to 55: the payload's length
unfoldable pub meaning_number : Meaning → ℕ → ℕ
meaning_number m payload = flags_of m * 2 ^ 8 + m.source * 2 ^ 16 + m.destination * 2 ^ 32 + payload % 256 * 2 ^ 48

-- a reader's answer; a refusal is its number alone
abbrev pub tp1_number : Result Meaning Refusal → ℕ → ℕ
tp1_number (Ok m) payload = meaning_number m payload
tp1_number (Err r) payload = number r

-- message codes: 1 request, 2 confirmation, 3 indication
unfoldable pub code_number : ℕ → ℕ
code_number c = cond (eqb c 0x11) 1 (cond (eqb c 0x2E) 2 (cond (eqb c 0x29) 3 0))

-- for cEMI also bits 56 and 57: the message code; bit 58: the error mark
unfoldable pub message_number : Message → ℕ → ℕ
message_number x payload = meaning_number x.meaning payload + (code_number x.code + weigh x.error 4) * 2 ^ 56

abbrev pub cemi_number : Result Message Refusal → ℕ → ℕ
cemi_number (Ok x) payload = message_number x payload
cemi_number (Err r) payload = number r

-- what the readers answer: the inner call's answer, and the length of the payload that it hands out
abbrev pub tp1_answered : List ℕ → ℕ
tp1_answered s = tp1_number (read_tp1 s) (length (payload_in (read_tp1 s) s))

abbrev pub cemi_answered : List ℕ → ℕ
cemi_answered s = cemi_number (read_cemi All s) (length (cemi_payload (read_cemi All s) s))

abbrev pub routing_answered : List ℕ → ℕ
routing_answered s = cemi_number (read_routing s) (length (routed_payload (read_routing s) s))

-- a tunnelling request's: that of its message. Channel and counter stand in the datagram itself
abbrev pub message_answer : Result Request Refusal → Result Message Refusal
message_answer (Ok x) = Ok x.message
message_answer (Err r) = Err r

abbrev pub request_payload : Result Request Refusal → List ℕ → List ℕ
request_payload a s = cemi_payload (message_answer a) (request_message a s)

abbrev pub request_answered : List ℕ → ℕ
request_answered s = cemi_number (message_answer (read_request s)) (length (request_payload (read_request s) s))

-- an acknowledgement's: bits 8 to 15 the channel, 16 to 23 the counter, 24 to 31 the status
abbrev pub acknowledged_number : Result Acknowledgement Refusal → ℕ
acknowledged_number (Ok a) = a.channel * 2 ^ 8 + a.counter * 2 ^ 16 + a.status * 2 ^ 24
acknowledged_number (Err r) = number r

abbrev pub acknowledgement_answered : List ℕ → ℕ
acknowledgement_answered s = acknowledged_number (read_acknowledgement s)

-- "extended 0, 1   first_sending 0, 1   .. group 0, 1"
unfoldable pub are_flags : ℕ → ℕ → ℕ → Bool
are_flags extended first group = ltb extended 2 && ltb first 2 && ltb group 2

-- "priority 0 to 3   .. count 0 to 7" fit one octet: the inner writer, which takes no more, tests the ranges. So do a request's "channel,
-- counter 0 to 255"
unfoldable pub are_octets : ℕ → ℕ → Bool
are_octets priority count = ltb priority 256 && ltb count 256

-- "source, destination 0000h to FFFFh"
unfoldable pub are_words : ℕ → ℕ → Bool
are_words source destination = ltb source 65536 && ltb destination 65536

-- the numbers of a frame, as the caller gives them: "a number .. outside its range (14)"
abbrev pub are_numbers : ℕ → ℕ → ℕ → ℕ → ℕ → ℕ → ℕ → Bool
are_numbers extended first priority source group destination count = are_flags extended first group && are_octets priority count && are_words source destination

-- "code 11h, 2Eh, 29h" fits one octet: the inner writer tests which; "error_mark 0, 1", of which that writer tests where it may be 1
unfoldable pub are_marks : ℕ → ℕ → Bool
are_marks code error = ltb code 256 && ltb error 2

abbrev pub meaning_from : ℕ → ℕ → ℕ → ℕ → ℕ → ℕ → ℕ → Meaning
meaning_from extended first priority source group destination count = record {
  extended = eqb extended 1;
  first = eqb first 1;
  priority = priority;
  source = source;
  group = eqb group 1;
  destination = destination;
  count = count;
}

abbrev pub message_from : ℕ → ℕ → Meaning → Message
message_from code error m = record { code = code; error = eqb error 1; meaning = m }

-- "channel, counter, status 0 to 255"
unfoldable pub are_connected : ℕ → ℕ → ℕ → Bool
are_connected channel counter status = ltb channel 256 && ltb counter 256 && ltb status 256

abbrev pub acknowledgement_from : ℕ → ℕ → ℕ → Acknowledgement
acknowledgement_from channel counter status = record { channel = channel; counter = counter; status = status }

-- a writer's answer: bits 0 to 7 the refusal's number or 0, bits 8 on the octets written
abbrev pub written_number : Result ℕ Refusal → ℕ
written_number (Ok n) = n * 2 ^ 8
written_number (Err r) = number r

-- what a writer of the surface answers and leaves in the room: the inner writer's answer, as a number
pub record WroteNumber (ranged : Bool) (octets room : List ℕ) (answer : ℕ) (after : List ℕ) : Type 0 where
  pub answered : answer ≡ written_number (written ranged octets room)
  pub left : after ≡ room_after (written ranged octets room) octets room

-- each format's writer: the numbers fit, and the inner writer's ranges hold
abbrev pub WroteTp1 : Bool → Meaning → List ℕ → List ℕ → ℕ → List ℕ → Type 0
WroteTp1 fit m payload room answer after = WroteNumber (fit && in_range m (length payload)) (tp1_octets m payload) room answer after

abbrev pub WroteCemi : Bool → Message → List ℕ → List ℕ → ℕ → List ℕ → Type 0
WroteCemi fit x payload room answer after = WroteNumber (fit && message_in_range All x (length payload)) (plain x payload) room answer after

abbrev pub WroteRouting : Bool → Message → List ℕ → List ℕ → ℕ → List ℕ → Type 0
WroteRouting fit x payload room answer after = WroteNumber (fit && message_in_range IndicationOnly x (length payload)) (routing_octets x payload) room answer after

abbrev pub WroteRequest : Bool → ℕ → ℕ → Message → List ℕ → List ℕ → ℕ → List ℕ → Type 0
WroteRequest fit channel counter x payload room answer after = WroteNumber (fit && message_in_range All x (length payload)) (request_octets channel counter x payload) room answer after

abbrev pub WroteAcknowledgement : Bool → Acknowledgement → List ℕ → ℕ → List ℕ → Type 0
WroteAcknowledgement fit a room answer after = WroteNumber fit (acknowledgement_octets a) room answer after
