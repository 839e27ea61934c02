-- Document 02, R-1: "New refusals: 19 first octet not 04h ..; they come after 12 (fewer than 10 octets in all is 1 just before 19) and
-- before cEMI's ..; for an acknowledgement 5 comes last." "all three message codes are read"; "The octet 00h isn't read."
use Rattle.std.specs.Prelude.{ℕ, List, [], ◌∷◌, ◌++◌, Bool, cond, not, length, drop, ltb, leb, eqb, Result, Ok, Err}
use Rattle.octets.specs.Octets.{octet_at}
use Rattle.frame.specs.Order.{Test, ◌gives◌, first_of, answer_by}
use Rattle.frame.specs.declared.Refusal.TheVariants.{TooFew, LeftOver, OtherConnection}
use Rattle.cemi.specs.Reading.{cemi_tests, message_in, body}
use Rattle.cemi.specs.declared.Codes.TheVariants.{All}
use Rattle.knxnetip.specs.Header.{header_tests}
use Rattle.tunnelling.specs.Layout.{request_service, acknowledgement_service}
use Rattle.tunnelling.specs.declared.Acknowledgement.{Acknowledgement}
use Rattle.tunnelling.specs.declared.Request.{Request}
use Rattle.frame.specs.declared.Refusal.{Refusal}

-- the channel, the counter and the status that a datagram names, and what follows its connection header
abbrev pub channel_in : List ℕ → ℕ
channel_in s = octet_at s 7

abbrev pub counter_in : List ℕ → ℕ
counter_in s = octet_at s 8

abbrev pub status_in : List ℕ → ℕ
status_in s = octet_at s 9

abbrev pub message : List ℕ → List ℕ
message s = drop 10 s

-- where that starts; a datagram of fewer octets has none
abbrev pub message_at : List ℕ → ℕ
message_at s = cond (leb 10 (length s)) 10 0

-- "first octet not 04h"
unfoldable pub is_other_connection : List ℕ → Bool
is_other_connection s = not (eqb (octet_at s 6) 0x04)

-- the tests of the connection header, behind the header's
abbrev pub connection_tests : List ℕ → List Test
connection_tests s =
    ltb (length s) 10 gives TooFew
    ∷ is_other_connection s gives OtherConnection
    ∷ []

-- 1, 10, 11, 12, 1, 19, of whichever service is wanted
abbrev pub connected_tests : ℕ → List ℕ → List Test
connected_tests service s = header_tests service s ++ connection_tests s

unfoldable pub read_connection : ℕ → List ℕ → Result (Unit {0}) Refusal
read_connection service s = first_of (connected_tests service s)

-- a request: then cEMI's
abbrev pub request_tests : List ℕ → List Test
request_tests s = connected_tests request_service s ++ cemi_tests All (message s)

abbrev pub request_in : List ℕ → Request
request_in s = record { channel = channel_in s; counter = counter_in s; message = message_in (octet_at (message s) 0) (body (message s)) }

unfoldable pub read_request : List ℕ → Result Request Refusal
read_request s = answer_by Err (Ok (request_in s)) (first_of (request_tests s))

-- the message is handed out as the very octets received, with a refusal none
abbrev pub request_message : Result Request Refusal → List ℕ → List ℕ
request_message (Ok x) s = message s
request_message (Err r) s = []

abbrev pub request_message_at : Result Request Refusal → List ℕ → ℕ
request_message_at (Ok x) s = message_at s
request_message_at (Err r) s = 0

-- an acknowledgement: "5 comes last"
abbrev pub acknowledgement_tests : List ℕ → List Test
acknowledgement_tests s = connected_tests acknowledgement_service s ++ (ltb 10 (length s) gives LeftOver ∷ [])

abbrev pub acknowledgement_in : List ℕ → Acknowledgement
acknowledgement_in s = record { channel = channel_in s; counter = counter_in s; status = status_in s }

unfoldable pub read_acknowledgement : List ℕ → Result Acknowledgement Refusal
read_acknowledgement s = answer_by Err (Ok (acknowledgement_in s)) (first_of (acknowledgement_tests s))
