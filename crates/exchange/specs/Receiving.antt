-- Document 02, R-1: a request arrives. "The expected counter is acknowledged, delivered and raised by one, 255 going to 0"; "A request one
-- behind the expected counter is acknowledged again and not delivered, also 255 on a fresh channel ..; Any other is refused (21), without
-- acknowledgement."
use Rattle.std.specs.Prelude.{ℕ, ◌≡◌, List, [], ◌∷◌, ◌++◌, Bool, cond, not, ◌||◌, length, ltb, eqb, Result, Ok, Err}
use Rattle.octets.specs.Room.{over}
use Rattle.frame.specs.Order.{Test, ◌gives◌, first_of, answer_by}
use Rattle.frame.specs.declared.Refusal.TheVariants.{SmallRoom, NotOpen, OtherCounter}
use Rattle.cemi.specs.Reading.{cemi_tests}
use Rattle.cemi.specs.declared.Codes.TheVariants.{All}
use Rattle.channels.specs.Calls.{OnChannel, Called}
use Rattle.channels.specs.Table.{counted, raised}
use Rattle.channels.specs.declared.Channel.{Channel}
use Rattle.tunnelling.specs.Layout.{request_service, acknowledgement_octets}
use Rattle.tunnelling.specs.Reading.{channel_in, counter_in, message, message_at, connected_tests, request_in}
use Rattle.exchange.specs.declared.Received.{Received}
use Rattle.exchange.specs.declared.Received.TheVariants.{Delivered, Again}
use Rattle.frame.specs.declared.Refusal.{Refusal}

unfoldable pub is_expected : Channel → List ℕ → Bool
is_expected c s = eqb (counter_in s) c.receive

-- "one behind the expected counter .. also 255 on a fresh channel": raised by one it is the expected one
unfoldable pub is_behind : Channel → List ℕ → Bool
is_behind c s = eqb (raised (counter_in s)) c.receive

-- "20 channel not open, whatever its number, then 21"
abbrev pub channel_tests : Channel → Bool → List Test
channel_tests c known = not c.opened gives NotOpen ∷ not known gives OtherCounter ∷ []

-- "receiving a request, 13 (room below 10) first", then the header's and the connection header's, 20, 21, and cEMI's, "read for the one
-- behind too"
abbrev pub receive_tests : Channel → List ℕ → ℕ → List Test
receive_tests c s room =
    ltb room 10 gives SmallRoom
    ∷ (connected_tests request_service s ++ (channel_tests c (is_expected c s || is_behind c s) ++ cemi_tests All (message s)))

-- what becomes of a request that nothing refuses: delivered, or "acknowledged again and not delivered"
abbrev pub taken_as : Bool → List ℕ → Result Received Refusal
taken_as expected s = cond expected (Ok (Delivered (request_in s))) (Ok Again)

unfoldable pub received : Channel → List ℕ → ℕ → Result Received Refusal
received c s room = answer_by Err (taken_as (is_expected c s) s) (first_of (receive_tests c s room))

-- "raised by one"; a request that is acknowledged again, and a refused one, leave the channel
abbrev pub channel_after : Result Received Refusal → Channel → Channel
channel_after (Ok (Delivered x)) c = counted c (raised c.receive) c.send
channel_after (Ok Again) c = c
channel_after (Err r) c = c

-- the acknowledgement of a request: its own channel and counter, status 00h
abbrev pub acknowledging : List ℕ → List ℕ
acknowledging s = acknowledgement_octets (record { channel = channel_in s; counter = counter_in s; status = 0x00 })

-- "acknowledged, delivered"; "acknowledged again"; "refused (21), without acknowledgement"
abbrev pub sent_back : Result Received Refusal → List ℕ → List ℕ
sent_back (Ok (Delivered x)) s = acknowledging s
sent_back (Ok Again) s = acknowledging s
sent_back (Err r) s = []

-- the call where the channel is given: answer and room
pub record ReceivedOn (c : Channel) (s room : List ℕ) (answer : Result Received Refusal) (room' : List ℕ) : Type 0 where
  pub answers : answer ≡ received c s (length room)
  pub left : room' ≡ over (sent_back answer s) room

-- the call on the channel that the request names
abbrev pub receiving : List ℕ → ℕ → OnChannel (Result Received Refusal)
receiving s room = record { number = channel_in s; answer = λ c. received c s room; after = λ c. channel_after (received c s room) c }

-- the whole call: answer, table and room
pub record Took (cs : List Channel) (s room : List ℕ) (answer : Result Received Refusal) (cs' : List Channel) (room' : List ℕ) : Type 0 where
  pub called : Called (receiving s (length room)) cs answer cs'
  pub left : room' ≡ over (sent_back answer s) room

-- the message is handed out, as the very octets received, exactly if it is delivered
abbrev pub delivered_message : Result Received Refusal → List ℕ → List ℕ
delivered_message (Ok (Delivered x)) s = message s
delivered_message (Ok Again) s = []
delivered_message (Err r) s = []

abbrev pub delivered_at : Result Received Refusal → List ℕ → ℕ
delivered_at (Ok (Delivered x)) s = message_at s
delivered_at (Ok Again) s = 0
delivered_at (Err r) s = 0
