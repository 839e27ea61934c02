-- Document 02, R-1: "A request goes out with the send counter"; "Sending checks 14, 20, 13". The counter is raised by its acknowledgement,
-- not here.
use Rattle.std.specs.Prelude.{ℕ, ◌≡◌, List, [], ◌∷◌, Bool, not, length, ltb, Result, Ok, Err}
use Rattle.frame.specs.Order.{Test, ◌gives◌, first_of, answer_by}
use Rattle.frame.specs.Writing.{room_after}
use Rattle.frame.specs.declared.Refusal.TheVariants.{OutOfRange, NotOpen, SmallRoom}
use Rattle.cemi.specs.Writing.{message_in_range}
use Rattle.cemi.specs.declared.Codes.TheVariants.{All}
use Rattle.cemi.specs.declared.Message.{Message}
use Rattle.channels.specs.Calls.{OnChannel, answered}
use Rattle.channels.specs.Table.{channel_at}
use Rattle.channels.specs.declared.Channel.{Channel}
use Rattle.tunnelling.specs.Layout.{request_octets}
use Rattle.frame.specs.declared.Refusal.{Refusal}

-- whether the numbers are in range, the channel, the request's octets and the size of the room
abbrev pub send_tests : Bool → Channel → List ℕ → ℕ → List Test
send_tests ranged c octets room =
    not ranged gives OutOfRange
    ∷ not c.opened gives NotOpen
    ∷ ltb room (length octets) gives SmallRoom
    ∷ []

unfoldable pub sent_by : Bool → Channel → List ℕ → ℕ → Result ℕ Refusal
sent_by ranged c octets room = answer_by Err (Ok (length octets)) (first_of (send_tests ranged c octets room))

abbrev pub sent : ℕ → Message → List ℕ → ℕ → Channel → Result ℕ Refusal
sent number x p room c = sent_by (message_in_range All x (length p)) c (request_octets number c.send x p) room

-- the call where the channel is given: answer and room
pub record SentOn (c : Channel) (number : ℕ) (x : Message) (p room : List ℕ) (answer : Result ℕ Refusal) (room' : List ℕ) : Type 0 where
  pub answers : answer ≡ sent number x p (length room) c
  pub left : room' ≡ room_after answer (request_octets number c.send x p) room

-- the call on the channel of a number, which stays as it is
abbrev pub sending : ℕ → Message → List ℕ → ℕ → OnChannel (Result ℕ Refusal)
sending number x p room = record { number = number; answer = sent number x p room; after = λ c. c }

-- the whole call: answer and room; there is no table to leave
pub record Sent (cs : List Channel) (number : ℕ) (x : Message) (p room : List ℕ) (answer : Result ℕ Refusal) (room' : List ℕ) : Type 0 where
  pub answers : answer ≡ answered (sending number x p (length room)) cs
  pub left : room' ≡ room_after answer (request_octets number (channel_at cs number).send x p) room
