-- The lent block of tunnelling's channels. Document 02, R-1: "four channels, numbered 1 to 4, each open or closed with a receive and a send
-- counter from 0 to 255". Three octets for each of them, from the first on: open (01h; every other value is closed), the receive counter,
-- the send counter. include/klumdray.h says the same in its words. How many channels there are is `many` of crate channels alone.
use Rattle.std.specs.Prelude.{ℕ, zero, suc, ◌+◌, ◌*◌, ◌^◌, ◌≡◌, List, [], ◌∷◌, Bool, cond, ◌&&◌, length, drop, set, eqb, Result, Ok, Err}
use Rattle.octets.specs.Octets.{octet_at}
use Rattle.octets.specs.Room.{over}
use Rattle.frame.specs.Refusals.{number}
use Rattle.frame.specs.Writing.{room_after}
use Rattle.frame.specs.declared.Refusal.TheVariants.{OutOfRange}
use Rattle.cemi.specs.Reading.{payload_in}
use Rattle.cemi.specs.Writing.{message_in_range}
use Rattle.cemi.specs.declared.Codes.TheVariants.{All}
use Rattle.cemi.specs.declared.Message.{Message}
use Rattle.channels.specs.Calls.{answered}
use Rattle.channels.specs.Table.{many, channel_at, raised}
use Rattle.channels.specs.declared.Channel.{Channel}
use Rattle.tunnelling.specs.Layout.{request_octets}
use Rattle.tunnelling.specs.Reading.{channel_in}
use Rattle.exchange.specs.Confirming.{confirming}
use Rattle.exchange.specs.Receiving.{receiving, sent_back, delivered_message}
use Rattle.exchange.specs.Sending.{sent_by}
use Rattle.exchange.specs.declared.Confirmed.{Confirmed}
use Rattle.exchange.specs.declared.Confirmed.TheVariants.{Raised, Kept}
use Rattle.exchange.specs.declared.Received.{Received}
use Rattle.exchange.specs.declared.Received.TheVariants.{Delivered, Again}
use Rattle.klumdray.specs.Numbers.{message_number, written_number}
use Rattle.frame.specs.declared.Refusal.{Refusal}

-- how many octets a channel has, and which of them is which
abbrev pub channel_size : ℕ
channel_size = 3

abbrev pub open_place : ℕ
open_place = 0

abbrev pub receive_place : ℕ
receive_place = 1

abbrev pub send_place : ℕ
send_place = 2

-- the channel whose octets are the first
abbrev pub first_channel : List ℕ → Channel
first_channel block = record { opened = eqb (octet_at block open_place) 0x01; receive = octet_at block receive_place; send = octet_at block send_place }

-- so many channels, one behind the other
abbrev pub channels_from : ℕ → List ℕ → List Channel
channels_from zero block = []
channels_from (suc n) block = first_channel block ∷ channels_from n (drop channel_size block)

abbrev pub channels_in : List ℕ → List Channel
channels_in block = channels_from many block

-- a block of channels by its size
abbrev pub are_channels : List ℕ → Bool
are_channels block = eqb (length block) (channel_size * many)

-- the block with another octet in one place of a channel's: the one place where a changed block is made. A number that is no channel's
-- leaves it
abbrev pub with_octet : List ℕ → ℕ → ℕ → ℕ → List ℕ
with_octet block zero place octet = block
with_octet block (suc k) place octet = set block (channel_size * k + place) octet

-- "The expected counter is acknowledged, delivered and raised by one"; "A request one behind .. is acknowledged again and not delivered"
abbrev pub block_received : Result Received Refusal → Channel → ℕ → List ℕ → List ℕ
block_received (Ok (Delivered x)) c n block = with_octet block n receive_place (raised c.receive)
block_received (Ok Again) c n block = block
block_received (Err r) c n block = block

-- "an acknowledgement of that counter with status 00h raises it, with another status changes nothing"
abbrev pub block_confirmed : Result Confirmed Refusal → Channel → ℕ → List ℕ → List ℕ
block_confirmed (Ok Raised) c n block = with_octet block n send_place (raised c.send)
block_confirmed (Ok Kept) c n block = block
block_confirmed (Err r) c n block = block

-- a request that is delivered: as a reader's answer of it, and so never 0; "acknowledged again": 0; a refusal is its number alone
abbrev pub received_number : Result Received Refusal → ℕ → ℕ
received_number (Ok (Delivered x)) payload = message_number x.message payload
received_number (Ok Again) payload = 0
received_number (Err r) payload = number r

-- the payload of a message that is delivered
abbrev pub delivered_payload : Result Received Refusal → List ℕ → List ℕ
delivered_payload (Ok (Delivered x)) message = payload_in (Ok x.message) message
delivered_payload (Ok Again) message = []
delivered_payload (Err r) message = []

-- bit 8: the send counter is raised
abbrev pub confirmed_number : Result Confirmed Refusal → ℕ
confirmed_number (Ok Raised) = 2 ^ 8
confirmed_number (Ok Kept) = 0
confirmed_number (Err r) = number r

-- a block of another size is refused by 14, before any other refusal (docs/DECISIONS.md)
unfoldable pub received_through : List ℕ → List ℕ → ℕ → Result Received Refusal
received_through block s room = cond (are_channels block) (answered (receiving s room) (channels_in block)) (Err OutOfRange)

unfoldable pub confirmed_through : List ℕ → List ℕ → Result Confirmed Refusal
confirmed_through block s = cond (are_channels block) (answered (confirming s) (channels_in block)) (Err OutOfRange)

-- "Sending checks 14, 20, 13": the block's size and the numbers that do not fit are among the first
abbrev pub sent_through : Bool → List ℕ → ℕ → Message → List ℕ → ℕ → Result ℕ Refusal
sent_through fit block n x p room =
    let c = channel_at (channels_in block) n in
    sent_by (are_channels block && fit && message_in_range All x (length p)) c (request_octets n c.send x p) room

-- receiving a request through the surface: the inner call's answer as a number, the block with at most one counter raised, and the
-- acknowledgement in the room
pub record TookThrough (block s room : List ℕ) (answer : ℕ) (block' room' : List ℕ) : Type 0 where
  pub answers : answer ≡ received_number (received_through block s (length room)) (length (delivered_payload (received_through block s (length room)) (delivered_message (received_through block s (length room)) s)))
  pub channels : block' ≡ block_received (received_through block s (length room)) (channel_at (channels_in block) (channel_in s)) (channel_in s) block
  pub left : room' ≡ over (sent_back (received_through block s (length room)) s) room

-- sending a request: "A request goes out with the send counter"; the block is only read
pub record SentThrough (fit : Bool) (block : List ℕ) (n : ℕ) (x : Message) (p room : List ℕ) (answer : ℕ) (room' : List ℕ) : Type 0 where
  pub answers : answer ≡ written_number (sent_through fit block n x p (length room))
  pub left : room' ≡ room_after (sent_through fit block n x p (length room)) (request_octets n (channel_at (channels_in block) n).send x p) room

-- receiving an acknowledgement
pub record ConfirmedThrough (block s : List ℕ) (answer : ℕ) (block' : List ℕ) : Type 0 where
  pub answers : answer ≡ confirmed_number (confirmed_through block s)
  pub channels : block' ≡ block_confirmed (confirmed_through block s) (channel_at (channels_in block) (channel_in s)) (channel_in s) block
