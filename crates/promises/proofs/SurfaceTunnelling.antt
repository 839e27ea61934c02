-- The C surface of tunnelling. Each sentence of include/klumdray.h about the answers of its seven calls, the parts of a datagram and the
-- block of channels, as a theorem of every outcome that the call's contract allows; and that the calls over the block are those over the
-- table inside, of which Tunnelling and Once speak. Surface has the other calls.
use Rattle.std.specs.Prelude.{Err}
use Prim.Native.Nat.{ℕ, ◌+◌, ◌-◌, ◌*◌}
use mathlib.Core.Bool.{Bool, true, false, ◌&&◌}
use mathlib.Core.List.{List}
use mathlib.Core.Path.{◌≡◌, refl, ap, ◌∙◌}
use native.Mathlib.Omega.{arith}
use lib.ListN.{length}
use borrow.Author.Tests.{eq-eqb, ne_eqb}
use Rattle.cemi.specs.Reading.{information_in, information_at, payload_at}
use Rattle.cemi.specs.Writing.{message_in_range}
use Rattle.cemi.specs.declared.Codes.TheVariants.{All}
use Rattle.cemi.specs.declared.Message.{Message}
use Rattle.channels.specs.Calls.{answered, Called}
use Rattle.channels.specs.Table.{many, channel_at, raised}
use Rattle.exchange.specs.Answers.{confirmed_numbered}
use Rattle.exchange.specs.Confirming.{confirming}
use Rattle.exchange.specs.Receiving.{receiving, acknowledging, delivered_message, Took}
use Rattle.exchange.specs.Sending.{sending, Sent}
use Rattle.frame.specs.Answers.{written_numbered}
use Rattle.klumdray.proofs.ChannelsInside.{channel-reads, taken-through, took-inside, took-other, settled-through, confirmed-inside, confirmed-other, sent-inside, sent-other, took-changes, confirmed-changes}
use Rattle.klumdray.proofs.Counted.{took-raises, took-leaves, took-acknowledges, took-stays, confirmed-raises, confirmed-leaves}
use Rattle.klumdray.proofs.Parts.{request-message, request-parts}
use Rattle.klumdray.proofs.TunnellingNumbers.{request-tells, acknowledgement-tells, took-told, took-reads, confirmed-told, sent-told, sent-whole, sent-leaves}
use Rattle.klumdray.proofs.WriterNumbers.{request-most, acknowledgement-most}
use Rattle.klumdray.specs.Channels.{channel_size, channels_in, are_channels, receive_place, send_place, received_through, confirmed_through, delivered_payload, sent_through, TookThrough, SentThrough, ConfirmedThrough}
use Rattle.klumdray.specs.Decoding.{number_in, delivered_in, raised_in, written_in, request_from, acknowledged_from, confirmed_from, written_from, Tells, TellsReading, TellsTaking, tunnelling_message_start, tunnelling_information_start, tunnelling_information_length, LiesAt, MessageParts, channel_place, channel_open, channel_receive, channel_send, ChangesAt}
use Rattle.klumdray.specs.Numbers.{message_answer, request_payload, request_answered, acknowledgement_answered, WroteRequest, WroteAcknowledgement}
use Rattle.octets.specs.Octets.{Octets}
use Rattle.octets.specs.Room.{over}
use Rattle.promises.proofs.Surface.{WritesBack, writes-back}
use Rattle.tunnelling.proofs.LayoutLaws.{length-request, length-acknowledgement}
use Rattle.tunnelling.specs.Answers.{request_numbered, acknowledgement_numbered}
use Rattle.tunnelling.specs.Layout.{request_octets, acknowledgement_octets}
use Rattle.tunnelling.specs.Reading.{channel_in, read_request, request_message, request_message_at, read_acknowledgement}
use Rattle.tunnelling.specs.declared.Acknowledgement.{Acknowledgement}

-- the two services on the wire

module _ (s : List ℕ) (o : Octets s) where
  -- the answer with the datagram's own channel and counter is the request read
  pub request-read-back : TellsReading 59 (request_from s) (request_answered s) (request_numbered (read_request s)) (λ r. read_request s ≡ Err r) (request_payload (read_request s) s)
  request-read-back = request-tells s o

  pub ack-read-back : Tells 32 acknowledged_from (acknowledgement_answered s) (acknowledgement_numbered (read_acknowledgement s)) (λ r. read_acknowledgement s ≡ Err r)
  ack-read-back = acknowledgement-tells s o

  -- where the message of an accepted request begins, and in it payload and additional information
  pub request-message-lies : number_in (request_answered s) ≡ 0 → LiesAt s tunnelling_message_start (length s - tunnelling_message_start) (request_message_at (read_request s) s) (request_message (read_request s) s)
  request-message-lies = request-message s o

  pub request-parts-lie : number_in (request_answered s) ≡ 0
      → MessageParts s (request_answered s) tunnelling_information_start (tunnelling_information_length (request_answered s) (length s))
      (request_message_at (read_request s) s + information_at (message_answer (read_request s)) (request_message (read_request s) s)) (information_in (message_answer (read_request s)) (request_message (read_request s) s))
      (request_message_at (read_request s) s + payload_at (message_answer (read_request s)) (request_message (read_request s) s)) (request_payload (read_request s) s)
  request-parts-lie = request-parts s o

-- "payload length + 19"
pub request-write-back : (fit : Bool) (channel counter : ℕ) (x : Message) (p room : List ℕ) (answer : ℕ) (after : List ℕ) → WroteRequest fit channel counter x p room answer after
    → WritesBack (fit && message_in_range All x (length p)) (request_octets channel counter x p) room (length p + 19) answer after
request-write-back fit channel counter x p room answer after = writes-back (request-most fit channel counter x p) (length-request channel counter x p ∙ omega arith)

-- "the room below 10"
pub ack-write-back : (fit : Bool) (a : Acknowledgement) (room : List ℕ) (answer : ℕ) (after : List ℕ) → WroteAcknowledgement fit a room answer after
    → WritesBack fit (acknowledgement_octets a) room 10 answer after
ack-write-back fit a room answer after = writes-back (λ e. acknowledgement-most a) (length-acknowledgement a)

-- the block of channels: a block of another length than 12 is none, and what the helpers read of it is what the calls inside are given.
-- Elsewhere the length is worked out from the number of channels.
pub twelve-octets : channel_size * many ≡ 12
twelve-octets = refl

sized : (block : List ℕ) → length block ≡ channel_size * many → are_channels block ≡ true
sized block e = eq-eqb (length block) (channel_size * many) e

not-sized : (block : List ℕ) → (length block ≡ channel_size * many → ⊥) → are_channels block ≡ false
not-sized block n = ne_eqb (length block) (channel_size * many) n

pub channel-read : (block : List ℕ) (k : ℕ) → length block ≡ channel_size * many → (k ≡ 0 → ⊥) → channel_at (channels_in block) k ≡ record { opened = channel_open block k; receive = channel_receive block k; send = channel_send block k }
channel-read block k e = channel-reads block (sized block e) k

-- receiving a request
module _ {block s room : List ℕ} {answer : ℕ} {block' room' : List ℕ} (w : TookThrough block s room answer block' room') where
  -- with a block of that length the answer, the table that the block then holds and the room are those of the call inside ..
  pub receive-is-inside : length block ≡ channel_size * many
      → (received_through block s (length room) ≡ answered (receiving s (length room)) (channels_in block)) × Took (channels_in block) s room (answered (receiving s (length room)) (channels_in block)) (channels_in block') room'
  receive-is-inside e = let right = sized block e in (taken-through w right, took-inside w right)

  -- .. and with another it is 14, and nothing is written
  pub receive-other-block : (length block ≡ channel_size * many → ⊥) → (answer ≡ 14) × ((block' ≡ block) × (room' ≡ room))
  receive-other-block n = took-other w (not-sized block n)

  -- "A call changes at most one octet of it": the receive counter of the channel that the request names
  pub receive-changes : ChangesAt (channel_place (channel_in s) receive_place) block block'
  receive-changes = took-changes w

  module _ (o : Octets s) where
    -- the number, whether it is delivered, and what is delivered can be read back
    pub receive-back : TellsTaking s answer (received_through block s (length room)) (delivered_payload (received_through block s (length room)) (delivered_message (received_through block s (length room)) s))
    receive-back = took-told o w

    -- delivered: the answer is the reader's of the same datagram, and its channel's receive counter is raised; otherwise the block stays
    pub receive-reads : delivered_in answer ≡ true → answer ≡ request_answered s
    receive-reads = took-reads o w

    pub receive-raises : delivered_in answer ≡ true → channel_receive block' (channel_in s) ≡ raised (channel_receive block (channel_in s))
    receive-raises = took-raises o w

    pub receive-leaves : delivered_in answer ≡ false → block' ≡ block
    receive-leaves = took-leaves o w

    -- "Number 0: the acknowledgement is the first 10 octets of the room"; with a refusal room and block stay
    pub receive-acknowledges : number_in answer ≡ 0 → room' ≡ over (acknowledging s) room
    receive-acknowledges = took-acknowledges o w

    pub receive-refused-stays : (number_in answer ≡ 0 → ⊥) → (block' ≡ block) × (room' ≡ room)
    receive-refused-stays = took-stays o w

-- sending a request
module _ {fit : Bool} {block : List ℕ} {n : ℕ} {x : Message} {p room : List ℕ} {answer : ℕ} {room' : List ℕ} (w : SentThrough fit block n x p room answer room') where
  pub send-is-inside : length block ≡ channel_size * many → fit ≡ true → Sent (channels_in block) n x p room (answered (sending n x p (length room)) (channels_in block)) room'
  send-is-inside e f = sent-inside w (λ i. sized block e i && f i)

  pub send-other-block : (length block ≡ channel_size * many → ⊥) → (answer ≡ 14) × (room' ≡ room)
  send-other-block h = sent-other w (ap (λ (b : Bool). b && fit) (not-sized block h))

  pub send-back : Tells 64 written_from answer (written_numbered (sent_through fit block n x p (length room))) (λ r. sent_through fit block n x p (length room) ≡ Err r)
  send-back = sent-told w

  -- the whole request, with the channel's send counter, at the front of the room
  pub send-writes : number_in answer ≡ 0 → (written_in answer ≡ length p + 19) × (room' ≡ over (request_octets n (channel_at (channels_in block) n).send x p) room)
  send-writes = sent-whole w

  pub send-refused-stays : (number_in answer ≡ 0 → ⊥) → room' ≡ room
  send-refused-stays = sent-leaves w

-- receiving an acknowledgement
module _ {block s : List ℕ} {answer : ℕ} {block' : List ℕ} (w : ConfirmedThrough block s answer block') where
  pub confirm-is-inside : length block ≡ channel_size * many
      → (confirmed_through block s ≡ answered (confirming s) (channels_in block)) × Called (confirming s) (channels_in block) (answered (confirming s) (channels_in block)) (channels_in block')
  confirm-is-inside e = let right = sized block e in (settled-through w right, confirmed-inside w right)

  pub confirm-other-block : (length block ≡ channel_size * many → ⊥) → (answer ≡ 14) × (block' ≡ block)
  confirm-other-block n = confirmed-other w (not-sized block n)

  pub confirm-changes : ChangesAt (channel_place (channel_in s) send_place) block block'
  confirm-changes = confirmed-changes w

  pub confirm-back : Tells 9 confirmed_from answer (confirmed_numbered (confirmed_through block s)) (λ r. confirmed_through block s ≡ Err r)
  confirm-back = confirmed-told w

  -- "bit 8 is 1 if the send counter was raised": then it is, and otherwise the block stays
  pub confirm-raises-counter : raised_in answer ≡ 1 → channel_send block' (channel_in s) ≡ raised (channel_send block (channel_in s))
  confirm-raises-counter = confirmed-raises w

  pub confirm-leaves : raised_in answer ≡ 0 → block' ≡ block
  confirm-leaves = confirmed-leaves w
