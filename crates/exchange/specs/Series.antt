-- Why R-1 has counters: over one channel each of a client's messages is delivered once and in order, whatever copies of its requests the
-- network repeats or damages. A client, what arrives of it, and the calls that receive it one after the other.
use Rattle.std.specs.Prelude.{ℕ, zero, suc, ◌+◌, ◌%◌, ◌≤◌, ◌<◌, ◌≡◌, List, [], ◌∷◌, ◌++◌, Bool, false, cond, ◌||◌, length, eqb, Result, Ok, Err}
use Rattle.octets.specs.Octets.{octet_at}
use Rattle.cemi.specs.Answers.{cemi_numbered}
use Rattle.cemi.specs.Reading.{message_in, body, read_cemi}
use Rattle.cemi.specs.declared.Codes.TheVariants.{All}
use Rattle.channels.specs.declared.Channel.{Channel}
use Rattle.tunnelling.specs.Answers.{request_numbered}
use Rattle.tunnelling.specs.Layout.{request_service, connected}
use Rattle.tunnelling.specs.Reading.{read_request}
use Rattle.tunnelling.specs.declared.Request.{Request}
use Rattle.exchange.specs.Receiving.{Took}
use Rattle.exchange.specs.declared.Received.{Received}
use Rattle.exchange.specs.declared.Received.TheVariants.{Delivered, Again}
use Rattle.frame.specs.declared.Refusal.{Refusal}

-- a client: the channel that it was given, the counter of its first request (0 on a fresh channel), and the octets of its messages one
-- after the other, the first being number 0
pub record Client : Type 0 where
  pub channel : ℕ
  pub first : ℕ
  pub message : ℕ → List ℕ

-- each of them is a cEMI message
abbrev pub Readable : Client → Type 0
Readable k = (j : ℕ) → (cemi_numbered (read_cemi All (k.message j))).number ≡ 0

-- each request has the counter behind the last one's, 255 going to 0
abbrev pub counter_of : Client → ℕ → ℕ
counter_of k j = (k.first + j) % 256

abbrev pub request_of : Client → ℕ → List ℕ
request_of k j = connected request_service k.channel (counter_of k j) 0x00 (k.message j)

-- what the request means
abbrev pub meant : Client → ℕ → Request
meant k j = record { channel = k.channel; counter = counter_of k j; message = message_in (octet_at (k.message j) 0) (body (k.message j)) }

-- n requests, from number t on
abbrev pub from_on : Client → ℕ → ℕ → List Request
from_on k t zero = []
from_on k t (suc n) = meant k t ∷ from_on k (suc t) n

-- what arrives: a copy of the client's j-th request, or a datagram that is none
pub data Arrival : Type 0 where
  copy : ℕ → Arrival
  damaged : List ℕ → Arrival

abbrev pub datagram_of : Client → Arrival → List ℕ
datagram_of k (copy j) = request_of k j
datagram_of k (damaged s) = s

-- Of the client and the network, where the requests before number t have been acknowledged so far. The client goes on only when it was
-- acknowledged: a copy that comes is of the request t or of one before it. No copy comes once 255 requests behind it were acknowledged. What
-- is damaged is no request.
abbrev pub Keeps : Client → ℕ → List Arrival → Type 0
Keeps k t [] = Unit {0}
Keeps k t (copy j ∷ rest) = ((j ≤ t) × (t < j + 256)) × Keeps k (cond (eqb j t) (suc t) t) rest
Keeps k t (damaged s ∷ rest) = ((request_numbered (read_request s)).number ≡ 0 → ⊥) × Keeps k t rest

-- how many requests come that had not come before
abbrev pub news : ℕ → List Arrival → ℕ
news t [] = 0
news t (copy j ∷ rest) = cond (eqb j t) (suc (news (suc t) rest)) (news t rest)
news t (damaged s ∷ rest) = news t rest

-- whether a copy of the j-th request comes
abbrev pub comes : ℕ → List Arrival → Bool
comes j [] = false
comes j (copy i ∷ rest) = eqb i j || comes j rest
comes j (damaged s ∷ rest) = comes j rest

-- what a call leaves: its answer, the table and the room
pub record Done : Type 0 where
  pub answer : Result Received Refusal
  pub table : List Channel
  pub room : List ℕ

-- the calls that receive a series, one after the other: each allowed by its contract, with some room for its acknowledgement and the table
-- that the one before it left
abbrev pub Receives : Client → List Channel → List Arrival → List Done → Type 0
Receives k cs [] [] = Unit {0}
Receives k cs [] (d ∷ ds) = ⊥
Receives k cs (a ∷ rest) [] = ⊥
Receives k cs (a ∷ rest) (d ∷ ds) =
    ((room : List ℕ) × ((10 ≤ length room) × Took cs (datagram_of k a) room d.answer d.table d.room)) × Receives k d.table rest ds

-- what they deliver
abbrev pub delivered_of : Result Received Refusal → List Request
delivered_of (Ok (Delivered x)) = x ∷ []
delivered_of (Ok Again) = []
delivered_of (Err r) = []

abbrev pub delivered_by : List Done → List Request
delivered_by [] = []
delivered_by (d ∷ ds) = delivered_of d.answer ++ delivered_by ds
