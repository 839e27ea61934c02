-- Beyond R-1, and the reason that it exists: over one channel each of a client's messages is delivered once and in order, whatever copies of
-- its requests a network repeats and whatever arrives damaged among them.
-- The premise is `Keeps` (exchange Series): the client goes on to a request only when those before it were acknowledged, no copy of a request
-- comes after 255 later ones, and what is damaged is no request. Without each of the first two it fails: `gone-on-too-soon`, `kept-too-long`.
use Rattle.std.specs.Prelude.{Result, Ok, Err}
use Prim.Native.Nat.{ℕ, suc, ◌+◌, ◌%◌, ◌≤◌, ◌<◌}
use mathlib.Core.Bool.{true, not}
use mathlib.Core.List.{List, [], ◌∷◌}
use mathlib.Core.Logic.{◌↔◌}
use mathlib.Core.Path.{◌≡◌, refl, sym, ap, ◌∙◌}
use native.Mathlib.Nat.{zero-add}
use native.Mathlib.Omega.{arith}
use lib.ListN.{length}
use borrow.Author.Tests.{le-ltb}
use Rattle.cemi.proofs.Refusals.{accepted-iff}
use Rattle.cemi.proofs.Answers.{cemi-tells}
use Rattle.cemi.specs.Answers.{cemi_numbered}
use Rattle.cemi.specs.Reading.{cemi_tests, read_cemi}
use Rattle.cemi.specs.declared.Codes.TheVariants.{All}
use Rattle.cemi.specs.declared.Message.{Message}
use Rattle.channels.specs.Table.{channel_at, raised}
use Rattle.channels.specs.declared.Channel.{Channel}
use Rattle.tunnelling.proofs.Refusals.{request-accepted-iff}
use Rattle.tunnelling.proofs.RoundTrip.{request_by, connected-read}
use Rattle.tunnelling.specs.Answers.{request_values, request_numbered}
use Rattle.tunnelling.specs.Layout.{request_service}
use Rattle.tunnelling.specs.Reading.{channel_in, message, connected_tests, read_request}
use Rattle.tunnelling.specs.declared.Request.{Request}
use Rattle.frame.proofs.Order.{none-split}
use Rattle.frame.specs.Answers.{accepted}
use Rattle.frame.specs.Order.{◌gives◌}
use Rattle.frame.specs.declared.Refusal.TheVariants.{NotOpen}
use Rattle.octets.specs.Octets.{octet_at}
use Rattle.exchange.proofs.SeriesLaws.{once-from, comes-iff}
use Rattle.exchange.specs.Answers.{received_numbered}
use Rattle.exchange.specs.Receiving.{Took}
use Rattle.exchange.specs.Series.{Client, Readable, counter_of, request_of, meant, from_on, Arrival, Keeps, news, comes, Done, Receives, delivered_by}
use Rattle.exchange.specs.declared.Received.{Received}
use Rattle.promises.proofs.Tunnelling.{Comes, delivered-exactly, again-exactly, other-counter-exactly}
use Rattle.frame.specs.declared.Refusal.{Refusal}

-- a counter raised is the next one's
onward : (n t : ℕ) → raised ((n + t) % 256) ≡ (n + suc t) % 256
unfolding raised
onward n t = omega arith

-- two counters further on is another counter
further : (n : ℕ) → raised ((n + 1) % 256) ≡ (n + 0) % 256 → ⊥
unfolding raised
further n e = omega arith

module _ (k : Client) (readable : Readable k) where
  -- a client's requests are read as what they mean
  reads : (j : ℕ) → read_request (request_of k j) ≡ Ok (meant k j)
  reads j = connected-read k.channel (counter_of k j) 0x00 (k.message j) ∙ go (read_cemi All (k.message j)) refl (readable j)
    where
      go : (a : Result Message Refusal) → read_cemi All (k.message j) ≡ a → (cemi_numbered a).number ≡ 0 → request_by k.channel (counter_of k j) (read_cemi All (k.message j)) ≡ Ok (meant k j)
      go (Ok x) e z =
          ap (request_by k.channel (counter_of k j)) e
          ∙ ap (λ (m : Message). Ok (record { channel = k.channel; counter = counter_of k j; message = m })) (sym ((accepted-iff All (k.message j) x).0 e).1)
      go (Err r) e z = absurd ((cemi-tells.zero (Err r)).0 z r refl)

  -- the client's channel is open and expects the counter of its request t, as it does when those before t were acknowledged; at the start t is 0
  pub record Expects (cs : List Channel) (t : ℕ) : Type 0 where
    pub opened : (channel_at cs k.channel).opened ≡ true
    pub counter : (channel_at cs k.channel).receive ≡ counter_of k t

  module _ (cs : List Channel) (room : List ℕ) (a : Result Received Refusal) (cs' : List Channel) (room' : List ℕ) (h : 10 ≤ length room) where
    comes-with : (j t : ℕ) → Expects cs t → Comes cs (request_of k j) room (meant k j)
    comes-with j t o = record { fits = h; read = ap request_numbered (reads j); opened = o.opened }

    -- a copy of that request is delivered, and acknowledged, so that the client may go on ..
    pub expected-is-delivered : (t : ℕ) → Expects cs t → Took cs (request_of k t) room a cs' room' → received_numbered a ≡ accepted (request_values (meant k t))
    expected-is-delivered t o g = (delivered-exactly cs (request_of k t) room a cs' room' g (meant k t)).1 (comes-with t t o, sym o.counter)

    -- .. and a further copy, of the request before the one that is then expected, is acknowledged again
    pub last-is-acknowledged-again : (t : ℕ) → Expects cs (suc t) → Took cs (request_of k t) room a cs' room' → received_numbered a ≡ accepted []
    last-is-acknowledged-again t o g = (again-exactly cs (request_of k t) room a cs' room' g).1 (meant k t, (comes-with t (suc t) o, onward k.first t ∙ sym o.counter))

  -- what the calls deliver is the client's requests from the first on, each once and in order, as many as came
  pub delivered-once : (cs : List Channel) (series : List Arrival) (calls : List Done) → Expects cs 0 → Keeps k 0 series → Receives k cs series calls → delivered_by calls ≡ from_on k 0 (news 0 series)
  delivered-once cs series calls o = once-from k reads series 0 cs calls (record { opened = o.opened; counter = o.counter })

  -- and among these is each of which a copy came, and no other
  pub delivered-if-it-came : (series : List Arrival) → Keeps k 0 series → (j : ℕ) → comes j series ≡ true ↔ (j < news 0 series)
  delivered-if-it-came series p j = rw zero-add at (comes-iff k j 0 series (omega arith) p)

  -- A client that goes on although nothing was acknowledged: its second request, come first, is refused by 21.
  pub gone-on-too-soon : (cs : List Channel) (room : List ℕ) (a : Result Received Refusal) (cs' : List Channel) (room' : List ℕ) → Expects cs 0 → 10 ≤ length room → Took cs (request_of k 1) room a cs' room'
      → (received_numbered a).number ≡ 21
  gone-on-too-soon cs room a cs' room' o h g =
      let s : List ℕ = request_of k 1 in
      let w = (request-accepted-iff s (meant k 1)).0 (reads 1) in
      let here : channel_in s ≡ k.channel = ap (λ (x : Request). x.channel) w.1 in
      let counter : octet_at s 8 ≡ counter_of k 1 = ap (λ (x : Request). x.counter) w.1 in
      let opened : (channel_at cs (channel_in s)).opened ≡ true = ap (λ (n : ℕ). (channel_at cs n).opened) here ∙ o.opened in
      let expected : (channel_at cs (channel_in s)).receive ≡ counter_of k 0 = ap (λ (n : ℕ). (channel_at cs n).receive) here ∙ o.counter in
      let before = ((none-split (connected_tests request_service s) (cemi_tests All (message s))).0 w.0).0 in
      let rest = (none-split (connected_tests request_service s) (not (channel_at cs (channel_in s)).opened gives NotOpen ∷ [])).1 (before, (ap not opened, tt)) in
      (other-counter-exactly cs s room a cs' room' g).1 ((le-ltb (length room) 10 h, rest), ((λ e. absurd (ahead (sym counter ∙ e ∙ expected))), λ e. absurd (behind (ap raised (sym counter) ∙ e ∙ expected))))
    where
      ahead : counter_of k 1 ≡ counter_of k 0 → ⊥
      ahead e = omega arith

      behind : raised (counter_of k 1) ≡ counter_of k 0 → ⊥
      behind e = further k.first e

  -- A copy of the first request that comes after 256 of them is delivered a second time.
  pub kept-too-long : (cs : List Channel) (room : List ℕ) (a : Result Received Refusal) (cs' : List Channel) (room' : List ℕ)
      → Expects cs 256 → 10 ≤ length room → Took cs (request_of k 0) room a cs' room'
      → received_numbered a ≡ accepted (request_values (meant k 0))
  kept-too-long cs room a cs' room' o h g =
      let same : counter_of k 0 ≡ counter_of k 256 = omega arith in
      (delivered-exactly cs (request_of k 0) room a cs' room' g (meant k 0)).1 (comes-with cs room a cs' room' h 0 256 o, same ∙ sym o.counter)
