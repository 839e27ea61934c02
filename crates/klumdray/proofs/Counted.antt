-- The block and the room after a call, by its answer: a counter is raised exactly where the answer says so, as the header's helpers read it,
-- and a refused call leaves everything as it was.
use Rattle.std.specs.Prelude.{Result, Ok, Err}
use Prim.Native.Nat.{ℕ, ◌*◌}
use mathlib.Core.Bool.{true, false}
use mathlib.Core.List.{List}
use mathlib.Core.Path.{◌≡◌, refl, sym, ap, ◌∙◌}
use native.Mathlib.Omega.{arith}
use lib.Dec.{eqb}
use lib.ListN.{length}
use Rattle.channels.proofs.TableLaws.{at-put}
use Rattle.channels.specs.Table.{many, channel_at, put, raised}
use Rattle.channels.specs.declared.Channel.{Channel}
use Rattle.frame.proofs.Apart.{err-ok}
use Rattle.exchange.proofs.Exactly.{raised-iff}
use Rattle.exchange.specs.Confirming.{channel_confirmed}
use Rattle.exchange.specs.Receiving.{acknowledging, sent_back, channel_after}
use Rattle.exchange.specs.declared.Confirmed.TheVariants.{Raised, Kept}
use Rattle.exchange.specs.declared.Confirmed.{Confirmed}
use Rattle.exchange.specs.declared.Received.TheVariants.{Delivered, Again}
use Rattle.exchange.specs.declared.Received.{Received}
use Rattle.frame.proofs.Numbers.{number-listed}
use Rattle.klumdray.proofs.ChannelsInside.{channel-reads, taken-through, took-inside, took-changes, settled-through, confirmed-inside, confirmed-changes}
use Rattle.klumdray.proofs.TunnellingNumbers.{delivered-inside, took-told}
use Rattle.klumdray.specs.Channels.{channel_size, channels_in, are_channels, block_received, block_confirmed, confirmed_number, received_through, confirmed_through, TookThrough, ConfirmedThrough}
use Rattle.klumdray.specs.Decoding.{number_in, delivered_in, raised_in, channel_open, channel_receive, channel_send}
use Rattle.octets.proofs.Truth.{by_cases, never}
use Rattle.octets.specs.Octets.{Octets}
use Rattle.octets.specs.Room.{over}
use Rattle.tunnelling.specs.Reading.{channel_in}
use Rattle.frame.specs.declared.Refusal.{Refusal}

-- another channel put under the number of an open one is what the helpers then read there
module _ (block block' : List ℕ) (k : ℕ) (c' : Channel) (right : are_channels block ≡ true) (size : length block' ≡ length block)
    (opened : (channel_at (channels_in block) k).opened ≡ true) (table : channels_in block' ≡ put (channels_in block) k c') where
  some : k ≡ 0 → ⊥
  some z = never (sym opened ∙ ap (λ (i : ℕ). (channel_at (channels_in block) i).opened) z)

  before-read : channel_at (channels_in block) k ≡ record { opened = channel_open block k; receive = channel_receive block k; send = channel_send block k }
  before-read = channel-reads block right k some

  after_read : record { opened = channel_open block' k; receive = channel_receive block' k; send = channel_send block' k } ≡ c'
  after_read =
      sym (channel-reads block' (ap (λ (n : ℕ). eqb n (channel_size * many)) size ∙ right) k some)
      ∙ ap (λ (cs : List Channel). channel_at cs k) table ∙ at-put (channels_in block) k c' opened

module _ {block s room : List ℕ} {answer : ℕ} {block' room' : List ℕ} (o : Octets s) (w : TookThrough block s room answer block' room') where
  abbrev taking : Result Received Refusal
  taking = received_through block s (length room)

  abbrev c : Channel
  c = channel_at (channels_in block) (channel_in s)

  -- delivered: the receive counter of the channel that the request names is raised
  pub took-raises : delivered_in answer ≡ true → channel_receive block' (channel_in s) ≡ raised (channel_receive block (channel_in s))
  took-raises d =
      let k : ℕ = channel_in s in
      let e = (took-told o w).delivers.0 d in
      let f = delivered-inside block s (length room) e.0 e.1 in
      let y = (took-inside w f.0).called.table ∙ ap (λ (a : Result Received Refusal). put (channels_in block) k (channel_after a c)) (sym (taken-through w f.0) ∙ e.1) in
      let after = after_read block block' k (channel_after (Ok (Delivered e.0)) c) f.0 (took-changes w).size f.1.opened y in
      let before = before-read block block' k (channel_after (Ok (Delivered e.0)) c) f.0 (took-changes w).size f.1.opened y in
      ap (λ (h : Channel). h.receive) after ∙ ap (λ (h : Channel). raised h.receive) before

  -- not delivered: the block stays
  pub took-leaves : delivered_in answer ≡ false → block' ≡ block
  took-leaves d = go taking refl
    where
      go : (a : Result Received Refusal) → received_through block s (length room) ≡ a → block' ≡ block
      go (Ok (Delivered x)) e = never (sym ((took-told o w).delivers.1 (x, e)) ∙ d)
      go (Ok Again) e = w.channels ∙ ap (λ (a : Result Received Refusal). block_received a c (channel_in s) block) e
      go (Err r) e = w.channels ∙ ap (λ (a : Result Received Refusal). block_received a c (channel_in s) block) e

  -- not refused: the acknowledgement of the request's own channel and counter
  pub took-acknowledges : number_in answer ≡ 0 → room' ≡ over (acknowledging s) room
  took-acknowledges z = go taking refl
    where
      go : (a : Result Received Refusal) → received_through block s (length room) ≡ a → room' ≡ over (acknowledging s) room
      go (Ok (Delivered x)) e = w.left ∙ ap (λ (a : Result Received Refusal). over (sent_back a s) room) e
      go (Ok Again) e = w.left ∙ ap (λ (a : Result Received Refusal). over (sent_back a s) room) e
      go (Err r) e = absurd ((took-told o w).told.accepted.0 z r e)

  -- refused: block and room stay
  pub took-stays : (number_in answer ≡ 0 → ⊥) → (block' ≡ block) × (room' ≡ room)
  took-stays n = go taking refl
    where
      go : (a : Result Received Refusal) → received_through block s (length room) ≡ a → (block' ≡ block) × (room' ≡ room)
      go (Ok (Delivered x)) e = absurd (n ((took-told o w).told.accepted.1 (λ r f. err-ok (sym f ∙ e))))
      go (Ok Again) e = absurd (n ((took-told o w).told.accepted.1 (λ r f. err-ok (sym f ∙ e))))
      go (Err r) e = (w.channels ∙ ap (λ (a : Result Received Refusal). block_received a c (channel_in s) block) e, w.left ∙ ap (λ (a : Result Received Refusal). over (sent_back a s) room) e)

-- the counter of an acknowledgement that is taken: only in a block of the right size, on an open channel
raised-inside : (block s : List ℕ) → confirmed_through block s ≡ (Ok Raised) → (are_channels block ≡ true) × ((channel_at (channels_in block) (channel_in s)).opened ≡ true)
unfolding confirmed_through
raised-inside block s e =
    by_cases (are_channels block)
    (λ b. (b, ((raised-iff (channel_at (channels_in block) (channel_in s)) s).0 (rw b at e)).1.0.opened))
    (λ b. err-ok (rw b at e))

raised-told : (a : Result Confirmed Refusal) → raised_in (confirmed_number a) ≡ 1 → a ≡ (Ok Raised)
raised-told (Ok Raised) e = refl
raised-told (Ok Kept) e = absurd (omega (arith, e))
raised-told (Err r) e = absurd (omega (arith, e, (number-listed r).1))

kept-told : (a : Result Confirmed Refusal) (h : Channel) (k : ℕ) (block : List ℕ) → raised_in (confirmed_number a) ≡ 0 → block_confirmed a h k block ≡ block
kept-told (Ok Raised) h k block e = absurd (omega (arith, e))
kept-told (Ok Kept) h k block e = refl
kept-told (Err r) h k block e = refl

module _ {block s : List ℕ} {answer : ℕ} {block' : List ℕ} (w : ConfirmedThrough block s answer block') where
  abbrev h : Channel
  h = channel_at (channels_in block) (channel_in s)

  -- raised: the send counter of the channel that the acknowledgement names
  pub confirmed-raises : raised_in answer ≡ 1 → channel_send block' (channel_in s) ≡ raised (channel_send block (channel_in s))
  confirmed-raises z =
      let k : ℕ = channel_in s in
      let e = raised-told (confirmed_through block s) (ap raised_in (sym w.answers) ∙ z) in
      let f = raised-inside block s e in
      let y = (confirmed-inside w f.0).table ∙ ap (λ (a : Result Confirmed Refusal). put (channels_in block) k (channel_confirmed a h)) (sym (settled-through w f.0) ∙ e) in
      let after = after_read block block' k (channel_confirmed (Ok Raised) h) f.0 (confirmed-changes w).size f.1 y in
      let before = before-read block block' k (channel_confirmed (Ok Raised) h) f.0 (confirmed-changes w).size f.1 y in
      ap (λ (c : Channel). c.send) after ∙ ap (λ (c : Channel). raised c.send) before

  -- not raised, by another status or by a refusal: the block stays
  pub confirmed-leaves : raised_in answer ≡ 0 → block' ≡ block
  confirmed-leaves z = w.channels ∙ kept-told (confirmed_through block s) h (channel_in s) block (ap raised_in (sym w.answers) ∙ z)
