-- A call of the surface over the block is the call inside over the table that the block holds: answer, table and room. Of the block it
-- changes at most the one counter.
use Rattle.std.specs.Prelude.{Result, Ok, Err}
use Prim.Native.Nat.{ℕ, zero, suc, ◌+◌, ◌-◌, ◌*◌}
use mathlib.Core.Bool.{Bool, true, false, ◌&&◌}
use mathlib.Core.List.{List, ◌∷◌}
use mathlib.Core.Path.{◌≡◌, refl, sym, ap, ◌∙◌}
use native.Mathlib.Omega.{arith}
use lib.Dec.{eqb}
use lib.ListN.{length, get_or, drop, set, length-set}
use lib.Seq.{get_or-set_other}
use borrow.Author.Tests.{eqb-true}
use Rattle.cemi.specs.declared.Message.{Message}
use Rattle.channels.proofs.CallLaws.{put_back, called-one}
use Rattle.channels.specs.Calls.{Called, answered}
use Rattle.channels.specs.Table.{many, closed, channel_at, put, counted, raised}
use Rattle.channels.specs.declared.Channel.{Channel}
use Rattle.exchange.proofs.ReceivingLaws.{took_one}
use Rattle.exchange.specs.Confirming.{channel_confirmed, confirming}
use Rattle.exchange.specs.Receiving.{channel_after, sent_back, receiving, delivered_message, Took}
use Rattle.exchange.specs.Sending.{sending, Sent}
use Rattle.exchange.specs.declared.Confirmed.TheVariants.{Raised, Kept}
use Rattle.exchange.specs.declared.Confirmed.{Confirmed}
use Rattle.exchange.specs.declared.Received.TheVariants.{Delivered, Again}
use Rattle.exchange.specs.declared.Received.{Received}
use Rattle.frame.specs.Writing.{room_after}
use Rattle.klumdray.proofs.ChannelLaws.{in_three, octet-place, held, took-unfit, took-through-one, confirmed-unfit, confirmed-through-one, sent-unfit, sent-through-one}
use Rattle.klumdray.specs.Channels.{channel_size, receive_place, send_place, first_channel, channels_from, channels_in, are_channels, with_octet, block_received, block_confirmed, received_number, delivered_payload, confirmed_number, received_through, confirmed_through, sent_through, TookThrough, SentThrough, ConfirmedThrough}
use Rattle.klumdray.specs.Decoding.{channel_place, channel_open, channel_receive, channel_send, ChangesAt}
use Rattle.klumdray.specs.Numbers.{written_number}
use Rattle.octets.specs.Room.{over}
use Rattle.tunnelling.specs.Layout.{request_octets}
use Rattle.tunnelling.specs.Reading.{channel_in}
use Rattle.frame.specs.declared.Refusal.{Refusal}

-- an octet put into a channel's changes that channel, and nothing else of the table
module _ (place octet : ℕ) (change : Channel → Channel)
    (first : (a b d : ℕ) (l : List ℕ) → first_channel (set (a ∷ b ∷ d ∷ l) place octet) ≡ change (first_channel (a ∷ b ∷ d ∷ l)))
    (rest : (a b d : ℕ) (l : List ℕ) → drop channel_size (set (a ∷ b ∷ d ∷ l) place octet) ≡ l) where
  changed-from : (n k : ℕ) (block : List ℕ) → length block ≡ channel_size * n
      → channels_from n (set block (channel_size * k + place) octet) ≡ set (channels_from n block) k (change (get_or (channels_from n block) k closed))
  changed-from zero k block e = refl
  changed-from (suc n) zero block e =
      let z : channel_size * 0 + place ≡ place = omega arith in
      in_three (λ (s : List ℕ). channels_from (suc n) (set s (channel_size * 0 + place) octet) ≡ set (channels_from (suc n) s) 0 (change (get_or (channels_from (suc n) s) 0 closed))) n block e
      (λ a b d l h. ap (λ (i : ℕ). channels_from (suc n) (set (a ∷ b ∷ d ∷ l) i octet)) z ∙ (λ i. first a b d l i ∷ channels_from n (rest a b d l i)))
  changed-from (suc n) (suc k) block e =
      let z : channel_size * suc k + place ≡ suc (suc (suc (channel_size * k + place))) = omega arith in
      in_three (λ (s : List ℕ). channels_from (suc n) (set s (channel_size * suc k + place) octet) ≡ set (channels_from (suc n) s) (suc k) (change (get_or (channels_from (suc n) s) (suc k) closed))) n block e
      (λ a b d l h. ap (λ (i : ℕ). channels_from (suc n) (set (a ∷ b ∷ d ∷ l) i octet)) z ∙ ap (λ (cs : List Channel). first_channel (a ∷ b ∷ d ∷ l) ∷ cs) (changed-from n k l h))

  changed : (n k : ℕ) (block : List ℕ) → length block ≡ channel_size * n
      → channels_from n (with_octet block k place octet) ≡ put (channels_from n block) k (change (channel_at (channels_from n block) k))
  changed n zero block e = refl
  changed n (suc k) block e = changed-from n k block e

module _ (block : List ℕ) (right : are_channels block ≡ true) (k : ℕ) where
  abbrev c : Channel
  c = channel_at (channels_in block) k

  size : length block ≡ channel_size * many
  size = eqb-true (length block) (channel_size * many) right

  -- the block after a call holds the table after it
  received-kept : (a : Result Received Refusal) → channels_in (block_received a c k block) ≡ put (channels_in block) k (channel_after a c)
  received-kept (Ok (Delivered x)) = changed receive_place (raised c.receive) (λ y. counted y (raised c.receive) y.send) (λ a b d l. refl) (λ a b d l. refl) many k block size
  received-kept (Ok Again) = sym (put_back (channels_in block) k)
  received-kept (Err r) = sym (put_back (channels_in block) k)

  confirmed-kept : (a : Result Confirmed Refusal) → channels_in (block_confirmed a c k block) ≡ put (channels_in block) k (channel_confirmed a c)
  confirmed-kept (Ok Raised) = changed send_place (raised c.send) (λ y. counted y y.receive (raised c.send)) (λ a b d l. refl) (λ a b d l. refl) many k block size
  confirmed-kept (Ok Kept) = sym (put_back (channels_in block) k)
  confirmed-kept (Err r) = sym (put_back (channels_in block) k)

  -- and the header's helpers read it
  pub channel-reads : (k ≡ 0 → ⊥) → c ≡ record { opened = channel_open block k; receive = channel_receive block k; send = channel_send block k }
  channel-reads h =
      sym (held block right k)
      ∙ (λ i. record { opened = eqb (sym (octet-place block k 0 h) i) 0x01; receive = sym (octet-place block k 1 h) i; send = sym (octet-place block k 2 h) i })

-- receiving a request
module _ {block s room : List ℕ} {answer : ℕ} {block' room' : List ℕ} (w : TookThrough block s room answer block' room') where
  module _ (right : are_channels block ≡ true) where
    abbrev taken : Result Received Refusal
    taken = answered (receiving s (length room)) (channels_in block)

    pub taken-through : received_through block s (length room) ≡ taken
    unfolding received_through
    taken-through = rw right

    pub took-inside : Took (channels_in block) s room taken (channels_in block') room'
    took-inside =
        let k : ℕ = channel_in s in
        let c : Channel = channel_at (channels_in block) k in
        record {
          called = record {
            answers = refl;
            table = ap channels_in (w.channels ∙ ap (λ (a : Result Received Refusal). block_received a c k block) taken-through) ∙ received-kept block right k taken;
          };
          left = w.left ∙ ap (λ (a : Result Received Refusal). over (sent_back a s) room) taken-through;
        }

    took_number : answer ≡ received_number taken (length (delivered_payload taken (delivered_message taken s)))
    took_number = w.answers ∙ ap (λ (a : Result Received Refusal). received_number a (length (delivered_payload a (delivered_message a s)))) taken-through

    -- what the call inside answers and leaves, the call of the surface does
    pub took-same : {a : Result Received Refusal} {cs' : List Channel} {left : List ℕ} → Took (channels_in block) s room a cs' left
        → (answer ≡ received_number a (length (delivered_payload a (delivered_message a s)))) × ((channels_in block' ≡ cs') × (room' ≡ left))
    took-same y =
        let e = took_one took-inside y in
        (took_number ∙ ap (λ (a : Result Received Refusal). received_number a (length (delivered_payload a (delivered_message a s)))) e.0, e.1)

  -- a block of another size: 14, and nothing is written
  pub took-other : are_channels block ≡ false → (answer ≡ 14) × ((block' ≡ block) × (room' ≡ room))
  took-other f = took-through-one w (took-unfit block s room f)

-- receiving an acknowledgement
module _ {block s : List ℕ} {answer : ℕ} {block' : List ℕ} (w : ConfirmedThrough block s answer block') where
  module _ (right : are_channels block ≡ true) where
    abbrev settled : Result Confirmed Refusal
    settled = answered (confirming s) (channels_in block)

    pub settled-through : confirmed_through block s ≡ settled
    unfolding confirmed_through
    settled-through = rw right

    pub confirmed-inside : Called (confirming s) (channels_in block) settled (channels_in block')
    confirmed-inside =
        let k : ℕ = channel_in s in
        let c : Channel = channel_at (channels_in block) k in
        record {
          answers = refl;
          table = ap channels_in (w.channels ∙ ap (λ (a : Result Confirmed Refusal). block_confirmed a c k block) settled-through) ∙ confirmed-kept block right k settled;
        }

    pub confirmed-same : {a : Result Confirmed Refusal} {cs' : List Channel} → Called (confirming s) (channels_in block) a cs' → (answer ≡ confirmed_number a) × (channels_in block' ≡ cs')
    confirmed-same y =
        let e = called-one confirmed-inside y in
        (w.answers ∙ ap confirmed_number (settled-through ∙ e.0), e.1)

  pub confirmed-other : are_channels block ≡ false → (answer ≡ 14) × (block' ≡ block)
  confirmed-other f = confirmed-through-one w (confirmed-unfit block s f)

-- sending a request
module _ {fit : Bool} {block : List ℕ} {n : ℕ} {x : Message} {p room : List ℕ} {answer : ℕ} {room' : List ℕ} (w : SentThrough fit block n x p room answer room') where
  module _ (right : are_channels block && fit ≡ true) where
    abbrev going : Result ℕ Refusal
    going = answered (sending n x p (length room)) (channels_in block)

    going-through : sent_through fit block n x p (length room) ≡ going
    going-through = rw right

    pub sent-inside : Sent (channels_in block) n x p room going room'
    sent-inside = record { answers = refl; left = w.left ∙ ap (λ (a : Result ℕ Refusal). room_after a (request_octets n (channel_at (channels_in block) n).send x p) room) going-through }

    pub sent-same : {a : Result ℕ Refusal} {left : List ℕ} → Sent (channels_in block) n x p room a left → (answer ≡ written_number a) × (room' ≡ left)
    sent-same {a} y =
        let e : going ≡ a = sym y.answers in
        (w.answers ∙ ap written_number (going-through ∙ e), sent-inside.left ∙ ap (λ (v : Result ℕ Refusal). room_after v (request_octets n (channel_at (channels_in block) n).send x p) room) e ∙ sym y.left)

  pub sent-other : are_channels block && fit ≡ false → (answer ≡ 14) × (room' ≡ room)
  sent-other f = sent-through-one w (sent-unfit fit block n x p room f)

-- at most one octet of the block changes, and its size stays

put-changes : (block : List ℕ) (k place octet : ℕ) → ChangesAt (channel_place k place) block (with_octet block k place octet)
put-changes block zero place octet = record { size = refl; others = λ i h. refl }
put-changes block (suc k) place octet =
    let e : channel_size * (suc k - 1) + place ≡ channel_size * k + place = omega arith in
    record { size = length-set block (channel_size * k + place) octet; others = λ i h. get_or-set_other block (channel_size * k + place) i octet 0 (λ f. h (f ∙ sym e)) }

stays : (at : ℕ) (block : List ℕ) → ChangesAt at block block
stays at block = record { size = refl; others = λ i h. refl }

pub took-changes : {block s room : List ℕ} {answer : ℕ} {block' room' : List ℕ} → TookThrough block s room answer block' room' → ChangesAt (channel_place (channel_in s) receive_place) block block'
took-changes {block} {s} {room} w = rw w.channels (go (received_through block s (length room)))
  where
    go : (a : Result Received Refusal) → ChangesAt (channel_place (channel_in s) receive_place) block (block_received a (channel_at (channels_in block) (channel_in s)) (channel_in s) block)
    go (Ok (Delivered x)) = put-changes block (channel_in s) receive_place (raised (channel_at (channels_in block) (channel_in s)).receive)
    go (Ok Again) = stays (channel_place (channel_in s) receive_place) block
    go (Err r) = stays (channel_place (channel_in s) receive_place) block

pub confirmed-changes : {block s : List ℕ} {answer : ℕ} {block' : List ℕ} → ConfirmedThrough block s answer block' → ChangesAt (channel_place (channel_in s) send_place) block block'
confirmed-changes {block} {s} w = rw w.channels (go (confirmed_through block s))
  where
    go : (a : Result Confirmed Refusal) → ChangesAt (channel_place (channel_in s) send_place) block (block_confirmed a (channel_at (channels_in block) (channel_in s)) (channel_in s) block)
    go (Ok Raised) = put-changes block (channel_in s) send_place (raised (channel_at (channels_in block) (channel_in s)).send)
    go (Ok Kept) = stays (channel_place (channel_in s) send_place) block
    go (Err r) = stays (channel_place (channel_in s) send_place) block
