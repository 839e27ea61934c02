-- The block is so many channels of three octets each: a channel read out of it, and a counter raised in it, as the calls inside have the
-- table by value. Everything is said over the number of channels.
use Rattle.std.specs.Prelude.{Result, Ok, Err}
use Prim.Native.Nat.{ℕ, zero, suc, ◌+◌, ◌-◌, ◌*◌, ◌≤◌}
use mathlib.Core.Bool.{Bool, true, false, cond, ◌&&◌}
use mathlib.Core.List.{List, [], ◌∷◌}
use mathlib.Core.Path.{◌≡◌, refl, sym, ap, ◌∙◌}
use native.Mathlib.Omega.{arith}
use lib.Dec.{ltb, eqb}
use lib.ListN.{length, get_or, drop, set}
use lib.Seq.{set_out}
use borrow.Author.Tests.{eqb-true, ltb-false, not-false}
use Rattle.cemi.specs.Writing.{message_in_range}
use Rattle.cemi.specs.declared.Codes.TheVariants.{All}
use Rattle.cemi.specs.declared.Message.{Message}
use Rattle.channels.proofs.TableLaws.{at_none}
use Rattle.channels.specs.Table.{many, closed, channel_at}
use Rattle.channels.specs.declared.Channel.{Channel}
use Rattle.exchange.specs.Confirming.{confirmed}
use Rattle.exchange.specs.Receiving.{received, sent_back, delivered_message, ReceivedOn}
use Rattle.exchange.specs.Sending.{send_tests, sent_by, sent, SentOn}
use Rattle.exchange.specs.declared.Confirmed.{Confirmed}
use Rattle.exchange.specs.declared.Received.{Received}
use Rattle.frame.proofs.Apart.{err-ok, err-one}
use Rattle.frame.proofs.Order.{answer-iff}
use Rattle.frame.specs.Writing.{room_after}
use Rattle.frame.specs.declared.Refusal.TheVariants.{OutOfRange, NotOpen}
use Rattle.klumdray.proofs.WriterNumbers.{request-most}
use Rattle.klumdray.specs.Channels.{channel_size, channels_from, channels_in, are_channels, with_octet, block_received, block_confirmed, received_number, delivered_payload, confirmed_number, received_through, confirmed_through, sent_through, TookThrough, SentThrough, ConfirmedThrough}
use Rattle.klumdray.specs.Numbers.{written_number}
use Rattle.klumdray.specs.Stages.{channel_or_none, octet_in, held_channel, Sized}
use Rattle.octets.proofs.Truth.{and-true, by_cases}
use Rattle.octets.specs.Octets.{octet_at}
use Rattle.octets.specs.Room.{over}
use Rattle.tunnelling.specs.Layout.{request_octets}
use Rattle.tunnelling.specs.Reading.{channel_in}
use Rattle.frame.specs.declared.Refusal.{Refusal}

-- the places as the code works them out: of a number that is not 0

pub octet-place : (block : List ℕ) (n place : ℕ) → (n ≡ 0 → ⊥) → octet_at block (channel_size * (n - 1) + place) ≡ octet_in block n place
octet-place block zero place h = absurd (h refl)
octet-place block (suc k) place h = let e : suc k - 1 ≡ k = omega arith in rw e

pub with-place : (block : List ℕ) (n place octet : ℕ) → (n ≡ 0 → ⊥) → set block (channel_size * (n - 1) + place) octet ≡ with_octet block n place octet
with-place block zero place octet h = absurd (h refl)
with-place block (suc k) place octet h = let e : suc k - 1 ≡ k = omega arith in rw e

pub with_none : (block : List ℕ) (n place octet : ℕ) → (n ≡ 0 → ⊥) → length block ≤ channel_size * (n - 1) + place → with_octet block n place octet ≡ block
with_none block n place octet h k = sym (with-place block n place octet h) ∙ set_out block (channel_size * (n - 1) + place) octet k

-- a block of some channels has the three octets of the first
pub in_three : (P : List ℕ → Type 0) (n : ℕ) (block : List ℕ) → length block ≡ channel_size * suc n → ((a b d : ℕ) (l : List ℕ) → length l ≡ channel_size * n → P (a ∷ b ∷ d ∷ l)) → P block
in_three P n [] e f = absurd (omega arith)
in_three P n (a ∷ []) e f = absurd (omega arith)
in_three P n (a ∷ b ∷ []) e f = absurd (omega arith)
in_three P n (a ∷ b ∷ d ∷ l) e f = f a b d l (omega arith)

-- the channel of a number, as the code finds it

held-behind : (a b d : ℕ) (l : List ℕ) (k : ℕ) → held_channel (a ∷ b ∷ d ∷ l) (suc (suc k)) ≡ held_channel l (suc k)
held-behind a b d l k =
    let at : (place : ℕ) → octet_in (a ∷ b ∷ d ∷ l) (suc (suc k)) place ≡ octet_in l (suc k) place = λ place.
    let e : channel_size * suc k + place ≡ suc (suc (suc (channel_size * k + place))) = omega arith in
    ap (octet_at (a ∷ b ∷ d ∷ l)) e in
    λ i. record { opened = eqb (at 0 i) 0x01; receive = at 1 i; send = at 2 i }

held-from : (n k : ℕ) (block : List ℕ) → length block ≡ channel_size * n → held_channel block (suc k) ≡ get_or (channels_from n block) k closed
held-from zero k [] e = refl
held-from zero k (a ∷ l) e = absurd (omega arith)
held-from (suc n) zero block e = refl
held-from (suc n) (suc k) block e =
    in_three (λ (s : List ℕ). held_channel s (suc (suc k)) ≡ get_or (channels_from (suc n) s) (suc k) closed) n block e (λ a b d l h. held-behind a b d l k ∙ held-from n k l h)

held_at : (n k : ℕ) (block : List ℕ) → length block ≡ channel_size * n → held_channel block k ≡ channel_at (channels_from n block) k
held_at n zero block e = refl
held_at n (suc k) block e = held-from n k block e

pub length_from : (n : ℕ) (block : List ℕ) → length (channels_from n block) ≡ n
length_from zero block = refl
length_from (suc n) block = ap suc (length_from n (drop channel_size block))

module _ (block : List ℕ) (right : are_channels block ≡ true) where
  pub held : (k : ℕ) → held_channel block k ≡ channel_at (channels_in block) k
  held k = held_at many k block (eqb-true (length block) (channel_size * many) right)

-- receiving a request, as its parts
pub took-fit : (block s room : List ℕ) {n : ℕ} {c : Channel} {a : Result Received Refusal} {m block' room' : List ℕ} {answer : ℕ} → are_channels block ≡ true
    → n ≡ channel_in s → c ≡ held_channel block n → ReceivedOn c s room a room' → block' ≡ block_received a c n block → m ≡ delivered_message a s
    → answer ≡ received_number a (length (delivered_payload a m))
    → TookThrough block s room answer block' room'
unfolding received_through
took-fit block s room {n} {c} {a} right eₙ e y w eₘ eᵣ =
    let k : ℕ = channel_in s in
    let h : Channel = channel_at (channels_in block) k in
    let f : c ≡ h = e ∙ held block right n ∙ ap (channel_at (channels_in block)) eₙ in
    let g : a ≡ received_through block s (length room) = rw right (y.answers ∙ ap (λ (x : Channel). received x s (length room)) f) in
    record {
      answers = eᵣ ∙ ap (λ (l : List ℕ). received_number a (length (delivered_payload a l))) eₘ ∙ ap (λ (x : Result Received Refusal). received_number x (length (delivered_payload x (delivered_message x s)))) g;
      channels = w ∙ ap (λ (i : ℕ). block_received a c i block) eₙ ∙ ap (λ (x : Channel). block_received a x k block) f ∙ ap (λ (x : Result Received Refusal). block_received x h k block) g;
      left = y.left ∙ ap (λ (x : Result Received Refusal). over (sent_back x s) room) g;
    }

pub took-unfit : (block s room : List ℕ) → are_channels block ≡ false → TookThrough block s room 14 block room
unfolding received_through
took-unfit block s room f = record { answers = rw f refl; channels = rw f refl; left = rw f refl }

-- receiving an acknowledgement, as its parts
pub confirmed-fit : (block s : List ℕ) {n : ℕ} {c : Channel} {a : Result Confirmed Refusal} {block' : List ℕ} {answer : ℕ} → are_channels block ≡ true
    → n ≡ channel_in s → c ≡ held_channel block n → a ≡ confirmed c s → block' ≡ block_confirmed a c n block → answer ≡ confirmed_number a
    → ConfirmedThrough block s answer block'
unfolding confirmed_through
confirmed-fit block s {n} {c} {a} right eₙ e y w eᵣ =
    let k : ℕ = channel_in s in
    let h : Channel = channel_at (channels_in block) k in
    let f : c ≡ h = e ∙ held block right n ∙ ap (channel_at (channels_in block)) eₙ in
    let g : a ≡ confirmed_through block s = rw right (y ∙ ap (λ (x : Channel). confirmed x s) f) in
    record {
      answers = eᵣ ∙ ap confirmed_number g;
      channels = w ∙ ap (λ (i : ℕ). block_confirmed a c i block) eₙ ∙ ap (λ (x : Channel). block_confirmed a x k block) f ∙ ap (λ (x : Result Confirmed Refusal). block_confirmed x h k block) g;
    }

pub confirmed-unfit : (block s : List ℕ) → are_channels block ≡ false → ConfirmedThrough block s 14 block
unfolding confirmed_through
confirmed-unfit block s f = record { answers = rw f refl; channels = rw f refl }

-- sending: a number that is no octet is no channel's

closed-sent : (ranged : Bool) (c : Channel) (octets : List ℕ) (room : ℕ) → c.opened ≡ false → sent_by ranged c octets room ≡ Err (cond ranged NotOpen OutOfRange)
unfolding sent_by
closed-sent true c octets room e = rw e
closed-sent false c octets room e = refl

pub sent-put : (ranged : Bool) (c : Channel) (octets : List ℕ) (room k : ℕ) → sent_by ranged c octets room ≡ Ok k → (ranged ≡ true) × (length octets ≡ k)
unfolding sent_by
sent-put ranged c octets room k e =
    let w = (answer-iff Err (λ q r. err-one) (send_tests ranged c octets room) (Ok (length octets)) (Ok k) (λ r. err-ok)).0 e in
    (not-false ranged w.0.0, cc)

-- a size that is sent has a number
pub sent-sized : {c : Channel} {n : ℕ} {x : Message} {p room room' : List ℕ} (w : Result ℕ Refusal) → SentOn c n x p room w room' → Sized w
sent-sized {c} {n} {x} {p} {room} (Ok k) y =
    let e = sent-put (message_in_range All x (length p)) c (request_octets n c.send x p) (length room) k (sym y.answers) in
    omega (arith, e.1, request-most true n c.send x p e.0)
sent-sized (Err r) y = tt

module _ (fit : Bool) (block : List ℕ) (n : ℕ) (x : Message) (p room : List ℕ) where
  abbrev ranged : Bool
  ranged = message_in_range All x (length p)

  abbrev c : Channel
  c = channel_at (channels_in block) n

  -- on the channel of the number
  sent-held : {w : Result ℕ Refusal} {room' : List ℕ} {answer : ℕ} → are_channels block && fit ≡ true → SentOn (held_channel block n) n x p room w room' → answer ≡ written_number w
      → SentThrough fit block n x p room answer room'
  sent-held {w} right y e =
      let h : held_channel block n ≡ c = held block (and-true (are_channels block) fit right).0 n in
      let f : w ≡ sent_through fit block n x p (length room) = rw right (y.answers ∙ ap (sent n x p (length room)) h) in
      record {
        answers = e ∙ ap written_number f;
        left = y.left ∙ ap (λ (d : Channel). room_after w (request_octets n d.send x p) room) h ∙ ap (λ (v : Result ℕ Refusal). room_after v (request_octets n c.send x p) room) f;
      }

  -- on none
  sent-none : {w : Result ℕ Refusal} {room' : List ℕ} {answer : ℕ} → are_channels block && fit ≡ true → ltb n 256 ≡ false → SentOn (held_channel block 0) 0 x p room w room' → answer ≡ written_number w
      → SentThrough fit block n x p room answer room'
  sent-none {w} right none y e =
      let v : (Result ℕ Refusal) = Err (cond ranged NotOpen OutOfRange) in
      let f : w ≡ v = y.answers ∙ closed-sent ranged (held_channel block 0) (request_octets 0 0 x p) (length room) refl in
      let shut : c.opened ≡ false = ap (λ (d : Channel). d.opened) (at_none (channels_in block) n (omega (arith, length_from many block, ltb-false n 256 none))) in
      let g : v ≡ sent_through fit block n x p (length room) = rw right (sym (closed-sent ranged c (request_octets n c.send x p) (length room) shut)) in
      record {
        answers = e ∙ ap written_number (f ∙ g);
        left = y.left ∙ ap (λ (u : Result ℕ Refusal). room_after u (request_octets 0 0 x p) room) f ∙ ap (λ (u : Result ℕ Refusal). room_after u (request_octets n c.send x p) room) g;
      }

  pub sent-fit : {w : Result ℕ Refusal} {room' : List ℕ} {answer : ℕ} → are_channels block && fit ≡ true → SentOn (held_channel block (channel_or_none n)) (channel_or_none n) x p room w room' → answer ≡ written_number w
      → SentThrough fit block n x p room answer room'
  sent-fit {w} {room'} right y e =
      by_cases (ltb n 256)
      (λ b. sent-held right (rw b at y) e)
      (λ b. sent-none right b (rw b at y) e)

  pub sent-unfit : are_channels block && fit ≡ false → SentThrough fit block n x p room 14 room
  unfolding sent_by
  sent-unfit f = record { answers = rw f refl; left = rw f refl }

-- two outcomes that a contract allows coincide

pub took-through-one : {block s room : List ℕ} {r₁ r₂ : ℕ} {b₁ b₂ a₁ a₂ : List ℕ} → TookThrough block s room r₁ b₁ a₁ → TookThrough block s room r₂ b₂ a₂ → (r₁ ≡ r₂) × ((b₁ ≡ b₂) × (a₁ ≡ a₂))
took-through-one x y = (x.answers ∙ sym y.answers, (x.channels ∙ sym y.channels, x.left ∙ sym y.left))

pub sent-through-one : {fit : Bool} {block : List ℕ} {n : ℕ} {x : Message} {p room : List ℕ} {r₁ r₂ : ℕ} {a₁ a₂ : List ℕ}
    → SentThrough fit block n x p room r₁ a₁ → SentThrough fit block n x p room r₂ a₂ → (r₁ ≡ r₂) × (a₁ ≡ a₂)
sent-through-one y z = (y.answers ∙ sym z.answers, y.left ∙ sym z.left)

pub confirmed-through-one : {block s : List ℕ} {r₁ r₂ : ℕ} {b₁ b₂ : List ℕ} → ConfirmedThrough block s r₁ b₁ → ConfirmedThrough block s r₂ b₂ → (r₁ ≡ r₂) × (b₁ ≡ b₂)
confirmed-through-one x y = (x.answers ∙ sym y.answers, x.channels ∙ sym y.channels)
