-- What a request and an acknowledgement come to, exactly: the order's tests are the wire reader's with the channel's between them, so that
-- what is not refused is what the reader accepts on an open channel with a counter that it awaits.
use Rattle.std.specs.Prelude.{Result, Ok, Err}
use Prim.Native.Nat.{ℕ, suc, ◌≤◌, ◌<◌}
use mathlib.Core.Bool.{Bool, true, false, cond, not, ◌||◌}
use mathlib.Core.List.{List, [], ◌∷◌, ◌++◌}
use mathlib.Core.Logic.{◌↔◌}
use mathlib.Core.Path.{◌≡◌, refl, sym, ap, ◌∙◌}
use lib.Dec.{ltb, eqb}
use lib.ListN.{length, take, drop}
use native.Mathlib.Omega.{arith}
use borrow.Author.Tests.{ltb-true, ltb-false, lt-ltb, le-ltb, eqb-true, eqb-false, eq-eqb, ne_eqb, not-false}
use Rattle.octets.proofs.Truth.{by_cases, or_right}
use Rattle.frame.proofs.Order.{gives_not, none-split, answer-iff, refusal-once}
use Rattle.frame.specs.Order.{Test, NoneOf, ◌gives◌}
use Rattle.frame.specs.declared.Refusal.TheVariants.{LeftOver, SmallRoom, OtherConnection, NotOpen, OtherCounter}
use Rattle.frame.specs.declared.Refusal.{Refusal}
use Rattle.cemi.specs.Reading.{cemi_tests}
use Rattle.cemi.specs.declared.Codes.TheVariants.{All}
use Rattle.channels.specs.Table.{raised}
use Rattle.channels.specs.declared.Channel.{Channel}
use Rattle.tunnelling.proofs.Refusals.{request-accepted-iff, acknowledgement-accepted-iff}
use Rattle.tunnelling.specs.Layout.{request_service, acknowledgement_service}
use Rattle.tunnelling.specs.Reading.{is_other_connection, counter_in, status_in, message, connected_tests, request_in, read_request, acknowledgement_in, read_acknowledgement}
use Rattle.tunnelling.specs.declared.Acknowledgement.{Acknowledgement}
use Rattle.tunnelling.specs.declared.Request.{Request}
use Rattle.exchange.proofs.Apart.{delivered-again, delivered-one, raised-kept}
use Rattle.frame.proofs.Apart.{err-ok, err-one}
use Rattle.exchange.specs.Confirming.{is_sent, confirm_tests, confirmed_by, confirmed}
use Rattle.exchange.specs.Receiving.{is_expected, is_behind, channel_tests, receive_tests, taken_as, received}
use Rattle.exchange.specs.declared.Confirmed.TheVariants.{Raised, Kept}
use Rattle.exchange.specs.declared.Confirmed.{Confirmed}
use Rattle.exchange.specs.declared.Received.TheVariants.{Delivered, Again}
use Rattle.exchange.specs.declared.Received.{Received}

-- a counter raised by one is another
pub raised-other : (n : ℕ) → raised n ≡ n → ⊥
unfolding raised
raised-other n e = omega arith

module _ (c : Channel) (s : List ℕ) where
  pub expected-iff : is_expected c s ≡ true ↔ (counter_in s ≡ c.receive)
  unfolding is_expected
  expected-iff = (eqb-true _ _, eq-eqb _ _)

  pub behind-iff : is_behind c s ≡ true ↔ (raised (counter_in s) ≡ c.receive)
  unfolding is_behind
  behind-iff = (eqb-true _ _, eq-eqb _ _)

  pub sent-iff : is_sent c s ≡ true ↔ (counter_in s ≡ c.send)
  unfolding is_sent
  sent-iff = (eqb-true _ _, eq-eqb _ _)

  -- a request that its channel may take: room for the acknowledgement, a request on the wire, and the channel open
  pub record Arrives (room : ℕ) (x : Request) : Type 0 where
    pub fits : 10 ≤ room
    pub read : read_request s ≡ Ok x
    pub opened : c.opened ≡ true

  abbrev known : Bool
  known = is_expected c s || is_behind c s

  arrived : (room : ℕ) → NoneOf (receive_tests c s room) → Arrives room (request_in s) × (known ≡ true)
  arrived room n =
      let a = (none-split (connected_tests request_service s) (channel_tests c known ++ cemi_tests All (message s))).0 n.1 in
      let b = (none-split (channel_tests c known) (cemi_tests All (message s))).0 a.1 in
      let none = (none-split (connected_tests request_service s) (cemi_tests All (message s))).1 (a.0, b.1) in (
        record { fits = ltb-false room 10 n.0; read = (request-accepted-iff s (request_in s)).1 (none, refl); opened = not-false c.opened b.0.0 },
        not-false known b.0.1.0,
      )

  arrives : (room : ℕ) (x : Request) → Arrives room x → known ≡ true → NoneOf (receive_tests c s room)
  arrives room x a e =
      let n = (none-split (connected_tests request_service s) (cemi_tests All (message s))).0 ((request-accepted-iff s x).0 a.read).0 in
      let rest = (none-split (channel_tests c known) (cemi_tests All (message s))).1 ((ap not a.opened, (ap not e, tt)), n.1) in
      (le-ltb room 10 a.fits, (none-split (connected_tests request_service s) (channel_tests c known ++ cemi_tests All (message s))).1 (n.0, rest))

  same : {room : ℕ} {x : Request} → Arrives room x → request_in s ≡ x
  same {room} {x} a = ((request-accepted-iff s x).0 a.read).1

  counted-as : {room : ℕ} {x : Request} → Arrives room x → counter_in s ≡ x.counter
  counted-as a = ap (λ (y : Request). y.counter) (same a)

  module _ (room : ℕ) where
    -- the answer where nothing is refused
    taken-iff : (a : Result Received Refusal) → ((r : Refusal) → Err r ≡ a → ⊥) → received c s room ≡ a ↔ (NoneOf (receive_tests c s room) × (taken_as (is_expected c s) s ≡ a))
    unfolding received
    taken-iff = answer-iff Err (λ q r. err-one) (receive_tests c s room) (taken_as (is_expected c s) s)

    -- delivered exactly if the counter is the expected one
    pub delivered-iff : (x : Request) → received c s room ≡ Ok (Delivered x) ↔ (Arrives room x × (x.counter ≡ c.receive))
    delivered-iff x =
        let w = taken-iff (Ok (Delivered x)) (λ r. err-ok) in (
          (λ e. let n = w.0 e in go (is_expected c s) refl n.1 (arrived room n.0).0),
          λ g.
              let e : is_expected c s ≡ true = expected-iff.1 (counted-as g.0 ∙ g.1) in
              w.1 (arrives room x g.0 (ap (λ (b : Bool). b || is_behind c s) e), ap (λ (b : Bool). taken_as b s) e ∙ ap (λ (y : Request). Ok (Delivered y)) (same g.0)),
        )
      where
        go : (b : Bool) → is_expected c s ≡ b → taken_as b s ≡ Ok (Delivered x) → Arrives room (request_in s) → Arrives room x × (x.counter ≡ c.receive)
        go true e f a = rw (← delivered-one f) (a, expected-iff.0 e)
        go false e f a = delivered-again (sym f)

    -- acknowledged again exactly if it is one behind
    pub again-iff : received c s room ≡ Ok Again ↔ ((x : Request) × (Arrives room x × (raised x.counter ≡ c.receive)))
    again-iff =
        let w = taken-iff (Ok Again) (λ r. err-ok) in (
          (λ e. let n = w.0 e in let g = arrived room n.0 in go (is_expected c s) refl n.1 g.1 g.0),
          λ g.
              let f : raised (counter_in s) ≡ c.receive = ap raised (counted-as g.1.0) ∙ g.1.1 in
              let e : is_expected c s ≡ false = unexpected f in
              w.1 (arrives room g.0 g.1.0 (or_right (is_expected c s) (is_behind c s) (behind-iff.1 f)), ap (λ (b : Bool). taken_as b s) e),
        )
      where
        unexpected : raised (counter_in s) ≡ c.receive → is_expected c s ≡ false
        unexpected f = by_cases (is_expected c s) (λ e. absurd (raised-other (counter_in s) (f ∙ sym (expected-iff.0 e)))) (λ e. e)

        go : (b : Bool) → is_expected c s ≡ b → taken_as b s ≡ Ok Again → known ≡ true → Arrives room (request_in s) → (x : Request) × (Arrives room x × (raised x.counter ≡ c.receive))
        go true e f k a = delivered-again f
        go false e f k a = (request_in s, (a, behind-iff.0 (rw e at k)))

    -- each refusal of the request's own exactly in its listed case
    once-at : (k : ℕ) (b : Bool) (r : Refusal) → receive_tests c s room ≡ take k (receive_tests c s room) ++ (b gives r ∷ drop (suc k) (receive_tests c s room))
        → gives_not (take k (receive_tests c s room)) r ≡ true → gives_not (drop (suc k) (receive_tests c s room)) r ≡ true
        → received c s room ≡ Err r ↔ (NoneOf (take k (receive_tests c s room)) × (b ≡ true))
    unfolding received
    once-at k b r e g h =
        let w = refusal-once Err (λ q r. err-one) (take k (receive_tests c s room)) (drop (suc k) (receive_tests c s room)) b (taken_as (is_expected c s) s) r (no-refusal (is_expected c s)) g h in
        rw (← e) at w
      where
        no-refusal : (x : Bool) → Err r ≡ taken_as x s → ⊥
        no-refusal true = err-ok
        no-refusal false = err-ok

    pub refused-13 : received c s room ≡ Err SmallRoom ↔ (room < 10)
    refused-13 = let w = once-at 0 _ SmallRoom refl refl refl in ((λ e. ltb-true room 10 (w.0 e).1), λ h. w.1 (tt, lt-ltb room 10 h))

    pub refused-19 : received c s room ≡ Err OtherConnection ↔ (NoneOf (take 6 (receive_tests c s room)) × (is_other_connection s ≡ true))
    refused-19 = once-at 6 _ OtherConnection refl refl refl

    pub refused-20 : received c s room ≡ Err NotOpen ↔ (NoneOf (take 7 (receive_tests c s room)) × (not c.opened ≡ true))
    refused-20 = once-at 7 _ NotOpen refl refl refl

    pub refused-21 : received c s room ≡ Err OtherCounter ↔ (NoneOf (take 8 (receive_tests c s room)) × (not known ≡ true))
    refused-21 = once-at 8 _ OtherCounter refl refl refl

  -- an acknowledgement of this channel: one on the wire, the channel open, the counter that its last request went out with
  pub record Answers (a : Acknowledgement) : Type 0 where
    pub read : read_acknowledgement s ≡ Ok a
    pub opened : c.opened ≡ true
    pub counter : a.counter ≡ c.send

  -- the one test behind the channel's
  abbrev last : List Test
  last = ltb 10 (length s) gives LeftOver ∷ []

  answering : NoneOf (confirm_tests c s) → Answers (acknowledgement_in s)
  answering n =
      let a = (none-split (connected_tests acknowledgement_service s) (channel_tests c (is_sent c s) ++ last)).0 n in
      let b = (none-split (channel_tests c (is_sent c s)) last).0 a.1 in
      let none = (none-split (connected_tests acknowledgement_service s) last).1 (a.0, b.1) in
      record { read = (acknowledgement-accepted-iff s (acknowledgement_in s)).1 (none, refl); opened = not-false c.opened b.0.0; counter = sent-iff.0 (not-false (is_sent c s) b.0.1.0) }

  answers : (a : Acknowledgement) → Answers a → NoneOf (confirm_tests c s) × (acknowledgement_in s ≡ a)
  answers a w =
      let f = (acknowledgement-accepted-iff s a).0 w.read in
      let n = (none-split (connected_tests acknowledgement_service s) last).0 f.0 in
      let e : is_sent c s ≡ true = sent-iff.1 (ap (λ (b : Acknowledgement). b.counter) f.1 ∙ w.counter) in
      let rest = (none-split (channel_tests c (is_sent c s)) last).1 ((ap not w.opened, (ap not e, tt)), n.1) in
      ((none-split (connected_tests acknowledgement_service s) (channel_tests c (is_sent c s) ++ last)).1 (n.0, rest), f.1)

  settled-iff : (v : Result Confirmed Refusal) → ((r : Refusal) → Err r ≡ v → ⊥) → confirmed c s ≡ v ↔ (NoneOf (confirm_tests c s) × (confirmed_by s ≡ v))
  unfolding confirmed
  settled-iff = answer-iff Err (λ q r. err-one) (confirm_tests c s) (confirmed_by s)

  -- what its status comes to
  abbrev outcome : Bool → Result Confirmed Refusal
  outcome b = cond b (Ok Raised) (Ok Kept)

  -- raised exactly if such an acknowledgement has status 00h ..
  pub raised-iff : confirmed c s ≡ Ok Raised ↔ ((a : Acknowledgement) × (Answers a × (a.status ≡ 0)))
  raised-iff =
      let w = settled-iff (Ok Raised) (λ r. err-ok) in (
        (λ e. let n = w.0 e in (acknowledgement_in s, (answering n.0, go (eqb (status_in s) 0) refl n.1))),
        λ g.
            let n = answers g.0 g.1.0 in
            w.1 (n.0, ap outcome (eq-eqb (status_in s) 0 (ap (λ (b : Acknowledgement). b.status) n.1 ∙ g.1.1))),
      )
    where
      go : (b : Bool) → eqb (status_in s) 0 ≡ b → outcome b ≡ Ok Raised → status_in s ≡ 0
      go true e f = eqb-true (status_in s) 0 e
      go false e f = raised-kept (sym f)

  -- .. and kept exactly if it has another
  pub kept-iff : confirmed c s ≡ Ok Kept ↔ ((a : Acknowledgement) × (Answers a × (a.status ≡ 0 → ⊥)))
  kept-iff =
      let w = settled-iff (Ok Kept) (λ r. err-ok) in (
        (λ e. let n = w.0 e in (acknowledgement_in s, (answering n.0, go (eqb (status_in s) 0) refl n.1))),
        λ g.
            let n = answers g.0 g.1.0 in
            w.1 (n.0, ap outcome (ne_eqb (status_in s) 0 (λ z. g.1.1 (ap (λ (b : Acknowledgement). b.status) (sym n.1) ∙ z)))),
      )
    where
      go : (b : Bool) → eqb (status_in s) 0 ≡ b → outcome b ≡ Ok Kept → status_in s ≡ 0 → ⊥
      go true e f = raised-kept f
      go false e f = eqb-false (status_in s) 0 e

  confirm-once : (k : ℕ) (b : Bool) (r : Refusal) → confirm_tests c s ≡ take k (confirm_tests c s) ++ (b gives r ∷ drop (suc k) (confirm_tests c s))
      → gives_not (take k (confirm_tests c s)) r ≡ true → gives_not (drop (suc k) (confirm_tests c s)) r ≡ true
      → confirmed c s ≡ Err r ↔ (NoneOf (take k (confirm_tests c s)) × (b ≡ true))
  unfolding confirmed
  confirm-once k b r e g h =
      let w = refusal-once Err (λ q r. err-one) (take k (confirm_tests c s)) (drop (suc k) (confirm_tests c s)) b (confirmed_by s) r (no-refusal (eqb (status_in s) 0)) g h in
      rw (← e) at w
    where
      no-refusal : (x : Bool) → Err r ≡ outcome x → ⊥
      no-refusal true = err-ok
      no-refusal false = err-ok

  pub confirm-19 : confirmed c s ≡ Err OtherConnection ↔ (NoneOf (take 5 (confirm_tests c s)) × (is_other_connection s ≡ true))
  confirm-19 = confirm-once 5 _ OtherConnection refl refl refl

  pub confirm-20 : confirmed c s ≡ Err NotOpen ↔ (NoneOf (take 6 (confirm_tests c s)) × (not c.opened ≡ true))
  confirm-20 = confirm-once 6 _ NotOpen refl refl refl

  pub confirm-21 : confirmed c s ≡ Err OtherCounter ↔ (NoneOf (take 7 (confirm_tests c s)) × (not (is_sent c s) ≡ true))
  confirm-21 = confirm-once 7 _ OtherCounter refl refl refl

  -- "for an acknowledgement 5 comes last"
  pub confirm-5 : confirmed c s ≡ Err LeftOver ↔ (NoneOf (take 8 (confirm_tests c s)) × (ltb 10 (length s) ≡ true))
  confirm-5 = confirm-once 8 _ LeftOver refl refl refl
