-- R-1, the three calls over a table of channels, of every answer, table and room that their contracts allow: "Each call must do what a plain
-- table of counters does." Of demand 1: which answer or refusal, and that a refused call changes nothing. Then each sentence of R-1, exactly.
use Rattle.std.specs.Prelude.{Result, Ok, Err}
use Prim.Native.Nat.{ℕ, ◌+◌, ◌≤◌, ◌<◌}
use mathlib.Core.Bool.{Bool, true, false, cond, not, ◌||◌}
use mathlib.Core.List.{List, [], ◌∷◌, ◌++◌}
use mathlib.Core.Logic.{◌↔◌}
use mathlib.Core.Path.{◌≡◌, refl, sym, ap, ◌∙◌}
use native.Mathlib.Omega.{arith}
use lib.Dec.{eqb}
use lib.ListN.{length, take, drop}
use borrow.Author.Tests.{not-true, not-false, eqb-true, eqb-false, eq-eqb, ltb-false, le-ltb}
use Rattle.octets.proofs.Truth.{by_cases, never, or-false, or_right, or_cases}
use Rattle.octets.specs.Octets.{octet_at}
use Rattle.frame.proofs.Apart.{err-ok, ok-err}
use Rattle.frame.proofs.Order.{passed-iff, refused-iff}
use Rattle.frame.proofs.Numbers.{number-some, number-apart}
use Rattle.frame.specs.Answers.{Numbered, accepted, refused, written_numbered}
use Rattle.frame.specs.Order.{Test, NoneOf, first_of, answer_by}
use Rattle.frame.specs.Refusals.{number}
use Rattle.frame.specs.Writing.{room_after}
use Rattle.frame.specs.declared.Refusal.TheVariants.{NotOpen, OtherCounter}
use Rattle.frame.specs.declared.Refusal.{Refusal}
use Rattle.cemi.specs.Valid.{ValidMessage}
use Rattle.cemi.specs.Writing.{message_in_range}
use Rattle.cemi.specs.declared.Codes.TheVariants.{All}
use Rattle.cemi.specs.declared.Message.{Message}
use Rattle.channels.proofs.CallLaws.{put_back}
use Rattle.channels.proofs.TableLaws.{at-put, at_other}
use Rattle.channels.specs.Calls.{Called}
use Rattle.channels.specs.Table.{channel_at, put, counted, raised}
use Rattle.channels.specs.declared.Channel.{Channel}
use Rattle.tunnelling.proofs.Answers.{request-tells, acknowledgement-tells}
use Rattle.tunnelling.proofs.Refusals.{request-accepted-iff, acknowledgement-accepted-iff}
use Rattle.tunnelling.proofs.RoundTrip.{request-read}
use Rattle.tunnelling.specs.Answers.{request_values, request_numbered, acknowledgement_values, acknowledgement_numbered}
use Rattle.tunnelling.specs.Layout.{connected, request_octets, acknowledgement_octets}
use Rattle.tunnelling.specs.Reading.{channel_in, status_in, request_in, read_request, read_acknowledgement}
use Rattle.tunnelling.specs.declared.Acknowledgement.{Acknowledgement}
use Rattle.tunnelling.specs.declared.Request.{Request}
use Rattle.exchange.proofs.Apart.{delivered-again, raised-kept}
use Rattle.exchange.proofs.Answers.{received-tells, confirmed-tells}
use Rattle.exchange.proofs.Exactly.{raised-other, Arrives, delivered-iff, again-iff, refused-20, refused-21, expected-iff, behind-iff, Answers, raised-iff, kept-iff}
use Rattle.exchange.proofs.SeriesLaws.{unmoved}
use Rattle.exchange.specs.Answers.{received_numbered, confirmed_numbered}
use Rattle.exchange.specs.Confirming.{confirm_tests, confirmed_by, confirmed, channel_confirmed, confirming}
use Rattle.exchange.specs.Receiving.{is_expected, is_behind, receive_tests, taken_as, received, channel_after, sent_back, Took}
use Rattle.exchange.specs.Sending.{send_tests, sent_by, Sent}
use Rattle.exchange.specs.declared.Confirmed.TheVariants.{Raised, Kept}
use Rattle.exchange.specs.declared.Confirmed.{Confirmed}
use Rattle.exchange.specs.declared.Received.TheVariants.{Delivered, Again}
use Rattle.exchange.specs.declared.Received.{Received}
use Rattle.promises.proofs.Ends.{EndsNumbered, answers, refuses, ends_by}

-- a counter "raised by one, 255 going to 0", and no other going there
pub raised-to-zero : (n : ℕ) → n < 256 → raised n ≡ 0 ↔ (n ≡ 255)
unfolding raised
raised-to-zero n h = ((λ e. omega arith), λ e. omega arith)

pub raised-by-one : (n : ℕ) → n < 255 → raised n ≡ n + 1
unfolding raised
raised-by-one n h = omega arith

-- a refusal's number is no other answer's
received_as : (a : Result Received Refusal) (r : Refusal) → (received_numbered a).number ≡ number r → a ≡ Err r
received_as (Ok (Delivered x)) r e = absurd (number-some r (sym e))
received_as (Ok Again) r e = absurd (number-some r (sym e))
received_as (Err q) r e = ap Err (number-apart q r e)

-- Receiving a request

-- a request comes on the channel that it names: there is room for its acknowledgement, the reader accepts it, and the channel is open
pub record Comes (cs : List Channel) (s room : List ℕ) (x : Request) : Type 0 where
  pub fits : 10 ≤ length room
  pub read : request_numbered (read_request s) ≡ accepted (request_values x)
  pub opened : (channel_at cs x.channel).opened ≡ true

module _ (cs : List Channel) (s room : List ℕ) (a : Result Received Refusal) (cs' : List Channel) (room' : List ℕ) (w : Took cs s room a cs' room') where
  abbrev named : Channel
  named = channel_at cs (channel_in s)

  answer-is : a ≡ received named s (length room)
  answer-is = w.called.answers

  -- 0 and the request where it is delivered, 0 and nothing where it is acknowledged again, or the number of the first refusal in R-1's order
  pub receive-ends : EndsNumbered (received_numbered (taken_as (is_expected named s) s)).values (receive_tests named s (length room)) (received_numbered a)
  unfolding received
  receive-ends = rw answer-is (go (is_expected named s))
    where
      go : (e : Bool) → EndsNumbered (received_numbered (taken_as e s)).values (receive_tests named s (length room)) (received_numbered (answer_by Err (taken_as e s) (first_of (receive_tests named s (length room)))))
      go true = ends_by refused (accepted (request_values (request_in s))) (λ v. received_numbered (answer_by Err (taken_as true s) v)) refl (λ r. refl) (receive_tests named s (length room))
      go false = ends_by refused (accepted []) (λ v. received_numbered (answer_by Err (taken_as false s) v)) refl (λ r. refl) (receive_tests named s (length room))

  -- "A refused call writes to no buffer and changes no memory": "without acknowledgement"
  pub receive-refused : ((received_numbered a).number ≡ 0 → ⊥) → (cs' ≡ cs) × (room' ≡ room)
  receive-refused n = ((unmoved w (λ x e. n (ap (λ (y : Result Received Refusal). (received_numbered y).number) e))).1, w.left ∙ silent a n)
    where
      silent : (b : Result Received Refusal) → ((received_numbered b).number ≡ 0 → ⊥) → sent_back b s ++ drop (length (sent_back b s)) room ≡ room
      silent (Ok (Delivered x)) m = absurd (m refl)
      silent (Ok Again) m = absurd (m refl)
      silent (Err r) m = refl

  -- the channel that the request names, as the reader has it
  place : (x : Request) → read_request s ≡ Ok x → channel_in s ≡ x.channel
  place x e = ap (λ (y : Request). y.channel) ((request-accepted-iff s x).0 e).1

  comes : (x : Request) → Arrives named s (length room) x → Comes cs s room x
  comes x g = record { fits = g.fits; read = ap request_numbered g.read; opened = ap (λ (k : ℕ). (channel_at cs k).opened) (sym (place x g.read)) ∙ g.opened }

  arrives : (x : Request) → Comes cs s room x → Arrives named s (length room) x
  arrives x g =
      let e : read_request s ≡ Ok x = request-tells.apart (read_request s) (Ok x) g.read in
      record { fits = g.fits; read = e; opened = ap (λ (k : ℕ). (channel_at cs k).opened) (place x e) ∙ g.opened }

  at_named : (x : Request) → Comes cs s room x → named ≡ channel_at cs x.channel
  at_named x g = ap (channel_at cs) (place x (arrives x g).read)

  -- "The expected counter is .. delivered": exactly a request that comes with that counter
  pub delivered-exactly : (x : Request) → received_numbered a ≡ accepted (request_values x) ↔ (Comes cs s room x × (x.counter ≡ (channel_at cs x.channel).receive))
  delivered-exactly x =
      let i = delivered-iff named s (length room) x in (
        (λ e.
            let d = i.0 (sym answer-is ∙ received-tells.apart a (Ok (Delivered x)) e) in
            (comes x d.0, d.1 ∙ ap (λ (k : ℕ). (channel_at cs k).receive) (place x d.0.read))),
        λ g. ap received_numbered (answer-is ∙ i.1 (arrives x g.0, g.1 ∙ ap (λ (c : Channel). c.receive) (sym (at_named x g.0)))),
      )

  -- "A request one behind the expected counter is acknowledged again and not delivered"
  pub again-exactly : received_numbered a ≡ accepted [] ↔ ((x : Request) × (Comes cs s room x × (raised x.counter ≡ (channel_at cs x.channel).receive)))
  again-exactly =
      let i = again-iff named s (length room) in (
        (λ e.
            let d = i.0 (sym answer-is ∙ received-tells.apart a (Ok Again) e) in
            let x : Request = d.0 in
            (x, (comes x d.1.0, d.1.1 ∙ ap (λ (k : ℕ). (channel_at cs k).receive) (place x d.1.0.read)))),
        λ g. ap received_numbered (answer-is ∙ i.1 (g.0, (arrives g.0 g.1.0, g.1.1 ∙ ap (λ (c : Channel). c.receive) (sym (at_named g.0 g.1.0))))),
      )

  -- also 255 on a fresh channel (counters 0)
  pub again-on-a-fresh-channel : (x : Request) → Comes cs s room x → (channel_at cs x.channel).receive ≡ 0 → x.counter ≡ 255 → received_numbered a ≡ accepted []
  again-on-a-fresh-channel x g e f = again-exactly.1 (x, (g, ap raised f ∙ (raised-to-zero 255 (omega arith)).1 refl ∙ sym e))

  -- acknowledged exactly if it comes with the expected counter or one behind it ..
  pub acknowledged-exactly : (received_numbered a).number ≡ 0
      ↔ ((x : Request) × (Comes cs s room x × (eqb x.counter (channel_at cs x.channel).receive || eqb (raised x.counter) (channel_at cs x.channel).receive ≡ true)))
  acknowledged-exactly = (
    (λ z. go a refl z),
    λ g.
        let r : ℕ = (channel_at cs g.0.channel).receive in
        or_cases (eqb g.0.counter r) (eqb (raised g.0.counter) r) g.1.1
        (λ e. ap (λ (n : Numbered). n.number) ((delivered-exactly g.0).1 (g.1.0, eqb-true _ _ e)))
        (λ e. ap (λ (n : Numbered). n.number) (again-exactly.1 (g.0, (g.1.0, eqb-true _ _ e)))),
  )
    where
      go : (b : Result Received Refusal) → a ≡ b → (received_numbered a).number ≡ 0
          → (x : Request) × (Comes cs s room x × (eqb x.counter (channel_at cs x.channel).receive || eqb (raised x.counter) (channel_at cs x.channel).receive ≡ true))
      go (Ok (Delivered x)) e z =
          let d = (delivered-exactly x).0 (ap received_numbered e) in
          (x, (d.0, ap (λ (b : Bool). b || eqb (raised x.counter) (channel_at cs x.channel).receive) (eq-eqb _ _ d.1)))
      go (Ok Again) e z =
          let d = again-exactly.0 (ap received_numbered e) in
          (d.0, (d.1.0, or_right (eqb d.0.counter (channel_at cs d.0.channel).receive) _ (eq-eqb _ _ d.1.1)))
      go (Err r) e z = absurd (number-some r (sym (ap (λ (b : Result Received Refusal). (received_numbered b).number) e) ∙ z))

  -- .. by the request's own channel and counter, with status 00h, at the front of the room
  pub acknowledges : (received_numbered a).number ≡ 0
      → room' ≡ (0x06 ∷ 0x10 ∷ 0x04 ∷ 0x21 ∷ 0x00 ∷ 0x0A ∷ 0x04 ∷ octet_at s 7 ∷ octet_at s 8 ∷ 0x00 ∷ []) ++ drop 10 room
  unfolding acknowledgement_octets connected
  acknowledges z = w.left ∙ go a z
    where
      go : (b : Result Received Refusal) → (received_numbered b).number ≡ 0
          → sent_back b s ++ drop (length (sent_back b s)) room ≡ (0x06 ∷ 0x10 ∷ 0x04 ∷ 0x21 ∷ 0x00 ∷ 0x0A ∷ 0x04 ∷ octet_at s 7 ∷ octet_at s 8 ∷ 0x00 ∷ []) ++ drop 10 room
      go (Ok (Delivered x)) z = refl
      go (Ok Again) z = refl
      go (Err r) z = absurd (number-some r z)

  -- "delivered and raised by one": the receive counter of its channel, and nothing else of the table
  pub raises : (x : Request) → received_numbered a ≡ accepted (request_values x)
      → cs' ≡ put cs x.channel (counted (channel_at cs x.channel) (raised (channel_at cs x.channel).receive) (channel_at cs x.channel).send)
  raises x e =
      let d : a ≡ Ok (Delivered x) = received-tells.apart a (Ok (Delivered x)) e in
      let at : channel_in s ≡ x.channel = place x (arrives x ((delivered-exactly x).0 e).0).read in
      w.called.table ∙ (λ i. put cs (at i) (channel_after ((sym answer-is ∙ d) i) (channel_at cs (at i))))

  pub stays : ((x : Request) → received_numbered a ≡ accepted (request_values x) → ⊥) → cs' ≡ cs
  stays n = (unmoved w (λ x e. n x (ap received_numbered e))).1

  -- so that a receive counter is another afterwards exactly if a request was delivered on that channel
  pub receive-raised-exactly : (j : ℕ) → ((channel_at cs' j).receive ≡ (channel_at cs j).receive → ⊥) ↔ ((x : Request) × ((received_numbered a ≡ accepted (request_values x)) × (x.channel ≡ j)))
  receive-raised-exactly j = ((λ n. go a refl n), back)
    where
      back : (x : Request) × ((received_numbered a ≡ accepted (request_values x)) × (x.channel ≡ j)) → (channel_at cs' j).receive ≡ (channel_at cs j).receive → ⊥
      back g e =
          let x = g.0 in
          let c : Channel = channel_at cs x.channel in
          let there = ap (λ (l : List Channel). channel_at l x.channel) (raises x g.1.0) ∙ at-put cs x.channel (counted c (raised c.receive) c.send) ((delivered-exactly x).0 g.1.0).0.opened in
          raised-other c.receive (sym (ap (λ (y : Channel). y.receive) there) ∙ rw g.1.1 e)

      go : (b : Result Received Refusal) → a ≡ b → ((channel_at cs' j).receive ≡ (channel_at cs j).receive → ⊥) → (x : Request) × ((received_numbered a ≡ accepted (request_values x)) × (x.channel ≡ j))
      go (Ok (Delivered x)) e n =
          let d = ap received_numbered e in
          let c : Channel = channel_at cs x.channel in (
            x,
            (
              d,
              by_cases (eqb x.channel j) (eqb-true x.channel j)
                  (λ f. absurd (n (ap (λ (l : List Channel). (channel_at l j).receive) (raises x d) ∙ ap (λ (y : Channel). y.receive) (at_other cs x.channel j (counted c (raised c.receive) c.send) (eqb-false x.channel j f))))),
            ),
          )
      go (Ok Again) e n = absurd (n (ap (λ (l : List Channel). (channel_at l j).receive) (stays (λ x f. delivered-again (sym (sym e ∙ received-tells.apart a (Ok (Delivered x)) f))))))
      go (Err r) e n = absurd (n (ap (λ (l : List Channel). (channel_at l j).receive) (stays (λ x f. err-ok (sym e ∙ received-tells.apart a (Ok (Delivered x)) f)))))

  -- "20 channel not open, whatever its number, then 21"; "Any other is refused (21), without acknowledgement": each exactly where none of the
  -- order's tests before it is true
  pub not-open-exactly : (received_numbered a).number ≡ 20 ↔ (NoneOf (take 7 (receive_tests named s (length room))) × (named.opened ≡ false))
  not-open-exactly =
      let i = refused-20 named s (length room) in (
        (λ e. let n = i.0 (sym answer-is ∙ received_as a NotOpen e) in (n.0, not-true named.opened n.1)),
        λ n. ap (λ (b : Result Received Refusal). (received_numbered b).number) (answer-is ∙ i.1 (n.0, ap not n.1)),
      )

  pub other-counter-exactly : (received_numbered a).number ≡ 21
      ↔ (NoneOf (take 8 (receive_tests named s (length room))) × ((octet_at s 8 ≡ named.receive → ⊥) × (raised (octet_at s 8) ≡ named.receive → ⊥)))
  other-counter-exactly =
      let i = refused-21 named s (length room) in (
        (λ e.
            let n = i.0 (sym answer-is ∙ received_as a OtherCounter e) in
            let k = or-false (is_expected named s) (is_behind named s) (not-true _ n.1) in
            (n.0, ((λ f. never (sym ((expected-iff named s).1 f) ∙ k.0)), λ f. never (sym ((behind-iff named s).1 f) ∙ k.1)))),
        λ n.
            let e : is_expected named s ≡ false = by_cases (is_expected named s) (λ f. absurd (n.1.0 ((expected-iff named s).0 f))) (λ f. f) in
            let b : is_behind named s ≡ false = by_cases (is_behind named s) (λ f. absurd (n.1.1 ((behind-iff named s).0 f))) (λ f. f) in
            ap (λ (b : Result Received Refusal). (received_numbered b).number) (answer-is ∙ i.1 (n.0, (λ j. not (e j || b j)))),
      )

-- Sending a request

module _ (cs : List Channel) (k : ℕ) (x : Message) (p room : List ℕ) (a : Result ℕ Refusal) (room' : List ℕ) (w : Sent cs k x p room a room') where
  -- the request that goes out, "with the send counter" of its channel
  abbrev outgoing : List ℕ
  outgoing = request_octets k (channel_at cs k).send x p

  -- "Sending checks 14, 20, 13"; otherwise 0 and the written size. There is no table that it could leave: the counter is not raised.
  pub send-ends : EndsNumbered (length outgoing ∷ []) (send_tests (message_in_range All x (length p)) (channel_at cs k) outgoing (length room)) (written_numbered a)
  unfolding sent_by
  send-ends =
      rw w.answers
      (ends_by refused (accepted (length outgoing ∷ [])) (λ v. written_numbered (answer_by Err (Ok (length outgoing)) v)) refl (λ r. refl) (send_tests (message_in_range All x (length p)) (channel_at cs k) outgoing (length room)))

  pub send-refused : ((written_numbered a).number ≡ 0 → ⊥) → room' ≡ room
  send-refused n = w.left ∙ go a n
    where
      go : (b : Result ℕ Refusal) → ((written_numbered b).number ≡ 0 → ⊥) → room_after b outgoing room ≡ room
      go (Ok m) n = absurd (n refl)
      go (Err r) n = refl

  -- it goes out exactly if its numbers are in range, its channel is open and the room has its size
  pub sent-exactly : (written_numbered a).number ≡ 0 ↔ ((message_in_range All x (length p) ≡ true) × (((channel_at cs k).opened ≡ true) × (length outgoing ≤ length room)))
  sent-exactly = (
    (λ z. go send-ends z),
    λ g. go-back send-ends (ap not g.0, (ap not g.1.0, (le-ltb (length room) (length outgoing) g.1.1, tt))),
  )
    where
      ts : List Test
      ts = send_tests (message_in_range All x (length p)) (channel_at cs k) outgoing (length room)

      go : EndsNumbered (length outgoing ∷ []) ts (written_numbered a) → (written_numbered a).number ≡ 0 → (message_in_range All x (length p) ≡ true) × (((channel_at cs k).opened ≡ true) × (length outgoing ≤ length room))
      go (answers n e) z = (not-false _ n.0, (not-false _ n.1.0, ltb-false _ _ n.1.1.0))
      go (refuses r f e) z = absurd (number-some r (sym (ap (λ (m : Numbered). m.number) e) ∙ z))

      go-back : EndsNumbered (length outgoing ∷ []) ts (written_numbered a) → NoneOf ts → (written_numbered a).number ≡ 0
      go-back (answers n e) m = ap (λ (m : Numbered). m.number) e
      go-back (refuses r f e) m = ok-err (sym ((passed-iff ts).1 m) ∙ (refused-iff ts r).1 f)

  -- and then stands at the front of the room
  pub sends : (written_numbered a).number ≡ 0 → (written_numbered a ≡ accepted (length outgoing ∷ [])) × (room' ≡ outgoing ++ drop (length outgoing) room)
  sends z = (size send-ends, w.left ∙ go a z)
    where
      size : EndsNumbered (length outgoing ∷ []) (send_tests (message_in_range All x (length p)) (channel_at cs k) outgoing (length room)) (written_numbered a) → written_numbered a ≡ accepted (length outgoing ∷ [])
      size (answers n e) = e
      size (refuses r f e) = absurd (number-some r (sym (ap (λ (m : Numbered). m.number) e) ∙ z))

      go : (b : Result ℕ Refusal) → (written_numbered b).number ≡ 0 → room_after b outgoing room ≡ outgoing ++ drop (length outgoing) room
      go (Ok m) z = refl
      go (Err r) z = absurd (number-some r z)

  -- what is sent is delivered on the other side, message and all, where that channel is open and expects this side's send counter
  pub sent-is-delivered : ValidMessage All x p → (ds : List Channel) (lent : List ℕ) (b : Result Received Refusal) (ds' : List Channel) (lent' : List ℕ) → Took ds outgoing lent b ds' lent'
      → 10 ≤ length lent → (channel_at ds k).opened ≡ true → (channel_at ds k).receive ≡ (channel_at cs k).send
      → received_numbered b ≡ accepted (request_values (record { channel = k; counter = (channel_at cs k).send; message = x }))
  sent-is-delivered v ds lent b ds' lent' g h o e =
      let r : Request = record { channel = k; counter = (channel_at cs k).send; message = x } in
      (delivered-exactly ds outgoing lent b ds' lent' g r).1 (record { fits = h; read = ap request_numbered (request-read r p v); opened = o }, sym e)

-- Receiving an acknowledgement

-- an acknowledgement of a channel's request: the reader accepts it, the channel is open, and its counter is the one that the request went
-- out with
pub record Confirms (cs : List Channel) (s : List ℕ) (k : Acknowledgement) : Type 0 where
  pub read : acknowledgement_numbered (read_acknowledgement s) ≡ accepted (acknowledgement_values k)
  pub opened : (channel_at cs k.channel).opened ≡ true
  pub counter : k.counter ≡ (channel_at cs k.channel).send

module _ (cs : List Channel) (s : List ℕ) (a : Result Confirmed Refusal) (cs' : List Channel) (w : Called (confirming s) cs a cs') where
  abbrev owner : Channel
  owner = channel_at cs (channel_in s)

  -- 0 and whether the counter is raised, or the number of the first refusal in R-1's order
  pub confirm-ends : EndsNumbered (confirmed_numbered (confirmed_by s)).values (confirm_tests owner s) (confirmed_numbered a)
  unfolding confirmed
  confirm-ends = rw w.answers (go (eqb (status_in s) 0))
    where
      go : (e : Bool) → EndsNumbered (confirmed_numbered (cond e (Ok Raised) (Ok Kept))).values (confirm_tests owner s) (confirmed_numbered (answer_by Err (cond e (Ok Raised) (Ok Kept)) (first_of (confirm_tests owner s))))
      go true = ends_by refused (accepted (1 ∷ [])) (λ v. confirmed_numbered (answer_by Err (Ok Raised) v)) refl (λ r. refl) (confirm_tests owner s)
      go false = ends_by refused (accepted (0 ∷ [])) (λ v. confirmed_numbered (answer_by Err (Ok Kept) v)) refl (λ r. refl) (confirm_tests owner s)

  where-it-lies : (k : Acknowledgement) → read_acknowledgement s ≡ Ok k → channel_in s ≡ k.channel
  where-it-lies k e = ap (λ (y : Acknowledgement). y.channel) ((acknowledgement-accepted-iff s k).0 e).1

  confirms : (k : Acknowledgement) → Answers owner s k → Confirms cs s k
  confirms k g =
      let e = where-it-lies k g.read in
      record { read = ap acknowledgement_numbered g.read; opened = ap (λ (n : ℕ). (channel_at cs n).opened) (sym e) ∙ g.opened; counter = g.counter ∙ ap (λ (n : ℕ). (channel_at cs n).send) e }

  answering : (k : Acknowledgement) → Confirms cs s k → Answers owner s k
  answering k g =
      let r : read_acknowledgement s ≡ Ok k = acknowledgement-tells.apart (read_acknowledgement s) (Ok k) g.read in
      let e = where-it-lies k r in
      record { read = r; opened = ap (λ (n : ℕ). (channel_at cs n).opened) e ∙ g.opened; counter = g.counter ∙ ap (λ (n : ℕ). (channel_at cs n).send) (sym e) }

  -- "an acknowledgement of that counter with status 00h raises it"
  pub raised-exactly : confirmed_numbered a ≡ accepted (1 ∷ []) ↔ ((k : Acknowledgement) × (Confirms cs s k × (k.status ≡ 0)))
  raised-exactly = (
    (λ e. let d = (raised-iff owner s).0 (sym w.answers ∙ confirmed-tells.apart a (Ok Raised) e) in (d.0, (confirms d.0 d.1.0, d.1.1))),
    λ g. ap confirmed_numbered (w.answers ∙ (raised-iff owner s).1 (g.0, (answering g.0 g.1.0, g.1.1))),
  )

  -- "with another status changes nothing"
  pub kept-exactly : confirmed_numbered a ≡ accepted (0 ∷ []) ↔ ((k : Acknowledgement) × (Confirms cs s k × (k.status ≡ 0 → ⊥)))
  kept-exactly = (
    (λ e. let d = (kept-iff owner s).0 (sym w.answers ∙ confirmed-tells.apart a (Ok Kept) e) in (d.0, (confirms d.0 d.1.0, d.1.1))),
    λ g. ap confirmed_numbered (w.answers ∙ (kept-iff owner s).1 (g.0, (answering g.0 g.1.0, g.1.1))),
  )

  -- raised is the send counter of its channel, and nothing else of the table
  pub confirm-raises : (k : Acknowledgement) → Confirms cs s k → k.status ≡ 0
      → cs' ≡ put cs k.channel (counted (channel_at cs k.channel) (channel_at cs k.channel).receive (raised (channel_at cs k.channel).send))
  confirm-raises k g z =
      let e = where-it-lies k (answering k g).read in
      let f : confirmed owner s ≡ (Ok Raised) = (raised-iff owner s).1 (k, (answering k g, z)) in
      w.table ∙ (λ i. put cs (e i) (channel_confirmed (f i) (channel_at cs (e i))))

  -- every other answer, a refusal among them, leaves the table
  pub confirm-stays : (confirmed_numbered a ≡ accepted (1 ∷ []) → ⊥) → cs' ≡ cs
  confirm-stays n = w.table ∙ ap (λ (y : Result Confirmed Refusal). put cs (channel_in s) (channel_confirmed y owner)) (sym w.answers) ∙ ap (put cs (channel_in s)) (go a n) ∙ put_back cs (channel_in s)
    where
      go : (b : Result Confirmed Refusal) → (confirmed_numbered b ≡ accepted (1 ∷ []) → ⊥) → channel_confirmed b owner ≡ owner
      go (Ok Raised) n = absurd (n refl)
      go (Ok Kept) n = refl
      go (Err r) n = refl

  -- so that a send counter is another afterwards exactly if an acknowledgement of it came with status 00h
  pub send-raised-exactly : (j : ℕ) → ((channel_at cs' j).send ≡ (channel_at cs j).send → ⊥) ↔ ((k : Acknowledgement) × ((Confirms cs s k × (k.status ≡ 0)) × (k.channel ≡ j)))
  send-raised-exactly j = ((λ n. go a refl n), back)
    where
      back : (k : Acknowledgement) × ((Confirms cs s k × (k.status ≡ 0)) × (k.channel ≡ j)) → (channel_at cs' j).send ≡ (channel_at cs j).send → ⊥
      back g e =
          let k = g.0 in
          let c : Channel = channel_at cs k.channel in
          let there = ap (λ (l : List Channel). channel_at l k.channel) (confirm-raises k g.1.0.0 g.1.0.1) ∙ at-put cs k.channel (counted c c.receive (raised c.send)) g.1.0.0.opened in
          raised-other c.send (sym (ap (λ (y : Channel). y.send) there) ∙ rw g.1.1 e)

      go : (b : Result Confirmed Refusal) → a ≡ b → ((channel_at cs' j).send ≡ (channel_at cs j).send → ⊥) → (k : Acknowledgement) × ((Confirms cs s k × (k.status ≡ 0)) × (k.channel ≡ j))
      go (Ok Raised) e n =
          let d = raised-exactly.0 (ap confirmed_numbered e) in
          let k = d.0 in
          let c : Channel = channel_at cs k.channel in (
            k,
            (
              d.1,
              by_cases (eqb k.channel j) (eqb-true k.channel j)
                  (λ f. absurd (n (ap (λ (l : List Channel). (channel_at l j).send) (confirm-raises k d.1.0 d.1.1) ∙ ap (λ (y : Channel). y.send) (at_other cs k.channel j (counted c c.receive (raised c.send)) (eqb-false k.channel j f))))),
            ),
          )
      go (Ok Kept) e n = absurd (n (ap (λ (l : List Channel). (channel_at l j).send) (confirm-stays (λ f. raised-kept (sym (sym e ∙ confirmed-tells.apart a (Ok Raised) f))))))
      go (Err r) e n = absurd (n (ap (λ (l : List Channel). (channel_at l j).send) (confirm-stays (λ f. err-ok (sym e ∙ confirmed-tells.apart a (Ok Raised) f)))))
