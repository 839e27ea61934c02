-- A series received over one channel. While the table awaits request t, a copy of it is delivered and the table awaits t + 1; a copy of one
-- of the 255 before it has another counter, so that it is not delivered and leaves the table; what is no request likewise.
use Rattle.std.specs.Prelude.{Result, Ok, Err}
use Prim.Native.Nat.{ℕ, suc, ◌+◌, ◌≤◌, ◌<◌}
use mathlib.Core.Bool.{Bool, true, false, cond, ◌||◌}
use mathlib.Core.List.{List, [], ◌∷◌, ◌++◌}
use mathlib.Core.Logic.{◌↔◌}
use mathlib.Core.Path.{◌≡◌, refl, sym, ap, ◌∙◌}
use native.Mathlib.Omega.{arith}
use lib.Dec.{eqb}
use lib.ListN.{length}
use borrow.Author.Tests.{eqb-true, eqb-false, eq-eqb}
use Rattle.octets.proofs.Truth.{by_cases, never, or_right, or_cases}
use Rattle.channels.proofs.CallLaws.{put_back}
use Rattle.channels.proofs.TableLaws.{at-put}
use Rattle.channels.specs.Table.{channel_at, put, counted, raised}
use Rattle.channels.specs.declared.Channel.{Channel}
use Rattle.tunnelling.specs.Answers.{request_numbered}
use Rattle.tunnelling.specs.Layout.{connected}
use Rattle.tunnelling.specs.Reading.{channel_in, read_request}
use Rattle.tunnelling.specs.declared.Request.{Request}
use Rattle.exchange.proofs.Exactly.{delivered-iff}
use Rattle.exchange.specs.Receiving.{received, channel_after, Took}
use Rattle.exchange.specs.Series.{Client, counter_of, request_of, meant, from_on, Arrival, copy, damaged, Keeps, news, comes, Done, Receives, delivered_of, delivered_by}
use Rattle.exchange.specs.declared.Received.TheVariants.{Delivered, Again}
use Rattle.exchange.specs.declared.Received.{Received}
use Rattle.frame.specs.declared.Refusal.{Refusal}

-- a call that delivers nothing leaves the channel, and so the table

quiet : (a : Result Received Refusal) (c : Channel) → ((x : Request) → a ≡ Ok (Delivered x) → ⊥) → (delivered_of a ≡ []) × (channel_after a c ≡ c)
quiet (Ok (Delivered x)) c n = absurd (n x refl)
quiet (Ok Again) c n = (refl, refl)
quiet (Err r) c n = (refl, refl)

pub unmoved : {cs : List Channel} {s room : List ℕ} {a : Result Received Refusal} {cs' : List Channel} {room' : List ℕ}
    → Took cs s room a cs' room' → ((x : Request) → a ≡ Ok (Delivered x) → ⊥) → (delivered_of a ≡ []) × (cs' ≡ cs)
unmoved {cs} {s} {room} {a} w n =
    let c : Channel = channel_at cs (channel_in s) in
    let q = quiet a c n in
    (q.0, w.called.table ∙ ap (λ (y : Result Received Refusal). put cs (channel_in s) (channel_after y c)) (sym w.called.answers) ∙ ap (put cs (channel_in s)) q.1 ∙ put_back cs (channel_in s))

frame_is : {x y : Request} → ◌≡◌ {A = Result Request Refusal} (Ok x) (Ok y) → x ≡ y
frame_is e = cc

module _ (k : Client) (reads : (j : ℕ) → read_request (request_of k j) ≡ Ok (meant k j)) where
  next-counter : (t : ℕ) → raised (counter_of k t) ≡ counter_of k (suc t)
  unfolding raised
  next-counter t = omega arith

  same-counter : (j t : ℕ) → j ≤ t → t < j + 256 → counter_of k j ≡ counter_of k t → j ≡ t
  same-counter j t h l e = omega arith

  names : (j : ℕ) → channel_in (request_of k j) ≡ k.channel
  unfolding connected
  names j = refl

  -- the channel is open and expects the counter of request t
  pub record Awaits (cs : List Channel) (t : ℕ) : Type 0 where
    pub opened : (channel_at cs k.channel).opened ≡ true
    pub counter : (channel_at cs k.channel).receive ≡ counter_of k t

  pub next : {cs : List Channel} {room : List ℕ} {a : Result Received Refusal} {cs' : List Channel} {room' : List ℕ} (t : ℕ)
      → Awaits cs t → 10 ≤ length room → Took cs (request_of k t) room a cs' room' → (a ≡ Ok (Delivered (meant k t))) × Awaits cs' (suc t)
  next {cs} {room} {a} {cs'} t w fits g =
      let c : Channel = channel_at cs k.channel in
      let s : List ℕ = request_of k t in
      let here : channel_at cs (channel_in s) ≡ c = ap (channel_at cs) (names t) in
      let e : received c s (length room) ≡ Ok (Delivered (meant k t)) = (delivered-iff c s (length room) (meant k t)).1 (record { fits = fits; read = reads t; opened = w.opened }, sym w.counter) in
      let f : received (channel_at cs (channel_in s)) s (length room) ≡ Ok (Delivered (meant k t)) = ap (λ (y : Channel). received y s (length room)) here ∙ e in
      let after : Channel = counted c (raised c.receive) c.send in
      let left : cs' ≡ put cs k.channel after = g.called.table ∙ (λ i. put cs (names t i) (channel_after (f i) (here i))) in
      let there : channel_at cs' k.channel ≡ after = ap (λ (l : List Channel). channel_at l k.channel) left ∙ at-put cs k.channel after w.opened in (
        g.called.answers ∙ f,
        record { opened = ap (λ (y : Channel). y.opened) there ∙ w.opened; counter = ap (λ (y : Channel). y.receive) there ∙ ap raised w.counter ∙ next-counter t },
      )

  -- a call delivers what the reader accepts with the expected counter, and nothing else
  delivers : {cs : List Channel} {s room : List ℕ} {a : Result Received Refusal} {cs' : List Channel} {room' : List ℕ} (x : Request) → Took cs s room a cs' room' → a ≡ Ok (Delivered x)
      → (read_request s ≡ Ok x) × (x.counter ≡ (channel_at cs (channel_in s)).receive)
  delivers {cs} {s} {room} x g e =
      let d = (delivered-iff (channel_at cs (channel_in s)) s (length room) x).0 (sym g.called.answers ∙ e) in
      (d.0.read, d.1)

  pub late : {cs : List Channel} {room : List ℕ} {a : Result Received Refusal} {cs' : List Channel} {room' : List ℕ} (j t : ℕ)
      → Awaits cs t → j ≤ t → t < j + 256 → (j ≡ t → ⊥) → Took cs (request_of k j) room a cs' room' → (x : Request) → a ≡ Ok (Delivered x) → ⊥
  late {cs} j t w h l n g x e =
      let d = delivers x g e in
      let same : meant k j ≡ x = frame_is (sym (reads j) ∙ d.0) in
      n (same-counter j t h l (ap (λ (y : Request). y.counter) same ∙ d.1 ∙ ap (λ (i : ℕ). (channel_at cs i).receive) (names j) ∙ w.counter))

  pub once-from : (rest : List Arrival) (t : ℕ) (cs : List Channel) (ds : List Done) → Awaits cs t → Keeps k t rest → Receives k cs rest ds → delivered_by ds ≡ from_on k t (news t rest)
  once-from [] t cs [] w p r = refl
  once-from [] t cs (d ∷ ds) w p r = absurd r
  once-from (a ∷ rest) t cs [] w p r = absurd r
  once-from (damaged s ∷ rest) t cs (d ∷ ds) w p r =
      let u = unmoved r.0.1.1 (λ x e. p.0 (ap (λ (y : Result Request Refusal). (request_numbered y).number) (delivers x r.0.1.1 e).0)) in
      rw u.0 (once-from rest t cs ds w p.1 (rw u.1 at r.1))
  once-from (copy j ∷ rest) t cs (d ∷ ds) w p r =
      go (λ w' q. once-from rest (suc t) d.table ds w' q r.1) (λ q r'. once-from rest t cs ds w q r') (eqb j t) refl p.1
    where
      go : (Awaits d.table (suc t) → Keeps k (suc t) rest → delivered_by ds ≡ from_on k (suc t) (news (suc t) rest))
          → (Keeps k t rest → Receives k cs rest ds → delivered_by ds ≡ from_on k t (news t rest))
          → (b : Bool) → eqb j t ≡ b → Keeps k (cond b (suc t) t) rest → delivered_of d.answer ++ delivered_by ds ≡ from_on k t (cond b (suc (news (suc t) rest)) (news t rest))
      go on still true e q =
          let g : Took cs (request_of k t) r.0.0 d.answer d.table d.room = rw (eqb-true j t e) at r.0.1.1 in
          let n = next t w r.0.1.0 g in
          rw n.0 (ap (λ (l : List Request). meant k t ∷ l) (on n.1 q))
      go on still false e q =
          let u = unmoved r.0.1.1 (late j t w p.0.0 p.0.1 (eqb-false j t e) r.0.1.1) in
          rw u.0 (still q (rw u.1 at r.1))

-- a request is among those that come exactly if a copy of it comes: the first copy of request t moves the count on to t + 1
module _ (i j t : ℕ) (rest : List Arrival) (h : t ≤ j) where
  on-comes : i ≡ t → (suc t ≤ j → comes j rest ≡ true ↔ (j < suc t + news (suc t) rest)) → eqb i j || comes j rest ≡ true ↔ (j < t + suc (news (suc t) rest))
  on-comes e ih = (
    (λ f. or_cases (eqb i j) (comes j rest) f (λ z. omega (arith, eqb-true i j z)) (λ z. by_cases (eqb j t) (λ y. omega (arith, eqb-true j t y)) (λ y. omega (arith, (ih (further y)).0 z)))),
    (λ l. by_cases (eqb j t) (λ y. rw (eq-eqb i j (e ∙ sym (eqb-true j t y)))) (λ y. or_right (eqb i j) (comes j rest) ((ih (further y)).1 (omega arith)))),
  )
    where
      further : eqb j t ≡ false → suc t ≤ j
      further y = let n = eqb-false j t y in omega arith

  still-comes : i ≤ t → (i ≡ t → ⊥) → comes j rest ≡ true ↔ (j < t + news t rest) → eqb i j || comes j rest ≡ true ↔ (j < t + news t rest)
  still-comes l n ih = (
    (λ f. or_cases (eqb i j) (comes j rest) f (λ z. absurd (n (omega (arith, eqb-true i j z)))) ih.0),
    (λ f. or_right (eqb i j) (comes j rest) (ih.1 f)),
  )

pub comes-iff : (k : Client) (j t : ℕ) (rest : List Arrival) → t ≤ j → Keeps k t rest → comes j rest ≡ true ↔ (j < t + news t rest)
comes-iff k j t [] h p = ((λ e. never (sym e)), λ l. absurd (omega arith))
comes-iff k j t (damaged s ∷ rest) h p = comes-iff k j t rest h p.1
comes-iff k j t (copy i ∷ rest) h p = go (λ m q. comes-iff k j (suc t) rest m q) (λ q. comes-iff k j t rest h q) (eqb i t) refl p.1
  where
    go : (suc t ≤ j → Keeps k (suc t) rest → comes j rest ≡ true ↔ (j < suc t + news (suc t) rest))
        → (Keeps k t rest → comes j rest ≡ true ↔ (j < t + news t rest))
        → (b : Bool) → eqb i t ≡ b → Keeps k (cond b (suc t) t) rest → eqb i j || comes j rest ≡ true ↔ (j < t + cond b (suc (news (suc t) rest)) (news t rest))
    go on still true e q = on-comes i j t rest h (eqb-true i t e) (λ m. on m q)
    go on still false e q = still-comes i j t rest h p.0.0 (eqb-false i t e) (still q)
