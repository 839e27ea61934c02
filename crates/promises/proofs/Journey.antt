-- Demand 3, and what a planner really wants to know: the list is what the couplers do, whatever each of them remembers, the backbone being
-- TP1 or IP. A first sending is put on the starting line of a well-formed site at work, and just that telegram is traced.
use Rattle.std.specs.Prelude.{Result, Ok}
use Prim.Native.Nat.{ℕ, zero, suc, ◌≤◌, ◌<◌}
use mathlib.Core.Bool.{Bool, true, false, ◌&&◌}
use mathlib.Core.List.{List, [], ◌∷◌}
use mathlib.Core.Logic.{◌↔◌}
use mathlib.Core.Path.{◌≡◌, refl, sym, ap, ◌∙◌, subst}
use native.Mathlib.Omega.{arith}
use lib.Dec.{leb, eqb}
use lib.ListN.{length}
use borrow.Author.Tests.{leb-true, eqb-true, eqb-false, le-ltb, le-leb}
use Rattle.frame.proofs.Order.{passed-iff}
use Rattle.frame.proofs.Valid.{Ranges, ranges-of, ranged}
use Rattle.frame.specs.Order.{first_of, NoneOf}
use Rattle.frame.specs.Valid.{Valid}
use Rattle.frame.specs.declared.Meaning.{Meaning}
use Rattle.octets.proofs.Truth.{by_cases, and-true}
use Rattle.octets.specs.Octets.{Octets, weigh}
use Rattle.octets.specs.Room.{over}
use Rattle.promises.specs.Readings.{traced_in}
use Rattle.site.specs.WellFormed.{site_tests}
use Rattle.journey.proofs.Handing.{backbone-ip}
use Rattle.journey.proofs.Journey.{list-is-journey, arrives-listed, arrives-below, sends-so-many, sends-once as sends-alike}
use Rattle.tracer.proofs.ListLaws.{trace-and-one}
use Rattle.journey.proofs.SoMany.{so-many-one}
use Rattle.tracer.proofs.Standing.{ListedWith, stands-iff, stands-once}
use Rattle.journey.specs.Journey.{AtWork, is_ip, form_on, Arrives, Sends, SoMany, ArrivesWith, with_count, set_for, asked_of}
use Rattle.tracer.specs.Lines.{Crossing, path, distance}
use Rattle.tracer.specs.Query.{is_query, on_arrival}
use Rattle.tracer.specs.Listing.{StandsIn, listed, lines_listed, forwardings}
use Rattle.tracer.specs.declared.Query.{Query}
use Rattle.tracer.specs.Tracing.{trace_tests, traced_by, list_by, DidTrace}
use Rattle.tracer.specs.declared.Traced.{Traced}
use Rattle.frame.specs.declared.Refusal.{Refusal}

-- the backbone may be either: it is IP exactly if it is meant to be
pub backbone-on-ip : (w : AtWork) → NoneOf (site_tests w.stores w.site) → is_ip w 0 ≡ w.meant_ip 0
backbone-on-ip w ok = backbone-ip w ((passed-iff (site_tests w.stores w.site)).1 ok)

module _ (w : AtWork) (o : Octets w.site) (ok : NoneOf (site_tests w.stores w.site)) (start : ℕ) (small : start < 256) (m : Meaning) (p : List ℕ) (v : Valid m p) (new : m.first ≡ true)
    (room room' : List ℕ) (given : Result Traced Refusal) (large : 768 ≤ length room) (d : DidTrace w.stores w.site (asked_of w start m) room given room') where
  fine : first_of (site_tests w.stores w.site) ≡ Ok tt
  fine = (passed-iff (site_tests w.stores w.site)).1 ok

  asks : is_query (asked_of w start m) ≡ true
  asks = rw (le-leb m.count 7 (omega (arith, (ranges-of m (length p) v.ranges).count))) (kind m.group)
    where
      kind : (b : Bool) → leb (weigh b 1) 1 && true ≡ true
      kind true = refl
      kind false = refl

  passed : first_of (trace_tests w.stores w.site (asked_of w start m) (length room)) ≡ Ok tt
  passed = (passed-iff (trace_tests w.stores w.site (asked_of w start m) (length room))).1 (rw asks refl, (le-ltb (length room) 768 large, ok))

  asked : given ≡ traced_by w.stores w.site (asked_of w start m) (Ok tt)
  asked = d.answered ∙ ap (traced_by w.stores w.site (asked_of w start m)) passed

  -- the lines and forwardings of the call's answer
  abbrev pub answer : Traced
  answer = traced_in given

  -- the trace is not refused
  pub answered : given ≡ Ok answer
  answered = asked ∙ ap (λ (t : Result Traced Refusal). Ok (traced_in t)) (sym asked)

  lines_are : answer.lines ≡ lines_listed w.stores w.site (asked_of w start m)
  lines_are = ap (λ (t : Result Traced Refusal). (traced_in t).lines) asked

  forwardings-are : answer.forwardings ≡ forwardings w.stores w.site (asked_of w start m)
  forwardings-are = ap (λ (t : Result Traced Refusal). (traced_in t).forwardings) asked

  room-is : room' ≡ over (listed w.stores w.site (asked_of w start m)) room
  room-is = d.left ∙ ap (λ (x : Result (Unit {0}) Refusal). over (list_by w.stores w.site (asked_of w start m) x) room) passed

  -- what stands in the room is what is listed
  in-room : (line count crossed : ℕ) → StandsIn room' answer.lines line count crossed ↔ ((line < 256) × ListedWith w.stores w.site (asked_of w start m) line count crossed)
  in-room line count crossed = rw (room-is, lines_are) (stands-iff w.stores w.site (asked_of w start m) room line count crossed)

  -- line, count on arrival and couplers crossed stand in the room exactly if the telegram, handed on by the step of coupler after coupler and
  -- never back over the one by which it came, arrives on that line with that count, so many couplers having been crossed
  pub as-couplers-do : (line count crossed : ℕ) → StandsIn room' answer.lines line count crossed ↔ ArrivesWith w start m p line count crossed
  as-couplers-do line count crossed = (
    (λ s. (list-is-journey w fine start m p v new line count crossed).0 ((in-room line count crossed).0 s).1),
    (λ a. (in-room line count crossed).1 (arrives-below w fine start m p v new o small a.arrives, (list-is-journey w fine start m p v new line count crossed).1 a)),
  )

  -- nothing else arrives: whatever octets come onto a line, it is one of the 256 and stands in the room, and they are the telegram in that
  -- line's form with the count that stands there; and they came over the couplers of the path
  pub record AsListed (line : ℕ) (octets : List ℕ) (way : List Crossing) : Type 0 where
    pub below : line < 256
    pub count : ℕ
    pub stands : StandsIn room' answer.lines line count (length way)
    pub laid : octets ≡ form_on w line (with_count count m) p
    pub along : way ≡ path start line

  pub nothing-else : (line : ℕ) (octets : List ℕ) (way : List Crossing) → Arrives w start (form_on w start m p) line octets way → AsListed line octets way
  nothing-else line octets way a =
      let l = arrives-listed w fine start m p v new a in
      let b = arrives-below w fine start m p v new o small a in
      let c : ℕ = on_arrival (asked_of w start m) (distance start line) in
      record { below = b; count = c; stands = (in-room line c (length way)).1 (b, l.0); laid = l.1.0; along = l.1.1 }

  -- each line once: it stands in one place, and on it the telegram arrives once, the same octets over the same couplers

  pub stands-in-one-place : (line : ℕ) {count₁ count₂ crossed₁ crossed₂ : ℕ} (a : StandsIn room' answer.lines line count₁ crossed₁) (b : StandsIn room' answer.lines line count₂ crossed₂)
      → a.place ≡ b.place
  stands-in-one-place line = rw (room-is, lines_are) (stands-once w.stores w.site (asked_of w start m) room line)

  pub arrives-once : (line : ℕ) {octets₁ octets₂ : List ℕ} {way₁ way₂ : List Crossing} → Arrives w start (form_on w start m p) line octets₁ way₁ → Arrives w start (form_on w start m p) line octets₂ way₂
      → (octets₁ ≡ octets₂) × (way₁ ≡ way₂)
  arrives-once line a b =
      let x = (arrives-listed w fine start m p v new a).1 in
      let y = (arrives-listed w fine start m p v new b).1 in
      (x.0 ∙ sym y.0, x.1 ∙ sym y.1)

  -- "the number of forwardings made on the site": so many sendings of the couplers there are, and no other number of them ..
  pub forwardings-are-sendings : (n : ℕ) → SoMany (Sends w start (form_on w start m p)) n ↔ (n ≡ answer.forwardings)
  forwardings-are-sendings n =
      let s : SoMany (Sends w start (form_on w start m p)) answer.forwardings = rw forwardings-are (sends-so-many w fine start m p v new o) in
      ((λ x. so-many-one (Sends w start (form_on w start m p)) n answer.forwardings x s), λ e. subst (SoMany (Sends w start (form_on w start m p))) (sym e) s)

  -- .. each coupler sending once, if at all, in a direction ..
  pub sends-once : (x : Crossing) (a b : Sends w start (form_on w start m p) x) → (a.octets ≡ b.octets) × ((a.way ≡ b.way) × (a.onward ≡ b.onward))
  sends-once = sends-alike w fine start m p v new

  -- .. "which is the number of listed lines less one"
  pub forwardings-less-one : answer.lines ≡ suc answer.forwardings
  forwardings-less-one = lines_are ∙ trace-and-one w.stores w.site (asked_of w start m) small ∙ ap suc (sym forwardings-are)

-- every query with kind and count in range is asked of such a telegram, on every site at work that is set for it
pub record Telegram (q : Query) : Type 0 where
  pub meaning : Meaning
  pub payload : List ℕ
  pub valid : Valid meaning payload
  pub new : meaning.first ≡ true
  pub asked : (w : AtWork) → asked_of (set_for q w) q.start meaning ≡ q

pub every-query : (q : Query) → is_query q ≡ true → q.destination < 65536 → Telegram q
every-query q e h =
    let a = and-true (leb q.kind 1) (leb q.count 7) e in
    let m : Meaning = record { extended = false; first = true; priority = 0; source = 0; group = eqb q.kind 1; destination = q.destination; count = q.count } in
    let r : Ranges m 1 = record { priority = omega arith; count = omega (arith, leb-true q.count 7 a.1); some = omega arith; most = omega arith } in
    let k : weigh (eqb q.kind 1) 1 ≡ q.kind = kind q.kind (leb-true q.kind 1 a.0) in
    record {
      meaning = m;
      payload = 0 ∷ [];
      valid = record { ranges = ranged m 1 r; source = omega arith; destination = h; octets = one-octet };
      new = refl;
      asked = λ w. rw k refl;
    }
  where
    kind : (k : ℕ) → k ≤ 1 → weigh (eqb k 1) 1 ≡ k
    kind k l = by_cases (eqb k 1) (λ d. rw d (sym (eqb-true k 1 d))) (λ d. rw d (omega (arith, eqb-false k 1 d)))

    one-octet : Octets (0 ∷ [])
    one-octet zero = omega arith
    one-octet (suc i) = omega arith
