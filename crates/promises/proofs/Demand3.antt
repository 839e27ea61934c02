-- Demand 3: the tracer lists exactly the lines for which every coupler on the path from the starting line is fitted and lets the telegram
-- pass in its direction of travel, and the count c is 7 or the distance d at most c; each once, in rising order, with count on arrival and
-- couplers crossed. It speaks of "every well-formed site, every query with kind and count in range, and every room of 768 or more".
use Rattle.std.specs.Prelude.{Result, Ok, Err, Option, Some, None}
use Prim.Native.Nat.{ℕ, ◌+◌, ◌-◌, ◌*◌, ◌≤◌, ◌<◌}
use mathlib.Core.Bool.{true, false}
use mathlib.Core.List.{List, [], ◌∷◌, ◌++◌}
use mathlib.Core.Logic.Iff
use mathlib.Core.Logic.{◌↔◌, ◌⊎◌, inr}
use mathlib.Core.Path.{◌≡◌, refl, sym, ap, ◌∙◌}
use native.Mathlib.Omega.{arith}
use lib.Dec.{leb}
use lib.ListN.{length, take, drop}
use borrow.Author.Tests.{leb-true, le-ltb}
use Rattle.octets.proofs.Truth.{by_cases, and-true}
use Rattle.passing.specs.Answers.{passage_number}
use Rattle.passing.specs.Passing.{does_pass}
use Rattle.passing.specs.declared.Passage.{Passage}
use Rattle.frame.proofs.Numbers.{number-some}
use Rattle.frame.proofs.Order.{passed-iff}
use Rattle.frame.specs.Answers.{Numbered, accepted}
use Rattle.frame.specs.Order.{first_of, answer_by, NoneOf}
use Rattle.octets.specs.Octets.{Octets}
use Rattle.octets.specs.Room.{over}
use Rattle.site.proofs.RecordCount.{site-most}
use Rattle.site.specs.Letting.{passage_at}
use Rattle.site.specs.Records.{records_of}
use Rattle.site.specs.Stores.{Stores}
use Rattle.site.specs.WellFormed.{is_among, site_tests}
use Rattle.tracer.proofs.Explained.{reached-iff, not-reached, StopsBehind, stop_of, stops-once}
use Rattle.tracer.proofs.CountLaws.{arrival-none}
use Rattle.tracer.proofs.ListLaws.{trace-three-each, trace-less-one}
use Rattle.tracer.proofs.Paths.{path-same, distance-four}
use Rattle.tracer.proofs.RoomList.{Rising, octets_of, rising-one, listed_at, listed-iff, lasts-iff, lines_on, lines-octets, lines-count, lines-rise, lines_are}
use Rattle.tracer.specs.Answers.{explanation_numbered}
use Rattle.tracer.specs.Lines.{main_side, Crossing, path, distance}
use Rattle.tracer.specs.Query.{on_arrival}
use Rattle.tracer.specs.Listing.{is_listed, crossing_passes, all_pass, listed, lines_listed, forwardings}
use Rattle.tracer.specs.declared.Query.{Query}
use Rattle.tracer.specs.Query.{is_query}
use Rattle.tracer.specs.Tracing.{trace_tests, traced_by, list_by, DidTrace}
use Rattle.tracer.specs.Why.{why_of, why_tests, answer_why}
use Rattle.tracer.specs.declared.Traced.{Traced}
use Rattle.frame.specs.declared.Refusal.{Refusal}
use Rattle.tracer.specs.declared.Stop.{Stop}

-- "every coupler on the path from the starting line is fitted and lets the telegram pass in its direction of travel, and the count c is 7 or
-- the distance d at most c"
abbrev pub Reachable : Stores → List ℕ → Query → ℕ → Type 0
Reachable st site q line =
    (all_pass (crossing_passes st site q) (path q.start line) ≡ true)
    × ((q.count ≡ 7) ⊎ (length (path q.start line) ≤ q.count))

-- "Each listed line takes three octets: line, count on arrival (7, or c minus d), couplers crossed."
abbrev pub line_octets : Query → ℕ → List ℕ
line_octets q line = line ∷ on_arrival q (length (path q.start line)) ∷ length (path q.start line) ∷ []

-- what a planner signs for
pub record Signed (st : Stores) (site : List ℕ) (q : Query) (room : List ℕ) (answer : Result Traced Refusal) (room' : List ℕ) : Type 0 where
  -- nothing is refused
  pub traced : Traced
  pub accepts : answer ≡ Ok traced
  -- the room has the octets of these lines, one line's behind the other's; "Lent octets behind the list stay."
  pub lines : List ℕ
  pub written : room' ≡ octets_of (line_octets q) lines ++ drop (3 * traced.lines) room
  pub counted : traced.lines ≡ length lines
  -- each once, in rising order
  pub rising : Rising lines
  -- exactly the lines, of "all 256", that the telegram reaches
  pub exactly : (line : ℕ) → is_among line lines ≡ true ↔ ((line < 256) × Reachable st site q line)
  -- "The starting line is always listed, with distance 0."
  pub starts : (i : ℕ) × ((i < traced.lines) × (take 3 (drop (3 * i) room') ≡ q.start ∷ q.count ∷ 0 ∷ []))
  -- "the number of forwardings made on the site, which is the number of listed lines less one"
  pub forwarded : traced.forwardings ≡ traced.lines - 1

start-octets : (q : Query) → line_octets q q.start ≡ q.start ∷ q.count ∷ 0 ∷ []
start-octets q = rw (path-same, arrival-none q) refl

start-reachable : (st : Stores) (site : List ℕ) (q : Query) → Reachable st site q q.start
start-reachable st site q = rw path-same (refl, inr (omega arith))

signs : (st : Stores) (site : List ℕ) (q : Query) (room room' : List ℕ) (answer : Result Traced Refusal) → NoneOf (site_tests st site) → is_query q ≡ true → q.start < 256 → 768 ≤ length room
    → DidTrace st site q room answer room' → Signed st site q room answer room'
signs st site q room room' answer w a b h d =
    let ts = trace_tests st site q (length room) in
    let v : first_of ts ≡ (Ok tt) = (passed-iff ts).1 (rw a refl, (le-ltb (length room) 768 h, w)) in
    let ls = lines_on st site q in
    let t : Traced = record { lines = lines_listed st site q; forwardings = forwardings st site q } in
    let c : t.lines ≡ length ls = lines-count st site q in
    let rest = drop (3 * t.lines) room in
    let size : length (listed st site q) ≡ 3 * t.lines = omega (arith, trace-three-each st site q) in
    let e : room' ≡ octets_of (line_octets q) ls ++ rest =
    d.left
    ∙ ap (λ (x : Result (Unit {0}) Refusal). over (list_by st site q x) room) v
    ∙ ap (λ (k : ℕ). listed st site q ++ drop k room) size
    ∙ ap (λ (l : List ℕ). l ++ rest) (lines-octets st site q) in
    let x = listed_at q.start ls ((lines_are st site q q.start).1 (b, start-reachable st site q)) (line_octets q) (λ n. refl) rest in
    record {
      traced = t;
      accepts = d.answered ∙ ap (traced_by st site q) v;
      lines = ls;
      written = e;
      counted = c;
      rising = lines-rise st site q;
      exactly = lines_are st site q;
      starts = (x.0, (omega (arith, c, x.1.0), ap (λ (l : List ℕ). take 3 (drop (3 * x.0) l)) e ∙ x.1.1 ∙ start-octets q));
      forwarded = trace-less-one st site q b;
    }

-- nothing is left out: one answer and one room have it all
pub signed-one : {st : Stores} {site : List ℕ} {q : Query} {room room' room'' : List ℕ} {a b : Result Traced Refusal} → Signed st site q room a room' → Signed st site q room b room'' → (a ≡ b) × (room' ≡ room'')
signed-one {q = q} {room = room} {a = a} {b = b} s t =
    let l : s.lines ≡ t.lines = rising-one s.lines t.lines s.rising t.rising (λ n. Iff.trans (s.exactly n) (Iff.symm (t.exactly n))) in
    let n : s.traced.lines ≡ t.traced.lines = s.counted ∙ ap length l ∙ sym t.counted in (
      s.accepts ∙ ap Ok (same_answer s.traced t.traced n (s.forwarded ∙ ap (λ (k : ℕ). k - 1) n ∙ sym t.forwarded)) ∙ sym t.accepts,
      s.written ∙ ap (λ (k : ℕ). octets_of (line_octets q) s.lines ++ drop (3 * k) room) n ∙ ap (λ (x : List ℕ). octets_of (line_octets q) x ++ drop (3 * t.traced.lines) room) l ∙ sym t.written,
    )
  where
    same_answer : (x y : Traced) → x.lines ≡ y.lines → x.forwardings ≡ y.forwardings → x ≡ y
    same_answer x y j k = λ z. record { lines = j z; forwardings = k z }

-- "well-formed exactly if it and its stores draw none of 15 to 18": the contract of the trace allows exactly what is signed for
pub lists-exactly : (st : Stores) (site : List ℕ) (q : Query) (room room' : List ℕ) (answer : Result Traced Refusal) → NoneOf (site_tests st site) → is_query q ≡ true → q.start < 256 → 768 ≤ length room
    → DidTrace st site q room answer room' ↔ Signed st site q room answer room'
lists-exactly st site q room room' answer w a b h = (
  signs st site q room room' answer w a b h,
  (λ s. let x = signed-one s (signs st site q room _ _ w a b h (record { answered = refl; left = refl })) in record { answered = x.0; left = x.1 }),
)

-- "So the main side of 47h is 40h, and of 40h it is 00h."
pub main-sides : (main_side 0x47 ≡ 0x40) × (main_side 0x40 ≡ 0x00)
unfolding main_side
main-sides = (refl, refl)

-- "Distance is the number of couplers on it, 0 to 4."
pub at-most-four : (start line : ℕ) → length (path start line) ≤ 4
unfolding distance
at-most-four = distance-four

-- "A site is 0 to 255 records of 12 octets"
pub at-most-255-records : (st : Stores) (site : List ℕ) → Octets site → NoneOf (site_tests st site) → (length (records_of site) ≤ 255) × (length site ≤ 3060)
at-most-255-records = site-most

-- why a line is not reached

-- what a coupler makes of the telegram when it comes with this count: its first reason not to hand it on
abbrev pub reason_of : Stores → List ℕ → Query → Crossing → ℕ → Passage
reason_of st site q x count = passage_at st q.kind q.destination (records_of site) x.direction x.line count

-- what is said of a line that the telegram does not reach
pub record Stops (st : Stores) (site : List ℕ) (q : Query) (line : ℕ) (answer : Numbered) : Type 0 where
  -- one coupler on the path
  pub ahead : List Crossing
  pub here : Crossing
  pub behind : List Crossing
  pub place : path q.start line ≡ ahead ++ (here ∷ behind)
  -- the first: the telegram comes to it, those before it being fitted and letting it pass, and the count lasting for them ..
  pub passed : all_pass (crossing_passes st site q) ahead ≡ true
  pub lasting : (q.count ≡ 7) ⊎ (length ahead ≤ q.count)
  -- .. and is not handed on, with the count on arrival there
  pub stopped : does_pass (reason_of st site q here (on_arrival q (length ahead))) ≡ false
  -- the answer is number 0 with three values: the reason, the coupler's line, the direction of travel
  pub told : answer ≡ accepted (passage_number (reason_of st site q here (on_arrival q (length ahead))) ∷ here.line ∷ here.direction ∷ [])

-- in a well-formed site, and with kind and count in range, nothing is refused
explained : (st : Stores) (site : List ℕ) (q : Query) → NoneOf (site_tests st site) → is_query q ≡ true → (line : ℕ) → answer_why st site q line ≡ why_of st site q line
unfolding answer_why
explained st site q w a line = ap (answer_by Err (why_of st site q line)) ((passed-iff (why_tests st site q)).1 (rw a refl, w))

no-values : (x : Result (Option Stop) Refusal) → explanation_numbered x ≡ accepted [] → x ≡ Ok None
no-values (Ok None) e = refl
no-values (Ok (Some stop)) e = absurd (omega (arith, ap (λ (n : Numbered). length n.values) e))
no-values (Err r) e = absurd (number-some r (ap (λ (n : Numbered). n.number) e))

count_most : (q : Query) → is_query q ≡ true → q.count ≤ 7
count_most q a = leb-true q.count 7 (and-true (leb q.kind 1) (leb q.count 7) a).1

-- number 0 and no values exactly for the lines that are listed ..
pub reached-exactly : (st : Stores) (site : List ℕ) (q : Query) → NoneOf (site_tests st site) → is_query q ≡ true → (line : ℕ)
    → explanation_numbered (answer_why st site q line) ≡ accepted [] ↔ Reachable st site q line
reached-exactly st site q w a line =
    let e = explained st site q w a line in
    let r = reached-iff st site q (count_most q a) line in
    let l = listed-iff (crossing_passes st site q) q.start q.count line in
    ((λ x. l.0 (r.0 (sym e ∙ no-values (answer_why st site q line) x))), (λ x. ap explanation_numbered (e ∙ r.1 (l.1 x))))

-- .. and otherwise the first coupler on the path that does not hand the telegram on
pub stopped-there : (st : Stores) (site : List ℕ) (q : Query) → NoneOf (site_tests st site) → is_query q ≡ true → (line : ℕ) → (Reachable st site q line → ⊥)
    → Stops st site q line (explanation_numbered (answer_why st site q line))
stopped-there st site q w a line n =
    let off : is_listed (crossing_passes st site q) q.start q.count line ≡ false =
    by_cases (is_listed (crossing_passes st site q) q.start q.count line) (λ y. absurd (n ((listed-iff (crossing_passes st site q) q.start q.count line).0 y))) (λ y. y) in
    let x = not-reached st site q (count_most q a) line off in
    let s = x.1.1 in
    let j : 0 + length s.ahead ≡ length s.ahead = omega arith in
    record {
      ahead = s.ahead;
      here = s.here;
      behind = s.behind;
      place = s.place;
      passed = s.stops.0;
      lasting = (lasts-iff q.count (length s.ahead)).0 (rw j at s.stops.1.0);
      stopped = rw j at s.stops.1.1;
      told = ap explanation_numbered (explained st site q w a line ∙ x.1.0 ∙ ap (λ z. Ok (Some z)) (s.told ∙ ap (stop_of st site q s.here) j));
    }

-- nothing is left out here either
pub stops-one : {st : Stores} {site : List ℕ} {q : Query} {line : ℕ} {a b : Numbered} → Stops st site q line a → Stops st site q line b → a ≡ b
stops-one {st} {site} {q} s t =
    let x = stops-once st site q 0 s.ahead s.behind t.ahead t.behind s.here t.here (few s) (sym s.place ∙ t.place) (behind s) (behind t) in
    s.told ∙ ap (λ (y : Crossing). values y (length s.ahead)) x.0 ∙ ap (values t.here) x.1 ∙ sym t.told
  where
    values : Crossing → ℕ → Numbered
    values y n = accepted (passage_number (reason_of st site q y (on_arrival q n)) ∷ y.line ∷ y.direction ∷ [])

    few : {line : ℕ} {n : Numbered} (s : Stops st site q line n) → 0 + length (s.ahead ++ (s.here ∷ s.behind)) ≤ 4
    few {line} s = omega (arith, at-most-four q.start line, ap length s.place)

    behind : {line : ℕ} {n : Numbered} (s : Stops st site q line n) → StopsBehind st site q 0 s.ahead s.here
    behind s =
        let j : 0 + length s.ahead ≡ length s.ahead = omega arith in
        (s.passed, (rw j ((lasts-iff q.count (length s.ahead)).1 s.lasting), rw j s.stopped))
