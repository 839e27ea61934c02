-- The tracer's numbers: at most 256 lines and 255 forwardings, so that nothing is cut off; and what stops a telegram is a crossing of the
-- path, whose line and direction are below 256 and 2.
use Rattle.std.specs.Prelude.{Result, Ok, Err, Option, Some, None}
use Prim.Native.Nat.{ℕ, zero, suc, ◌+◌, ◌*◌, ◌%◌, ◌^◌, ◌≤◌, ◌<◌}
use mathlib.Core.Bool.{Bool, true, false, ◌&&◌}
use mathlib.Core.List.{List, [], ◌∷◌, ◌++◌}
use mathlib.Core.Logic.{◌↔◌}
use mathlib.Core.Path.{◌≡◌, refl, sym, ap, ◌∙◌, subst}
use native.Mathlib.Omega.{arith}
use lib.Dec.{ltb, leb, eqb}
use lib.ListN.{length, get_or}
use borrow.Author.Tests.{ltb-true, leb-true, eqb-true, eqb-false, not-false}
use Rattle.frame.proofs.Apart.{err-one, ok-err}
use Rattle.octets.proofs.Truth.{by_cases, and-true}
use Rattle.passing.proofs.Answers.{passage-zero, passage-most}
use Rattle.passing.specs.Answers.{passage_number}
use Rattle.passing.specs.Passing.{does_pass}
use Rattle.frame.proofs.Numbers.{number-listed, refused-number}
use Rattle.frame.proofs.Order.{passed-iff}
use Rattle.frame.specs.Answers.{Numbered}
use Rattle.frame.specs.Order.{first_of, answer_by}
use Rattle.frame.specs.Refusals.{number, last_number}
use Rattle.klumdray.proofs.Bits.{Field, ◌holding◌, packed, Fit, read_back, below}
use Rattle.klumdray.proofs.Telling.{number-alone, tells-refused, tells-accepted}
use Rattle.klumdray.specs.Decoding.{number_in, lines_in, forwardings_in, traced_numbered, traced_from, explanation_from, Tells}
use Rattle.klumdray.specs.Traces.{traced_number, explanation_number, query_fits, trace_through_tests, TracedThrough, why_through_tests, why_through}
use Rattle.octets.specs.Room.{over}
use Rattle.site.specs.Stores.{Stores}
use Rattle.site.specs.WellFormed.{is_among}
use Rattle.tracer.proofs.Explained.{reached-iff, not-reached}
use Rattle.tracer.proofs.ListLaws.{start-listed, trace-less-one}
use Rattle.tracer.proofs.ReachingLaws.{count_most}
use Rattle.tracer.specs.Answers.{explanation_numbered}
use Rattle.tracer.specs.Lines.{Crossing, main_side, depth, main_sides, main_sides_by, before_common, down, up_over, down_over, path, up}
use Rattle.tracer.specs.Listing.{crossing_passes, is_listed, count_below, lines_listed, is_forwarding, forwardings}
use Rattle.tracer.specs.declared.Query.{Query}
use Rattle.tracer.specs.Query.{is_query}
use Rattle.tracer.specs.Tracing.{traced_by, list_by}
use Rattle.tracer.specs.Why.{why_of}
use Rattle.tracer.specs.declared.Stop.{Stop}
use Rattle.frame.specs.declared.Refusal.{Refusal}

count-some : (f : ℕ → Bool) (n s : ℕ) → s < n → f s ≡ true → 1 ≤ count_below f n
count-some f zero s h e = absurd (omega arith)
count-some f (suc n) s h e =
    by_cases (eqb s n)
    (λ q. let z : f n ≡ true = ap f (sym (eqb-true s n q)) ∙ e in rw z (omega arith))
    (λ q. let d : s ≡ n → ⊥ = eqb-false s n q in omega (arith, count-some f n s (omega (arith, d)) e))

both_most : (f g : ℕ → Bool) → count_below f 255 + count_below g 255 ≤ 510
both_most f g = sum-most (count_below f 255) (count_below g 255) (count_most f 255) (count_most g 255)
  where
    sum-most : (m n : ℕ) → m ≤ 255 → n ≤ 255 → m + n ≤ 510
    sum-most m n h k = omega arith

module _ (st : Stores) (site : List ℕ) (q : Query) where
  lines-most : lines_listed st site q ≤ 256
  unfolding lines_listed
  lines-most = count_most (is_listed (crossing_passes st site q) q.start q.count) 256

  -- a coupler makes at most one in each direction
  forwardings-most : forwardings st site q ≤ 510
  unfolding forwardings
  forwardings-most = both_most (λ n. hands (down (suc n))) (λ n. hands (up (suc n)))
    where
      hands : Crossing → Bool
      hands = is_forwarding (crossing_passes st site q) q

  lines-some : q.start < 256 → 1 ≤ lines_listed st site q
  unfolding lines_listed
  lines-some h = count-some (is_listed (crossing_passes st site q) q.start q.count) 256 q.start h (start-listed (crossing_passes st site q) q)

traced_fields : ℕ → ℕ → ℕ → List Field
traced_fields n l f = 8 holding n ∷ 16 holding l ∷ 16 holding f ∷ []

module _ (n l f : ℕ) (hn : n ≤ last_number) (hl : l ≤ 256) (hf : f ≤ 510) {answer : ℕ} (e : answer ≡ n + l * 2 ^ 8 + f * 2 ^ 24) where
  traced_fit : Fit (traced_fields n l f)
  unfolding traced_fields
  traced_fit = (omega arith, (omega arith, (omega arith, tt)))

  traced-packed : answer ≡ packed (traced_fields n l f)
  unfolding traced_fields
  traced-packed = omega (arith, e)

  traced-fits : answer < 2 ^ 40
  unfolding traced_fields
  traced-fits = below (traced_fields n l f) answer traced_fit traced-packed

  traced-decoded : traced_from answer ≡ record { number = n; values = l ∷ f ∷ [] }
  unfolding traced_fields
  traced-decoded =
      let field = read_back (traced_fields n l f) answer traced_fit traced-packed in
      rw (field 0 (omega arith), field 1 (omega arith), field 2 (omega arith))

-- what fits has a line for its start
start_fits : (q : Query) → query_fits q ≡ true → q.start < 256
unfolding query_fits
start_fits q e =
    let three = and-true (ltb q.start 256 && ltb q.kind 256 && ltb q.destination 65536) (ltb q.count 256) e in
    let two = and-true (ltb q.start 256 && ltb q.kind 256) (ltb q.destination 65536) three.0 in
    ltb-true q.start 256 (and-true (ltb q.start 256) (ltb q.kind 256) two.0).0

module _ (st : Stores) (site : List ℕ) (q : Query) where
  traced-answer : (v : Result (Unit {0}) Refusal) → Tells 40 traced_from (traced_number (traced_by st site q v)) (traced_numbered (traced_by st site q v)) (λ r. v ≡ Err r)
  unfolding traced_number
  traced-answer (Ok _) =
      let l = lines_listed st site q in
      let f = forwardings st site q in
      let n = traced_number (traced_by st site q (Ok tt)) in
      let e : n ≡ 0 + l * 2 ^ 8 + f * 2 ^ 24 = omega (arith, lines-most st site q, forwardings-most st site q) in
      let d = traced-decoded 0 l f (omega arith) (lines-most st site q) (forwardings-most st site q) e in
      tells-accepted (ap (λ (i : Numbered). i.number) d) (λ r. ok-err) (traced-fits 0 l f (omega arith) (lines-most st site q) (forwardings-most st site q) e) d
  traced-answer (Err r) =
      tells-refused r refl refl (λ q. err-one) (omega arith) (traced-decoded (number r) 0 0 (number-listed r).1 (omega arith) (omega arith) (omega arith))

  module _ {room : List ℕ} {answer : ℕ} {room' : List ℕ} (w : TracedThrough st site q room answer room') where
    pub trace-told : Tells 40 traced_from answer (traced_numbered (traced_by st site q (first_of (trace_through_tests st site q (length room))))) (λ r. first_of (trace_through_tests st site q (length room)) ≡ Err r)
    trace-told = rw w.answered (traced-answer (first_of (trace_through_tests st site q (length room))))

    pub trace-counted : first_of (trace_through_tests st site q (length room)) ≡ Ok tt → (lines_in answer ≡ lines_listed st site q) × (forwardings_in answer ≡ forwardings st site q)
    trace-counted e =
        let d : traced_from answer ≡ traced_numbered (traced_by st site q (Ok tt)) = trace-told.decoded ∙ ap (λ (v : Result (Unit {0}) Refusal). traced_numbered (traced_by st site q v)) e in
        (ap (λ (i : Numbered). get_or i.values 0 0) d, ap (λ (i : Numbered). get_or i.values 1 0) d)

    -- "1 to 256", and the forwardings are one less
    pub trace-lines : number_in answer ≡ 0 → (1 ≤ lines_in answer) × ((lines_in answer ≤ 256) × (forwardings_in answer + 1 ≡ lines_in answer))
    trace-lines z = go (first_of (trace_through_tests st site q (length room))) refl
      where
        go : (v : Result (Unit {0}) Refusal) → first_of (trace_through_tests st site q (length room)) ≡ v → (1 ≤ lines_in answer) × ((lines_in answer ≤ 256) × (forwardings_in answer + 1 ≡ lines_in answer))
        go (Ok _) e =
            let n = trace-counted e in
            let h : q.start < 256 = start_fits q (not-false (query_fits q) ((passed-iff (trace_through_tests st site q (length room))).0 e).0) in
            let some : 1 ≤ lines_listed st site q = lines-some st site q h in
            (rw n.0 some, (rw n.0 (lines-most st site q), rw (n.0, n.1, trace-less-one st site q h) (omega arith)))
        go (Err r) e = absurd (trace-told.accepted.0 z r e)

    -- refused: the room as it was
    pub trace-leaves : (number_in answer ≡ 0 → ⊥) → room' ≡ room
    trace-leaves n = go (first_of (trace_through_tests st site q (length room))) refl
      where
        go : (v : Result (Unit {0}) Refusal) → first_of (trace_through_tests st site q (length room)) ≡ v → room' ≡ room
        go (Ok _) e = absurd (n (trace-told.accepted.1 (λ r f. ok-err (sym e ∙ f))))
        go (Err r) e = w.left ∙ ap (λ (v : Result (Unit {0}) Refusal). over (list_by st site q v) room) e

-- what stops a telegram: a crossing of the path, between lines below 256

abbrev Small : Crossing → Type 0
Small x = (x.line < 256) × (x.direction < 2)

abbrev AllSmall : List Crossing → Type 0
AllSmall [] = Unit {0}
AllSmall (x ∷ xs) = Small x × AllSmall xs

abbrev AllLines : List ℕ → Type 0
AllLines [] = Unit {0}
AllLines (n ∷ ns) = (n < 256) × AllLines ns

main-line : (n : ℕ) → n < 256 → main_side n < 256
unfolding main_side
main-line n h = by_cases (eqb (n % 16) 0) (λ e. rw e (omega arith)) (λ e. rw e (omega arith))

mains-lines : (k n : ℕ) → n < 256 → AllLines (main_sides_by k n)
mains-lines zero n h = (h, tt)
mains-lines (suc k) n h = (h, mains-lines k (main_side n) (main-line n h))

before-lines : (ns others : List ℕ) → AllLines ns → AllLines (before_common ns others)
before-lines [] others h = tt
before-lines (n ∷ ns) others h = by_cases (is_among n others) (λ e. rw e tt) (λ e. rw e (h.0, before-lines ns others h.1))

small-append : (xs ys : List Crossing) → AllSmall xs → AllSmall ys → AllSmall (xs ++ ys)
small-append [] ys h k = k
small-append (x ∷ xs) ys h k = (h.0, small-append xs ys h.1 k)

small-here : (ahead behind : List Crossing) (x : Crossing) → AllSmall (ahead ++ (x ∷ behind)) → Small x
small-here [] behind x h = h.0
small-here (y ∷ ahead) behind x h = small-here ahead behind x h.1

up_small : (ns : List ℕ) → AllLines ns → AllSmall (up_over ns)
up_small [] h = tt
up_small (n ∷ ns) h = ((h.0, omega arith), up_small ns h.1)

down-small : (ns : List ℕ) → AllLines ns → AllSmall (down_over ns)
down-small [] h = tt
down-small (n ∷ ns) h = small-append (down_over ns) (down n ∷ []) (down-small ns h.1) ((h.0, omega arith), tt)

path-small : (s t : ℕ) → s < 256 → t < 256 → AllSmall (path s t)
unfolding path main_sides
path-small s t h k =
    let up : List ℕ = before_common (main_sides s) (main_sides t) in
    let down : List ℕ = before_common (main_sides t) (main_sides s) in
    small-append (up_over up) (down_over down) (up_small up (before-lines (main_sides s) (main_sides t) (mains-lines (depth s) s h))) (down-small down (before-lines (main_sides t) (main_sides s) (mains-lines (depth t) t k)))

-- a reason, and numbers that fit their fields
record Stops (stop : Stop) : Type 0 where
  reason : eqb (passage_number stop.reason) 0 ≡ false
  coupler : stop.coupler < 256
  direction : stop.direction < 2

reached-apart : {A : Type 0} (stop : Stop) → ◌≡◌ {A = Result (Option Stop) Refusal} (Ok None) (Ok (Some stop)) → A
reached-apart stop e = let z : ◌≡◌ {A = ℕ} 0 1 = cc in absurd (omega arith)

stops : (st : Stores) (site : List ℕ) (q : Query) (line : ℕ) (stop : Stop) → q.count ≤ 7 → q.start < 256 → line < 256 → why_of st site q line ≡ Ok (Some stop) → Stops stop
stops st site q line stop c h k e = by_cases (is_listed (crossing_passes st site q) q.start q.count line) listed unlisted
  where
    listed : is_listed (crossing_passes st site q) q.start q.count line ≡ true → Stops stop
    listed l = reached-apart stop (sym ((reached-iff st site q c line).1 l) ∙ e)

    unlisted : is_listed (crossing_passes st site q) q.start q.count line ≡ false → Stops stop
    unlisted l =
        let n = not-reached st site q c line l in
        let x = n.1.1 in
        let same : ◌≡◌ {A = Result (Option Stop) Refusal} (Ok (Some stop)) (Ok (Some n.0)) = sym e ∙ n.1.0 in
        let is : stop ≡ n.0 = cc in
        let told = is ∙ x.told in
        let w : Small x.here = small-here x.ahead x.behind x.here (subst AllSmall x.place (path-small q.start line h k)) in
        record {
          reason = passage-zero stop.reason ∙ ap (λ (s : Stop). does_pass s.reason) told ∙ x.stops.1.1;
          coupler = rw (ap (λ (s : Stop). s.coupler) told) w.0;
          direction = rw (ap (λ (s : Stop). s.direction) told) w.1;
        }

module _ (stop : Stop) (x : Stops stop) where
  stop_fields : List Field
  stop_fields = 8 holding 0 ∷ 8 holding passage_number stop.reason ∷ 8 holding stop.coupler ∷ 1 holding stop.direction ∷ []

  stop-fit : Fit stop_fields
  unfolding stop_fields
  stop-fit = (omega arith, (omega (arith, leb-true (passage_number stop.reason) 7 (passage-most stop.reason)), (x.coupler, (x.direction, tt))))

  stop-packed : explanation_number (Ok (Some stop)) ≡ packed stop_fields
  unfolding stop_fields
  stop-packed = omega arith

  stop-told : Tells 25 explanation_from (explanation_number (Ok (Some stop))) (explanation_numbered (Ok (Some stop))) (λ r. (Ok (Some stop)) ≡ Err r)
  unfolding stop_fields
  stop-told =
      let field = read_back stop_fields (explanation_number (Ok (Some stop))) stop-fit stop-packed in
      tells-accepted (field 0 (omega arith)) (λ r e. let z : ◌≡◌ {A = ℕ} 0 1 = cc in absurd (omega arith)) (below stop_fields (explanation_number (Ok (Some stop))) stop-fit stop-packed)
      (rw (field 0 (omega arith), field 1 (omega arith), field 2 (omega arith), field 3 (omega arith), x.reason))

explanation-answer : (a : Result (Option Stop) Refusal) → ((stop : Stop) → a ≡ Ok (Some stop) → Stops stop) → Tells 25 explanation_from (explanation_number a) (explanation_numbered a) (λ r. a ≡ Err r)
explanation-answer (Ok None) h = tells-accepted refl (λ r e. let z : ◌≡◌ {A = ℕ} 0 1 = cc in absurd (omega arith)) (omega arith) refl
explanation-answer (Ok (Some stop)) h = stop-told stop (h stop refl)
explanation-answer (Err q) h = tells-refused q refl refl (λ r e. cc) (omega arith) (rw (number-alone q, refused-number q))

zero-reached : (a : Result (Option Stop) Refusal) → ((stop : Stop) → a ≡ Ok (Some stop) → Stops stop) → explanation_number a ≡ 0 → a ≡ Ok None
zero-reached (Ok None) h e = refl
zero-reached (Ok (Some stop)) h e = absurd (eqb-false (passage_number stop.reason) 0 (h stop refl).reason (omega arith))
zero-reached (Err q) h e = absurd (eqb-false _ _ (refused-number q) e)

module _ (st : Stores) (site : List ℕ) (q : Query) (line : ℕ) where
  why-stops : (stop : Stop) → why_through st site q line ≡ Ok (Some stop) → Stops stop
  unfolding why_through
  why-stops stop = go (first_of (why_through_tests st site q line)) refl
    where
      go : (v : Result (Unit {0}) Refusal) → first_of (why_through_tests st site q line) ≡ v → answer_by Err (why_of st site q line) v ≡ Ok (Some stop) → Stops stop
      go (Ok _) e w =
          let passed = (passed-iff (why_through_tests st site q line)).0 e in
          let fit = and-true (query_fits q) (ltb line 256) (not-false (query_fits q && ltb line 256) passed.0) in
          let query = and-true (leb q.kind 1) (leb q.count 7) (not-false (is_query q) passed.1.0) in
          stops st site q line stop (leb-true q.count 7 query.1) (start_fits q fit.0) (ltb-true line 256 fit.1) w
      go (Err r) e w = let z : ◌≡◌ {A = ℕ} 0 1 = cc in absurd (omega arith)

  pub why-told : Tells 25 explanation_from (explanation_number (why_through st site q line)) (explanation_numbered (why_through st site q line)) (λ r. why_through st site q line ≡ Err r)
  why-told = explanation-answer (why_through st site q line) why-stops

  -- where the line is reached, and there only, every bit is 0
  pub why-reached : explanation_number (why_through st site q line) ≡ 0 ↔ (why_through st site q line ≡ Ok None)
  why-reached = (zero-reached (why_through st site q line) why-stops, ap explanation_number)
