-- The marks of the couplers, how the telegram spreads over them and the list of the lines reached, put together: that list is the
-- definition's. Marks are known of the lines below 256, and a path between two of those crosses no other coupler.
use Rattle.std.specs.Prelude.{Result, Ok, Err}
use Prim.Native.Nat.{ℕ, zero, suc, ◌-◌, ◌≤◌, ◌<◌}
use mathlib.Core.Bool.{false, Bool, true}
use mathlib.Core.List.{List}
use mathlib.Core.Path.{◌≡◌, refl, sym, ap, ◌∙◌}
use native.Mathlib.Omega.{arith}
use lib.ListN.{length, get_or}
use borrow.Author.Tests.{ltb-false}
use Rattle.frame.proofs.Order.{passed-iff, first-passed, first-refused}
use Rattle.frame.specs.Order.{first_of}
use Rattle.frame.specs.declared.Refusal.{Refusal}
use Rattle.octets.proofs.Truth.{by_cases}
use Rattle.octets.specs.Room.{over}
use Rattle.site.specs.Letting.{line_lets_pass, MarksBothWays}
use Rattle.site.specs.Records.{records_of}
use Rattle.site.specs.Starts.{verdict_of}
use Rattle.site.specs.Stores.{Stores}
use Rattle.site.specs.WellFormed.{is_among, site_tests}
use Rattle.site.specs.declared.Surveyed.{Surveyed}
use Rattle.tracer.proofs.Crossings.{all_append}
use Rattle.tracer.proofs.Forwardings.{count_same}
use Rattle.tracer.proofs.ListLaws.{forwarded-lines}
use Rattle.tracer.proofs.Paths.{main-below, by-mains, on-zero, before_on, before-off}
use Rattle.tracer.proofs.ReachingLaws.{reach-listed, reach-reached}
use Rattle.tracer.specs.Lines.{main_sides, before_common, Crossing, up, down, up_over, down_over, path, distance}
use Rattle.tracer.specs.Listing.{crossing_passes, all_pass, is_listed, entry, each_below, count_below, listed, lines_listed, forwardings}
use Rattle.tracer.specs.declared.Query.{Query}
use Rattle.tracer.specs.Reaching.{reach, marked, is_forwarded_to, Spread, is_reached, entry_by}
use Rattle.tracer.specs.Tracing.{asking_tests, trace_tests, traced_by, list_by, DidTrace}
use Rattle.tracer.specs.Reaching.{DidList}
use Rattle.tracer.specs.declared.Traced.{Traced}

each_same : (f g : ℕ → List ℕ) (n : ℕ) → ((i : ℕ) → i < n → f i ≡ g i) → each_below f n ≡ each_below g n
each_same f g zero h = refl
each_same f g (suc n) h = rw (each_same f g n (λ i l. h i (omega arith)), h n (omega arith)) refl

-- a line whose number is known
module _ (f : Crossing → Bool) (q : Query) (t : ℕ) (lines : List ℕ) (e : get_or lines t 0 ≡ reach f q.start q.count t) where
  abbrev lists : Bool
  lists = is_listed f q.start q.count t

  reached-listed : is_reached lines t ≡ lists
  unfolding is_reached
  reached-listed = rw e (reach-reached f q.start q.count t)

  entry-by : entry_by q lines t ≡ entry f q t
  unfolding entry_by entry
  entry-by =
      let crossed : lists ≡ true → get_or lines t 0 - 1 ≡ distance q.start t = λ h. omega (arith, e, rw h at (reach-listed f q.start q.count t)) in
      rw reached-listed (by_cases lists (λ h. rw (h, crossed h) refl) (λ h. rw h refl))

-- two tests that agree at every coupler of a line below 256
module _ (f g : Crossing → Bool) (downs : (n : ℕ) → n < 256 → f (down n) ≡ g (down n)) (ups : (n : ℕ) → n < 256 → f (up n) ≡ g (up n)) where
  up_same : (others : List ℕ) → is_among 0 others ≡ true → (n : ℕ) → n < 256
      → all_pass f (up_over (before_common (main_sides n) others)) ≡ all_pass g (up_over (before_common (main_sides n) others))
  up_same others z =
      by-mains (λ n. n < 256 → all_pass f (up_over (before_common (main_sides n) others)) ≡ all_pass g (up_over (before_common (main_sides n) others)))
      (λ l. rw (before_on 0 others z) refl)
      (λ n h ih l. by_cases (is_among n others)
      (λ e. rw (before_on n others e) refl)
      (λ e. rw (before-off n others h e, ups n l, ih (omega (arith, main-below n h))) refl))

  down-same : (others : List ℕ) → is_among 0 others ≡ true → (n : ℕ) → n < 256
      → all_pass f (down_over (before_common (main_sides n) others)) ≡ all_pass g (down_over (before_common (main_sides n) others))
  down-same others z =
      by-mains (λ n. n < 256 → all_pass f (down_over (before_common (main_sides n) others)) ≡ all_pass g (down_over (before_common (main_sides n) others)))
      (λ l. rw (before_on 0 others z) refl)
      (λ n h ih l. by_cases (is_among n others)
      (λ e. rw (before_on n others e) refl)
      (λ e. rw (before-off n others h e, all_append f, all_append g, downs n l, ih (omega (arith, main-below n h))) refl))

  module _ (q : Query) (hs : q.start < 256) where
    listed_same : (t : ℕ) → t < 256 → is_listed f q.start q.count t ≡ is_listed g q.start q.count t
    unfolding is_listed path
    listed_same t ht =
        rw (all_append f, all_append g, up_same (main_sides t) (on-zero t) q.start hs, down-same (main_sides q.start) (on-zero q.start) t ht) refl

    entry-same : (t : ℕ) → t < 256 → entry f q t ≡ entry g q t
    unfolding entry
    entry-same t ht = rw (listed_same t ht) refl

    forwarded-same : (t : ℕ) → t < 256 → is_forwarded_to f q.start q.count t ≡ is_forwarded_to g q.start q.count t
    unfolding is_forwarded_to
    forwarded-same t ht = rw (listed_same t ht) refl

by_both : {l l' f f' : ℕ} → l ≡ l' → f ≡ f' → ◌≡◌ {A = Result Traced Refusal} (Ok (record { lines = l; forwardings = f })) (Ok (record { lines = l'; forwardings = f' }))
by_both a b = rw (a, b) refl

-- what the tracer's three steps ensure
module _ (st : Stores) (site : List ℕ) (q : Query) {marks : List (List Bool)} (small : q.start < 256) (m : MarksBothWays (line_lets_pass st q.kind q.destination (records_of site)) marks) where
  abbrev asked : Crossing → Bool
  asked = crossing_passes st site q

  downs : (n : ℕ) → n < 256 → marked marks (down n) ≡ asked (down n)
  unfolding marked
  downs n h = ap (λ (l : List Bool). get_or l 0 false) (m.each n h)

  ups : (n : ℕ) → n < 256 → marked marks (up n) ≡ asked (up n)
  unfolding marked
  ups n h = ap (λ (l : List Bool). get_or l 1 false) (m.each n h)

  module _ {reached : List ℕ} {made : ℕ} (w : Spread (marked marks) q.start q.count reached made) where
    counted : count_below (is_reached reached) 256 ≡ lines_listed st site q
    unfolding lines_listed
    counted =
        count_same (is_reached reached) (is_listed asked q.start q.count) 256
        (λ i h. reached-listed (marked marks) q i reached (w.each i h) ∙ listed_same (marked marks) asked downs ups q small i h)

    entries : each_below (entry_by q reached) 256 ≡ listed st site q
    unfolding listed
    entries =
        each_same (entry_by q reached) (entry asked q) 256
        (λ i h. entry-by (marked marks) q i reached (w.each i h) ∙ entry-same (marked marks) asked downs ups q small i h)

    handed-on : made ≡ forwardings st site q
    unfolding forwardings
    handed-on =
        w.forwarded
        ∙ count_same (is_forwarded_to (marked marks) q.start q.count) (is_forwarded_to asked q.start q.count) 256 (forwarded-same (marked marks) asked downs ups q small)
        ∙ forwarded-lines asked q small

    pub listed_by : {lines : ℕ} {room room' : List ℕ} → (lines ≡ count_below (is_reached reached) 256) × (room' ≡ over (each_below (entry_by q reached) 256) room)
        → DidList st site q room (record { lines = lines; forwardings = made }) room'
    listed_by {lines} {room} l =
        record {
          answered = by_both (l.0 ∙ counted) handed-on;
          left = l.1 ∙ ap (λ (o : List ℕ). over o room) entries;
        }

-- the query's verdict, then the site's, and by them the refusal or the list
pub asked-room : (q : Query) {room : ℕ} → first_of (asking_tests q room) ≡ Ok tt → 768 ≤ room
asked-room q {room} e = ltb-false room 768 ((passed-iff (asking_tests q room)).0 e).1.0

module _ (st : Stores) (site : List ℕ) (q : Query) (room : List ℕ) where
  did-trace : {answer : Result Traced Refusal} {room' : List ℕ} (v : Result (Unit {0}) Refusal) → first_of (trace_tests st site q (length room)) ≡ v
      → answer ≡ traced_by st site q v → room' ≡ over (list_by st site q v) room → DidTrace st site q room answer room'
  did-trace v e a l = record { answered = a ∙ ap (traced_by st site q) (sym e); left = l ∙ ap (λ (v : Result (Unit {0}) Refusal). over (list_by st site q v) room) (sym e) }

  pub asked-refused : {r : Refusal} {answer : Result Traced Refusal} → first_of (asking_tests q (length room)) ≡ Err r → answer ≡ Err r → DidTrace st site q room answer room
  asked-refused {r} e a = did-trace (Err r) (first-refused (asking_tests q (length room)) (site_tests st site) r e) a refl

  module _ (e : first_of (asking_tests q (length room)) ≡ Ok tt) (survey : Result Surveyed Refusal) (s : verdict_of survey ≡ first_of (site_tests st site)) where
    surveyed : first_of (trace_tests st site q (length room)) ≡ verdict_of survey
    surveyed = first-passed (asking_tests q (length room)) (site_tests st site) e ∙ sym s

    pub site-refused : {r : Refusal} {answer : Result Traced Refusal} → survey ≡ Err r → answer ≡ Err r → DidTrace st site q room answer room
    site-refused {r} f a = did-trace (Err r) (surveyed ∙ ap verdict_of f) a refl

    pub trace-listed : {answer : Traced} {room' : List ℕ} → {t : Surveyed} → survey ≡ Ok t → DidList st site q room answer room' → DidTrace st site q room (Ok answer) room'
    trace-listed f l = did-trace (Ok tt) (surveyed ∙ ap verdict_of f) l.answered l.left

-- two outcomes that the contract allows coincide
pub traced-one : {st : Stores} {site : List ℕ} {q : Query} {room : List ℕ} {r₁ r₂ : Result Traced Refusal} {a₁ a₂ : List ℕ}
    → DidTrace st site q room r₁ a₁ → DidTrace st site q room r₂ a₂ → (r₁ ≡ r₂) × (a₁ ≡ a₂)
traced-one x y = (x.answered ∙ sym y.answered, x.left ∙ sym y.left)
