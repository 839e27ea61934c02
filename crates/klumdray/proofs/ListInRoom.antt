-- The list in a trace's room as the header's helpers read it, three octets from a place on: by induction over the lines, since the list grows
-- at its end.
use Rattle.std.specs.Prelude.{Result, Ok, Err}
use Prim.Native.Nat.{ℕ, zero, suc, ◌+◌, ◌*◌, ◌≤◌, ◌<◌}
use mathlib.Core.Bool.{Bool, true, false}
use mathlib.Core.List.{List, [], ◌∷◌, ◌++◌, append-nil}
use mathlib.Core.Path.{◌≡◌, refl, sym, ap, ◌∙◌}
use native.Mathlib.Omega.{arith}
use lib.Dec.{ltb, eqb}
use lib.ListN.{length, drop, get_or-append}
use lib.Seq.{get_or-append-add}
use borrow.Author.Tests.{ltb-true, ltb-false, eqb-true, eqb-false}
use Rattle.frame.specs.Order.{first_of}
use Rattle.klumdray.proofs.TracerNumbers.{trace-told, trace-counted}
use Rattle.klumdray.specs.Decoding.{listed_line, number_in, lines_in, ListedAt, ListReads}
use Rattle.klumdray.specs.Traces.{trace_through_tests, TracedThrough}
use Rattle.octets.proofs.Truth.{by_cases}
use Rattle.octets.specs.Octets.{octet_at}
use Rattle.octets.specs.Room.{over}
use Rattle.site.specs.Stores.{Stores}
use Rattle.tracer.proofs.ListLaws.{three-each}
use Rattle.tracer.specs.Lines.{Crossing, distance}
use Rattle.tracer.specs.Query.{on_arrival}
use Rattle.tracer.specs.Listing.{crossing_passes, is_listed, entry, each_below, count_below, listed, lines_listed}
use Rattle.tracer.specs.declared.Query.{Query}
use Rattle.tracer.specs.Tracing.{list_by}
use Rattle.frame.specs.declared.Refusal.{Refusal}

module _ (f : Crossing → Bool) (q : Query) where
  abbrev s : ℕ
  s = q.start

  abbrev c : ℕ
  c = q.count

  abbrev list : ℕ → List ℕ
  list n = each_below (entry f q) n

  abbrev count : ℕ → ℕ
  count n = count_below (is_listed f s c) n

  abbrev three : ℕ → List ℕ
  three n = n ∷ on_arrival q (distance s n) ∷ distance s n ∷ []

  listed-entry : (n : ℕ) → is_listed f s c n ≡ true → entry f q n ≡ three n
  unfolding entry
  listed-entry n e = rw e

  other-entry : (n : ℕ) → is_listed f s c n ≡ false → entry f q n ≡ []
  unfolding entry
  other-entry n e = rw e

  -- a place of the list is that place of a longer one
  kept_line : (l r : List ℕ) (place : ℕ) → place * 3 + 3 ≤ length l → listed_line (l ++ r) place ≡ listed_line l place
  kept_line l r place h = get_or-append l r 0 (3 * place) (omega arith)

  kept_at : (l r : List ℕ) (place : ℕ) → place * 3 + 3 ≤ length l → ListedAt f q l place → ListedAt f q (l ++ r) place
  kept_at l r place h x =
      let e : listed_line (l ++ r) place ≡ listed_line l place = kept_line l r place h in
      record {
        listed = rw e x.listed;
        arrives = rw e (get_or-append l r 0 (3 * place + 1) (omega arith) ∙ x.arrives);
        crossed = rw e (get_or-append l r 0 (3 * place + 2) (omega arith) ∙ x.crossed);
      }

  -- a line at the end of the list
  new-octet : (l : List ℕ) (k n i : ℕ) → length l ≡ k * 3 → octet_at (l ++ three n) (3 * k + i) ≡ octet_at (three n) i
  new-octet l k n i h = let e : 3 * k + i ≡ length l + i = omega arith in rw e (get_or-append-add l (three n) i 0)

  new_line : (l : List ℕ) (k n : ℕ) → length l ≡ k * 3 → listed_line (l ++ three n) k ≡ n
  new_line l k n h = let e : 3 * k ≡ length l + 0 = omega arith in rw e (get_or-append-add l (three n) 0 0)

  new-at : (l : List ℕ) (k n : ℕ) → length l ≡ k * 3 → is_listed f s c n ≡ true → ListedAt f q (l ++ three n) k
  new-at l k n h q =
      let e : listed_line (l ++ three n) k ≡ n = new_line l k n h in
      record { listed = rw e q; arrives = rw e (new-octet l k n 1 h); crossed = rw e (new-octet l k n 2 h) }

  at_place : (n place : ℕ) → place < count n → (listed_line (list n) place < n) × ListedAt f q (list n) place
  at_place zero place h = absurd (omega arith)
  at_place (suc n) place h =
      by_cases (is_listed f s c n)
      (λ e. rw (listed-entry n e)
      (by_cases (ltb place (count n))
      (λ l.
      let x = at_place n place (ltb-true place (count n) l) in
      let fits : place * 3 + 3 ≤ length (list n) = omega (arith, three-each f q n, ltb-true place (count n) l) in
      (rw (kept_line (list n) (three n) place fits) (omega (arith, x.0)), kept_at (list n) (three n) place fits x.1))
      (λ l.
      let k : place ≡ count n = omega (arith, ltb-false place (count n) l, rw e at h) in
      rw k (rw (new_line (list n) (count n) n (three-each f q n)) (omega arith), new-at (list n) (count n) n (three-each f q n) e))))
      (λ e. rw (other-entry n e, append-nil (list n)) (let x = at_place n place (omega (arith, rw e at h)) in (omega (arith, x.0), x.1)))

  rising-places : (n i j : ℕ) → i < j → j < count n → listed_line (list n) i < listed_line (list n) j
  rising-places zero i j h k = absurd (omega arith)
  rising-places (suc n) i j h k =
      by_cases (is_listed f s c n)
      (λ e. rw (listed-entry n e)
      (by_cases (ltb j (count n))
      (λ l.
      let b : j < count n = ltb-true j (count n) l in
      rw (kept_line (list n) (three n) i (omega (arith, three-each f q n)), kept_line (list n) (three n) j (omega (arith, three-each f q n))) (rising-places n i j h b))
      (λ l.
      let m : j ≡ count n = omega (arith, ltb-false j (count n) l, rw e at k) in
      rw (m, kept_line (list n) (three n) i (omega (arith, three-each f q n)), new_line (list n) (count n) n (three-each f q n)) (at_place n i (omega arith)).0)))
      (λ e. rw (other-entry n e, append-nil (list n)) (rising-places n i j h (omega (arith, rw e at k))))

  has-place : (n line : ℕ) → line < n → is_listed f s c line ≡ true → (place : ℕ) × ((place < count n) × (listed_line (list n) place ≡ line))
  has-place zero line h e = absurd (omega arith)
  has-place (suc n) line h e =
      by_cases (eqb line n)
      (λ same.
      let w : line ≡ n = eqb-true line n same in
      let g : is_listed f s c n ≡ true = ap (is_listed f s c) (sym w) ∙ e in
      rw (listed-entry n g) (count n, (rw g (omega arith), new_line (list n) (count n) n (three-each f q n) ∙ sym w)))
      (λ same.
      let d : line ≡ n → ⊥ = eqb-false line n same in
      let x = has-place n line (omega (arith, d)) e in
      (x.0, (omega (arith, x.1.0), kept_line (list n) (entry f q n) x.0 (omega (arith, x.1.0, three-each f q n)) ∙ x.1.1)))

  -- the same of a room that begins with the list
  module _ (n : ℕ) (behind : List ℕ) where
    room-line : (place : ℕ) → place < count n → listed_line (list n ++ behind) place ≡ listed_line (list n) place
    room-line place h = kept_line (list n) behind place (omega (arith, three-each f q n))

    room_at : (place : ℕ) → place < count n → (listed_line (list n ++ behind) place < n) × ListedAt f q (list n ++ behind) place
    room_at place h =
        let x = at_place n place h in
        (rw (room-line place h) x.0, kept_at (list n) behind place (omega (arith, three-each f q n)) x.1)

    room-rises : (i j : ℕ) → i < j → j < count n → listed_line (list n ++ behind) i < listed_line (list n ++ behind) j
    room-rises i j h k = rw (room-line i (omega arith), room-line j k) (rising-places n i j h k)

    room-has : (line : ℕ) → line < n → is_listed f s c line ≡ true → (place : ℕ) × ((place < count n) × (listed_line (list n ++ behind) place ≡ line))
    room-has line h e = let x = has-place n line h e in (x.0, (x.1.0, room-line x.0 x.1.0 ∙ x.1.1))

  list-is : (answer : ℕ) (behind : List ℕ) → lines_in answer ≡ count 256 → ListReads f q answer (list 256 ++ behind)
  list-is answer behind l = record {
    places = λ place h. room_at 256 behind place (rw l at h);
    rising = λ place later h k. room-rises 256 behind place later h (rw l at k);
    each = λ line h e. let x = room-has 256 behind line h e in (x.0, (rw l x.1.0, x.1.1));
  }

module _ (st : Stores) (site : List ℕ) (q : Query) {room : List ℕ} {answer : ℕ} {room' : List ℕ} (w : TracedThrough st site q room answer room') where
  pub trace-list : number_in answer ≡ 0 → ListReads (crossing_passes st site q) q answer room'
  unfolding listed lines_listed
  trace-list z = go (first_of (trace_through_tests st site q (length room))) refl
    where
      go : (v : Result (Unit {0}) Refusal) → first_of (trace_through_tests st site q (length room)) ≡ v → ListReads (crossing_passes st site q) q answer room'
      go (Ok _) e =
          let r : room' ≡ over (listed st site q) room = w.left ∙ ap (λ (v : Result (Unit {0}) Refusal). over (list_by st site q v) room) e in
          rw r (list-is (crossing_passes st site q) q answer (drop (length (listed st site q)) room) (trace-counted st site q w e).0)
      go (Err r) e = absurd ((trace-told st site q w).accepted.0 z r e)
