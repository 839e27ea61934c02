-- The entries of the lines so far stand at the front of the room, three octets for each line that is reached.
use Prim.Native.Nat.{ℕ, zero, suc, ◌+◌, ◌-◌, ◌*◌, ◌≤◌, ◌<◌}
use mathlib.Core.Bool.{cond}
use mathlib.Core.List.{List, [], ◌∷◌, append-nil}
use mathlib.Core.Path.{◌≡◌, refl, sym, ◌∙◌}
use native.Mathlib.Nat.{add-zero}
use native.Mathlib.Numerals.{add-one}
use native.Mathlib.Omega.{arith}
use lib.Dec.{leb}
use lib.ListN.{length, get_or, length-append, take-append-drop}
use borrow.Author.Tests.{lt-ltb}
use Rattle.octets.proofs.Room.{laid-behind}
use Rattle.octets.proofs.Truth.{by_cases}
use Rattle.octets.specs.Room.{laid, over}
use Rattle.tracer.proofs.ReachingLaws.{count_most}
use Rattle.tracer.specs.Query.{on_arrival}
use Rattle.tracer.specs.Listing.{each_below, count_below}
use Rattle.tracer.specs.declared.Query.{Query}
use Rattle.tracer.specs.Reaching.{is_reached, entry_by}

laid_none : (from : ℕ) (room : List ℕ) → laid [] from room ≡ room
unfolding laid
laid_none from room = rw (add-zero from, append-nil, take-append-drop) (by_cases (leb from (length room)) (λ e. rw e refl) (λ e. rw e refl))

-- what is made of one line
module _ (q : Query) (line listed : ℕ) (lines room : List ℕ) where
  pub line-none : get_or lines line 0 ≡ 0 → (listed ≡ listed + cond (is_reached lines line) 1 0) × (room ≡ laid (entry_by q lines line) (listed * 3) room)
  unfolding is_reached entry_by
  line-none e = rw e (omega arith, sym (laid_none (listed * 3) room))

  pub line-laid : {a : ℕ} {room' : List ℕ} → (get_or lines line 0 ≡ 0 → ⊥) → a ≡ on_arrival q (get_or lines line 0 - 1)
      → room' ≡ laid (line ∷ a ∷ (get_or lines line 0 - 1) ∷ []) (listed * 3) room
      → (listed + 1 ≡ listed + cond (is_reached lines line) 1 0) × (room' ≡ laid (entry_by q lines line) (listed * 3) room)
  unfolding is_reached entry_by
  line-laid d e l = rw (lt-ltb 0 (get_or lines line 0) (omega (arith, d)), ← e) (refl, l)

three-each-by : (q : Query) (lines : List ℕ) (n : ℕ) → length (each_below (entry_by q lines) n) ≡ count_below (is_reached lines) n * 3
unfolding entry_by
three-each-by q lines zero = refl
three-each-by q lines (suc n) =
    rw (length-append, three-each-by q lines n)
    (by_cases (is_reached lines n) (λ e. rw e (omega arith)) (λ e. rw e (omega arith)))

-- the lines below i are listed
pub record Listing (q : Query) (lines room₀ room : List ℕ) (listed i : ℕ) : Type 0 where
  pub most : i ≤ 256
  pub few : listed ≤ i
  pub counted : listed ≡ count_below (is_reached lines) i
  pub same : length room ≡ length room₀
  pub holds : room ≡ over (each_below (entry_by q lines) i) room₀

pub listing_none : (q : Query) (lines room : List ℕ) → Listing q lines room room 0 0
listing_none q lines room = record { most = omega arith; few = omega arith; counted = refl; same = refl; holds = refl }

entry-most : (q : Query) (lines : List ℕ) (n : ℕ) → length (entry_by q lines n) ≤ 3
unfolding entry_by
entry-most q lines n = by_cases (is_reached lines n) (λ e. rw e (omega arith)) (λ e. rw e (omega arith))

pub listing-more : {q : Query} {lines room₀ room room' : List ℕ} {listed listed' i : ℕ} → 768 ≤ length room₀ → Listing q lines room₀ room listed i → i < 256
    → listed' ≡ listed + cond (is_reached lines i) 1 0 → room' ≡ laid (entry_by q lines i) (listed * 3) room → length room' ≡ length room
    → Listing q lines room₀ room' listed' (i + 1)
listing-more {q} {lines} {room₀} {room} {room'} {listed} {listed'} {i} big w h e l same =
    let H = each_below (entry_by q lines) i in
    let p = entry_by q lines i in
    let n : listed * 3 ≡ length H = rw w.counted (sym (three-each-by q lines i)) in
    let k : listed' ≡ count_below (is_reached lines) (suc i) = rw (← w.counted) e in
    record {
      most = omega arith;
      few = omega (arith, k, count_most (is_reached lines) (suc i));
      counted = rw (add-one i) k;
      same = same ∙ w.same;
      holds = rw (add-one i, length-append H p) (l ∙ rw (n, w.holds) (laid-behind H p room₀ (omega (arith, n, entry-most q lines i, w.few))));
    }

pub listing-all : {q : Query} {lines room₀ room : List ℕ} {listed i : ℕ} → Listing q lines room₀ room listed i → 256 ≤ i
    → (listed ≡ count_below (is_reached lines) 256) × (room ≡ over (each_below (entry_by q lines) 256) room₀)
listing-all {i = i} w h = let e : i ≡ 256 = omega (arith, w.most) in (rw e at w.counted, rw e at w.holds)
