-- The forwardings are the listed lines less one. Down over its own coupler the telegram comes to every listed line that is not above the
-- starting line; up over the coupler of a line above the starting line it comes to the main side of that line; so each listed line but
-- the starting line is put on the list by one forwarding, and each forwarding puts one line there.
use Prim.Native.Nat.{ℕ, zero, suc, ◌+◌, ◌≤◌, ◌<◌}
use mathlib.Core.Bool.{Bool, true, false, not, cond, ◌&&◌}
use mathlib.Core.Path.{◌≡◌, refl, ◌∙◌}
use native.Mathlib.Omega.{arith}
use lib.Dec.{ltb, eqb}
use borrow.Author.Tests.{ltb-true, ltb-false, eqb-true, eqb-false, lt-ltb, le-ltb, eq-eqb, ne_eqb}
use Rattle.octets.proofs.Truth.{by_cases, not-not}
use Rattle.site.specs.WellFormed.{is_among}
use Rattle.tracer.proofs.Crossings.{forwarding-is}
use Rattle.tracer.proofs.Paths.{main-below, mains-zero, mains-cons, by-mains, on_below, over-own, over-main}
use Rattle.tracer.specs.declared.Query.{Query}
use Rattle.tracer.specs.Lines.{main_side, main_sides, Crossing, up, down}
use Rattle.tracer.specs.Listing.{is_listed, count_below, is_forwarding, forwardings_by}

pub count_same : (f g : ℕ → Bool) (n : ℕ) → ((i : ℕ) → i < n → f i ≡ g i) → count_below f n ≡ count_below g n
count_same f g zero h = refl
count_same f g (suc n) h = rw (count_same f g n (λ i l. h i (omega arith)), h n (omega arith)) refl

-- the first, and those after it
count-first : (f : ℕ → Bool) (n : ℕ) → count_below f (suc n) ≡ cond (f 0) 1 0 + count_below (λ i. f (suc i)) n
count-first f zero = omega arith
count-first f (suc n) = omega (arith, count-first f n)

-- those with a mark, and those without it
count-split : (p f : ℕ → Bool) (n : ℕ) → count_below f n ≡ count_below (λ i. not (p i) && f i) n + count_below (λ i. p i && f i) n
count-split p f zero = refl
count-split p f (suc n) = by_cases (p n) (λ e. rw e (omega (arith, count-split p f n))) (λ e. rw e (omega (arith, count-split p f n)))

count_none : (f : ℕ → Bool) (n : ℕ) → ((i : ℕ) → f i ≡ false) → count_below f n ≡ 0
count_none f zero h = refl
count_none f (suc n) h = rw (h n) (omega (arith, count_none f n h))

-- one mark more
count-one : (p q f : ℕ → Bool) (k : ℕ) → p k ≡ true → q k ≡ false → ((i : ℕ) → (i ≡ k → ⊥) → p i ≡ q i)
    → (n : ℕ) → count_below (λ i. p i && f i) n ≡ cond (ltb k n && f k) 1 0 + count_below (λ i. q i && f i) n
count-one p q f k a b same zero = rw (le-ltb k 0 (omega arith)) refl
count-one p q f k a b same (suc n) =
    let ih = count-one p q f k a b same n in
    by_cases (eqb n k)
    (λ e.
    let z : n ≡ k = eqb-true n k e in
    let no : ltb k n ≡ false = le-ltb k n (omega arith) in
    let c : count_below (λ i. p i && f i) n ≡ count_below (λ i. q i && f i) n = ih ∙ rw no (omega arith) in
    rw (c, z, a, b, lt-ltb k (suc k) (omega arith)) (omega arith))
    (λ e.
    let d : n ≡ k → ⊥ = eqb-false n k e in
    let t : ltb k (suc n) ≡ ltb k n = by_cases (ltb k n) (λ l. rw l (lt-ltb k (suc n) (omega (arith, ltb-true k n l)))) (λ l. rw l (le-ltb k (suc n) (omega (arith, ltb-false k n l, d)))) in
    rw (t, same n d) (omega (arith, ih)))

-- the lines above s, 00h left out: g of them, and g of their main sides
module _ (g : ℕ → Bool) (n : ℕ) where
  abbrev above : ℕ → ℕ → Bool
  above s i = is_among (suc i) (main_sides s)

  own_of : ℕ → ℕ
  own_of s = count_below (λ i. above s i && g (suc i)) n

  main_of : ℕ → ℕ
  main_of s = count_below (λ i. above s i && g (main_side (suc i))) n

  -- one line more above s: s itself
  above_more : (f : ℕ → Bool) (s k : ℕ) → s ≡ suc k → s ≤ n → count_below (λ i. above s i && f i) n ≡ cond (f k) 1 0 + count_below (λ i. above (main_side s) i && f i) n
  above_more f s k e h =
      let z : s ≡ 0 → ⊥ = λ y. omega arith in
      let a : above s k ≡ true = rw (mains-cons s z, eq-eqb s (suc k) e) refl in
      let b : above (main_side s) k ≡ false = by_cases (above (main_side s) k) (λ q. absurd (omega (arith, on_below (suc k) (main_side s) q, main-below s z))) (λ q. q) in
      let c : (i : ℕ) → (i ≡ k → ⊥) → above s i ≡ above (main_side s) i = λ i d. rw (mains-cons s z, ne_eqb s (suc i) (λ y. d (omega arith))) refl in
      count-one (above s) (above (main_side s)) f k a b c n ∙ rw (lt-ltb k n (omega arith)) refl

  main-each : (s : ℕ) → s ≤ n → cond (g 0) 1 0 + own_of s ≡ cond (g s) 1 0 + main_of s
  unfolding own_of main_of
  main-each =
      by-mains (λ s. s ≤ n → cond (g 0) 1 0 + own_of s ≡ cond (g s) 1 0 + main_of s)
      (λ h.
      let none : (i : ℕ) → above 0 i ≡ false = λ i. rw (mains-zero, ne_eqb 0 (suc i) (λ z. omega arith)) refl in
      rw (count_none (λ i. above 0 i && g (suc i)) n (λ i. rw (none i) refl), count_none (λ i. above 0 i && g (main_side (suc i))) n (λ i. rw (none i) refl)) refl)
      (λ s z ih h. go s z h (ih (omega (arith, main-below s z))))
    where
      go : (s : ℕ) → (s ≡ 0 → ⊥) → s ≤ n → cond (g 0) 1 0 + own_of (main_side s) ≡ cond (g (main_side s)) 1 0 + main_of (main_side s) → cond (g 0) 1 0 + own_of s ≡ cond (g s) 1 0 + main_of s
      go zero z h e = absurd (z refl)
      go (suc k) z h e = omega (arith, above_more (λ i. g (suc i)) (suc k) k refl h, above_more (λ i. g (main_side (suc i))) (suc k) k refl h, e)

module _ (f : Crossing → Bool) (q : Query) where
  abbrev s : ℕ
  s = q.start

  abbrev lists : ℕ → Bool
  lists = is_listed f s q.count

  forwarding-down : (n : ℕ) → (n ≡ 0 → ⊥) → is_forwarding f q (down n) ≡ not (is_among n (main_sides s)) && lists n
  forwarding-down n h = forwarding-is f q 0 n (omega arith) h ∙ rw (over-main s n h) refl

  forwarding-up : (n : ℕ) → (n ≡ 0 → ⊥) → is_forwarding f q (up n) ≡ is_among n (main_sides s) && lists (main_side n)
  forwarding-up n h = forwarding-is f q 1 n (omega arith) h ∙ rw (over-own s n h, not-not (is_among n (main_sides s))) refl

  forwardings-below : (n : ℕ) → s ≤ n
      → count_below lists (suc n) ≡ cond (lists s) 1 0 + (count_below (λ i. is_forwarding f q (down (suc i))) n + count_below (λ i. is_forwarding f q (up (suc i))) n)
  unfolding own_of main_of
  forwardings-below n h =
      let l : ℕ → Bool = lists in
      let a = count-first l n in
      let b = count-split (above l n s) (λ i. l (suc i)) n in
      let d = count_same (λ i. is_forwarding f q (down (suc i))) (λ i. not (above l n s i) && l (suc i)) n (λ i k. forwarding-down (suc i) (λ z. omega arith)) in
      let u = count_same (λ i. is_forwarding f q (up (suc i))) (λ i. above l n s i && l (main_side (suc i))) n (λ i k. forwarding-up (suc i) (λ z. omega arith)) in
      omega (arith, a, b, d, u, main-each l n s h)

  -- each listed line but the starting line by one forwarding, and each forwarding to one of them
  pub forwardings-listed : s < 256 → count_below lists 256 ≡ cond (lists s) 1 0 + forwardings_by f q
  forwardings-listed h = forwardings-below 255 (omega arith)
