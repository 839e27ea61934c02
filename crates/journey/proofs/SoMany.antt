-- How many crossings there are of which something is true: those that a test counts, main to sub first, numbered in rising order of their
-- lines; and no other number of them.
use Prim.Native.Nat.{ℕ, zero, suc, ◌+◌, ◌-◌, ◌≤◌, ◌<◌}
use mathlib.Core.Bool.{Bool, true, false, cond}
use mathlib.Core.Logic.{◌↔◌}
use mathlib.Core.Path.{◌≡◌, refl, sym, ap, ◌∙◌}
use native.Mathlib.Omega.{arith}
use lib.Dec.{ltb, eqb}
use borrow.Author.Tests.{ltb-true, ltb-false, eqb-true, eqb-false, lt-ltb, le-ltb}
use Rattle.journey.specs.Journey.{SoMany}
use Rattle.octets.proofs.Truth.{by_cases}
use Rattle.tracer.specs.Lines.{Crossing, crossing, up, down}
use Rattle.tracer.specs.Listing.{count_below}

-- the number that is the i-th of those below n that are such
nth : (ℕ → Bool) → ℕ → ℕ → ℕ
nth f zero i = 0
nth f (suc n) i = cond (ltb i (count_below f n)) (nth f n i) n

nth-such : (f : ℕ → Bool) (n i : ℕ) → i < count_below f n → (nth f n i < n) × (f (nth f n i) ≡ true)
unfolding nth
nth-such f zero i h = absurd (omega arith)
nth-such f (suc n) i h =
    by_cases (ltb i (count_below f n))
    (λ e. let y = nth-such f n i (ltb-true i (count_below f n) e) in rw e (omega (arith, y.0), y.1))
    (λ e. rw e (omega arith, by_cases (f n) (λ l. l) (λ l. absurd (omega (arith, ltb-false i (count_below f n) e, rw l at h)))))

-- it has so many before it
nth-place : (f : ℕ → Bool) (n i : ℕ) → i < count_below f n → count_below f (nth f n i) ≡ i
unfolding nth
nth-place f zero i h = absurd (omega arith)
nth-place f (suc n) i h =
    by_cases (ltb i (count_below f n))
    (λ e. rw e (nth-place f n i (ltb-true i (count_below f n) e)))
    (λ e. rw e (by_cases (f n) (λ l. omega (arith, ltb-false i (count_below f n) e, rw l at h)) (λ l. absurd (omega (arith, ltb-false i (count_below f n) e, rw l at h)))))

nth-all : (f : ℕ → Bool) (n k : ℕ) → k < n → f k ≡ true → (count_below f k < count_below f n) × (nth f n (count_below f k) ≡ k)
unfolding nth
nth-all f zero k h e = absurd (omega arith)
nth-all f (suc n) k h e =
    by_cases (eqb k n)
    (λ q.
    let z : k ≡ n = eqb-true k n q in
    let l : f n ≡ true = rw z at e in
    rw (z, l, le-ltb (count_below f n) (count_below f n) (omega arith)) (omega arith, refl))
    (λ q.
    let y = nth-all f n k (omega (arith, eqb-false k n q)) e in
    rw (lt-ltb (count_below f k) (count_below f n) y.0) (omega (arith, y.0), y.1))

-- a crossing in one of the two directions, over the coupler of a line from 01h on, of which a test holds
pub record Counted (n : ℕ) (h : Crossing → Bool) (x : Crossing) : Type 0 where
  pub side : x.direction < 2
  pub some : x.line ≡ 0 → ⊥
  pub most : x.line ≤ n
  pub holds : h x ≡ true

-- the couplers counted in each direction are so many crossings
module _ (P : Crossing → Type 0) (h : Crossing → Bool) (n : ℕ) (same : (x : Crossing) → P x ↔ Counted n h x) where
  abbrev downs : ℕ → Bool
  downs i = h (down (suc i))

  abbrev ups : ℕ → Bool
  ups i = h (up (suc i))

  abbrev down_count : ℕ
  down_count = count_below downs n

  -- those main to sub first
  numbered : ℕ → Crossing
  numbered i = cond (ltb i down_count) (down (suc (nth downs n i))) (up (suc (nth ups n (i - down_count))))

  is_down : (i : ℕ) → i < down_count → numbered i ≡ down (suc (nth downs n i))
  unfolding numbered
  is_down i l = rw (lt-ltb i down_count l) refl

  is_up : (i : ℕ) → down_count ≤ i → numbered i ≡ up (suc (nth ups n (i - down_count)))
  unfolding numbered
  is_up i l = rw (le-ltb i down_count l) refl

  numbered-such : (i : ℕ) → i < down_count + count_below ups n → P (numbered i)
  numbered-such i l =
      by_cases (ltb i down_count)
      (λ e.
      let k : i < down_count = ltb-true i down_count e in
      let y = nth-such downs n i k in
      rw (is_down i k) ((same (down (suc (nth downs n i)))).1 (record { side = omega arith; some = λ z. omega arith; most = omega (arith, y.0); holds = y.1 })))
      (λ e.
      let k : down_count ≤ i = ltb-false i down_count e in
      let y = nth-such ups n (i - down_count) (omega arith) in
      rw (is_up i k) ((same (up (suc (nth ups n (i - down_count))))).1 (record { side = omega arith; some = λ z. omega arith; most = omega (arith, y.0); holds = y.1 })))

  -- a crossing's number
  abbrev number_of : Crossing → ℕ
  number_of x = cond (eqb x.direction 0) (count_below downs (x.line - 1)) (down_count + count_below ups (x.line - 1))

  number-back : (i : ℕ) → i < down_count + count_below ups n → number_of (numbered i) ≡ i
  number-back i l =
      by_cases (ltb i down_count)
      (λ e.
      let k : i < down_count = ltb-true i down_count e in
      let z : suc (nth downs n i) - 1 ≡ nth downs n i = omega arith in
      ap number_of (is_down i k) ∙ ap (count_below downs) z ∙ nth-place downs n i k)
      (λ e.
      let k : down_count ≤ i = ltb-false i down_count e in
      let z : suc (nth ups n (i - down_count)) - 1 ≡ nth ups n (i - down_count) = omega arith in
      ap number_of (is_up i k) ∙ ap (λ (j : ℕ). down_count + count_below ups j) z ∙ omega (arith, nth-place ups n (i - down_count) (omega arith)))

  every-down : (k : ℕ) → suc k ≤ n → downs k ≡ true → (i : ℕ) × ((i < down_count + count_below ups n) × (numbered i ≡ down (suc k)))
  every-down k l e =
      let y = nth-all downs n k l e in
      (count_below downs k, (omega (arith, y.0), is_down (count_below downs k) y.0 ∙ ap (λ (j : ℕ). down (suc j)) y.1))

  every-up : (k : ℕ) → suc k ≤ n → ups k ≡ true → (i : ℕ) × ((i < down_count + count_below ups n) × (numbered i ≡ up (suc k)))
  every-up k l e =
      let y = nth-all ups n k l e in
      let i : ℕ = down_count + count_below ups k in
      let z : i - down_count ≡ count_below ups k = omega arith in
      (i, (omega (arith, y.0), is_up i (omega arith) ∙ ap (λ (j : ℕ). up (suc (nth ups n j))) z ∙ ap (λ (j : ℕ). up (suc j)) y.1))

  every : (side line : ℕ) → Counted n h (crossing side line) → (i : ℕ) × ((i < down_count + count_below ups n) × (numbered i ≡ crossing side line))
  every side zero x = absurd (x.some refl)
  every zero (suc k) x = every-down k x.most x.holds
  every (suc zero) (suc k) x = every-up k x.most x.holds
  every (suc (suc side)) (suc k) x = absurd (omega (arith, x.side))

  pub so-many : SoMany P (count_below downs n + count_below ups n)
  so-many = record {
    each = numbered;
    such = numbered-such;
    once = λ i j k l e. sym (number-back i k) ∙ ap number_of e ∙ number-back j l;
    all = λ x y. every x.direction x.line ((same x).0 y);
  }

-- so many are no fewer and no more: n numbers, all different and all below b, are at most b
few-below : (n b : ℕ) (f : ℕ → ℕ) → ((i : ℕ) → i < n → f i < b) → ((i j : ℕ) → i < n → j < n → f i ≡ f j → i ≡ j) → n ≤ b
few-below zero b f small once = omega arith
few-below (suc n) zero f small once = absurd (omega (arith, small n (omega arith)))
few-below (suc n) (suc b) f small once =
    let l = few-below n b g below apart in omega (arith, l)
  where
    -- f n put in the place of b
    g : ℕ → ℕ
    g i = cond (eqb (f i) b) (f n) (f i)

    other : (i : ℕ) → i < n → f i ≡ f n → ⊥
    other i l e = omega (arith, once i n (omega arith) (omega arith) e)

    below : (i : ℕ) → i < n → g i < b
    below i l =
        by_cases (eqb (f i) b)
        (λ e.
        let d : f n ≡ b → ⊥ = λ z. other i l (eqb-true (f i) b e ∙ sym z) in
        rw e (omega (arith, small n (omega arith), d)))
        (λ e. rw e (omega (arith, small i (omega arith), eqb-false (f i) b e)))

    apart : (i j : ℕ) → i < n → j < n → g i ≡ g j → i ≡ j
    apart i j l k =
        by_cases (eqb (f i) b)
        (λ d. by_cases (eqb (f j) b)
        (λ e. λ z. once i j (omega arith) (omega arith) (eqb-true (f i) b d ∙ sym (eqb-true (f j) b e)))
        (λ e. rw (d, e) (λ z. absurd (other j k (sym z)))))
        (λ d. by_cases (eqb (f j) b)
        (λ e. rw (d, e) (λ z. absurd (other i l z)))
        (λ e. rw (d, e) (λ z. once i j (omega arith) (omega arith) z)))

so-many-most : (P : Crossing → Type 0) (a b : ℕ) → SoMany P a → SoMany P b → a ≤ b
so-many-most P a b x y =
    few-below a b (λ i. place i (ltb i a) refl) (λ i l. (placed i (ltb i a) refl l).0)
    (λ i j l k e. x.once i j l k (sym (placed i (ltb i a) refl l).1 ∙ ap y.each e ∙ (placed j (ltb j a) refl k).1))
  where
    -- where the other numbering has it
    place : (i : ℕ) (known : Bool) → ltb i a ≡ known → ℕ
    place i true e = (y.all (x.each i) (x.such i (ltb-true i a e))).0
    place i false e = 0

    placed : (i : ℕ) (known : Bool) (e : ltb i a ≡ known) → i < a → (place i known e < b) × (y.each (place i known e) ≡ x.each i)
    placed i true e l = (y.all (x.each i) (x.such i (ltb-true i a e))).1
    placed i false e l = absurd (omega (arith, ltb-false i a e))

pub so-many-one : (P : Crossing → Type 0) (a b : ℕ) → SoMany P a → SoMany P b → a ≡ b
so-many-one P a b x y = omega (arith, so-many-most P a b x y, so-many-most P b a y x)
