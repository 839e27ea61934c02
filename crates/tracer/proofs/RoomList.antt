-- The list line by line: the listed lines in rising order, and the octets of each, one line's behind the other's. Two rising lists with the
-- same lines are one list, so what is said of the lines leaves one room only.
use Prim.Native.Nat.{ℕ, zero, suc, ◌+◌, ◌*◌, ◌≤◌, ◌<◌}
use mathlib.Core.Bool.{Bool, true, cond, ◌&&◌, ◌||◌}
use mathlib.Core.List.{List, [], ◌∷◌, ◌++◌, append-nil, append_assoc}
use mathlib.Core.Logic.{◌↔◌, ◌⊎◌, inl, inr, ⊎_elim}
use mathlib.Core.Path.{◌≡◌, refl, sym, ap, ◌∙◌}
use native.Mathlib.Omega.{arith}
use lib.Dec.{ltb, leb, eqb}
use lib.ListN.{length, get_or, take, drop, length-append, get_or-append}
use lib.Seq.{get_or-append_seam, drop-append-add, take_at}
use borrow.Author.Tests.{ltb-true, ltb-false, leb-true, eqb-true, eqb-false, lt-ltb, le-ltb, le-leb, eq-eqb}
use Rattle.octets.proofs.Truth.{by_cases, never, and-true, and-false, or_no, or_right}
use Rattle.site.specs.Stores.{Stores}
use Rattle.site.specs.WellFormed.{is_among}
use Rattle.tracer.specs.Lines.{Crossing, path, distance}
use Rattle.tracer.specs.Query.{on_arrival}
use Rattle.tracer.specs.Listing.{crossing_passes, all_pass, lasts, is_listed, entry, each_below, count_below, listed, lines_listed}
use Rattle.tracer.specs.declared.Query.{Query}

-- "in rising order, each once"
abbrev pub Rising : List ℕ → Type 0
Rising l = (i j : ℕ) → i < j → j < length l → get_or l i 0 < get_or l j 0

-- the octets of each line, one line's behind the other's
abbrev pub octets_of : (ℕ → List ℕ) → List ℕ → List ℕ
octets_of f [] = []
octets_of f (n ∷ ns) = f n ++ octets_of f ns

-- a number stands in a list at an index

at-index : (n : ℕ) (l : List ℕ) → is_among n l ≡ true → (i : ℕ) × ((i < length l) × (get_or l i 0 ≡ n))
at-index n [] e = never (sym e)
at-index n (m ∷ l) e =
    by_cases (eqb m n)
    (λ q. (0, (omega arith, eqb-true m n q)))
    (λ q. let x = at-index n l (rw q at e) in (suc x.0, (omega (arith, x.1.0), x.1.1)))

-- what is behind the first of a rising list is greater
rising-first : (a : ℕ) (l : List ℕ) → Rising (a ∷ l) → (n : ℕ) → is_among n l ≡ true → a < n
rising-first a l r n e = let x = at-index n l e in omega (arith, r 0 (suc x.0) (omega arith) (omega (arith, x.1.0)), x.1.1)

rising-rest : (a : ℕ) (l : List ℕ) → Rising (a ∷ l) → Rising l
rising-rest a l r i j h k = r (suc i) (suc j) (omega (arith, h)) (omega (arith, k))

among_first : (a : ℕ) (l : List ℕ) → is_among a (a ∷ l) ≡ true
among_first a l = rw (eq-eqb a a refl) refl

among-rest : (n a : ℕ) (l : List ℕ) → (a ≡ n → ⊥) → is_among n (a ∷ l) ≡ true → is_among n l ≡ true
among-rest n a l d e = by_cases (eqb a n) (λ q. absurd (d (eqb-true a n q))) (λ q. rw q at e)

-- two rising lists with the same numbers are the same
pub rising-one : (l m : List ℕ) → Rising l → Rising m → ((n : ℕ) → is_among n l ≡ true ↔ (is_among n m ≡ true)) → l ≡ m
rising-one [] [] r s w = refl
rising-one [] (b ∷ m) r s w = never (sym ((w b).1 (among_first b m)))
rising-one (a ∷ l) [] r s w = never (sym ((w a).0 (among_first a l)))
rising-one (a ∷ l) (b ∷ m) r s w =
    let below : b ≤ a = by_cases (eqb b a) (λ q. omega (arith, eqb-true b a q))
    (λ q. omega (arith, rising-first b m s a (among-rest a b m (eqb-false b a q) ((w a).0 (among_first a l))))) in
    let above : a ≤ b = by_cases (eqb a b) (λ q. omega (arith, eqb-true a b q))
    (λ q. omega (arith, rising-first a l r b (among-rest b a l (eqb-false a b q) ((w b).1 (among_first b m))))) in
    let same : a ≡ b = omega (arith, below, above) in
    let rest = rising-one l m (rising-rest a l r) (rising-rest b m s)
    (λ n. (
      (λ e. among-rest n b m (λ z. omega (arith, same, z, rising-first a l r n e)) ((w n).0 (or_right (eqb a n) (is_among n l) e))),
      (λ e. among-rest n a l (λ z. omega (arith, same, z, rising-first b m s n e)) ((w n).1 (or_right (eqb b n) (is_among n m) e))),
    )) in
    rw (same, rest) refl

octets-append : (f : ℕ → List ℕ) (l m : List ℕ) → octets_of f (l ++ m) ≡ octets_of f l ++ octets_of f m
octets-append f [] m = refl
octets-append f (n ∷ l) m = rw (octets-append f l m) (sym (append_assoc (f n) (octets_of f l) (octets_of f m)))

among-append : (n : ℕ) (l m : List ℕ) → is_among n (l ++ m) ≡ is_among n l || is_among n m
among-append n [] m = refl
among-append n (a ∷ l) m = by_cases (eqb a n) (λ e. rw e refl) (λ e. rw e (among-append n l m))

-- all of a list are below a number, and it rises: so it does with that number behind it
abbrev RisesTo : ℕ → List ℕ → Type 0
RisesTo n l = ((i : ℕ) → i < length l → get_or l i 0 < n) × Rising l

rises-more : (n : ℕ) (l : List ℕ) → RisesTo n l → RisesTo (suc n) (l ++ (n ∷ []))
rises-more n l p = (
  (λ i h.
      let m : i < length l + 1 = rw length-append at h in
      by_cases (eqb i (length l))
      (λ e. rw (eqb-true i (length l) e, get_or-append_seam) (omega arith))
      (λ e. let q = eqb-false i (length l) e in rw (kept i (omega (arith, q))) (omega (arith, p.0 i (omega (arith, q)))))),
  (λ i j h k.
      let m : j < length l + 1 = rw length-append at k in
      by_cases (eqb j (length l))
      (λ e. let q = eqb-true j (length l) e in rw (q, get_or-append_seam, kept i (omega (arith, q))) (p.0 i (omega (arith, q))))
      (λ e. let q = eqb-false j (length l) e in rw (kept i (omega (arith, q)), kept j (omega (arith, q))) (p.1 i j h (omega (arith, q))))),
)
  where
    kept : (i : ℕ) → i < length l → get_or (l ++ (n ∷ [])) i 0 ≡ get_or l i 0
    kept i h = get_or-append l (n ∷ []) 0 i h

-- the numbers below another of which a test holds, in rising order
module _ (f : ℕ → Bool) where
  abbrev pub all_with : ℕ → List ℕ
  all_with zero = []
  all_with (suc n) = all_with n ++ cond (f n) (n ∷ []) []

  with-length : (n : ℕ) → length (all_with n) ≡ count_below f n
  with-length zero = refl
  with-length (suc n) = rw (length-append, with-length n) (by_cases (f n) (λ e. rw e refl) (λ e. rw e refl))

  with-rises : (n : ℕ) → RisesTo n (all_with n)
  with-rises zero = ((λ i h. absurd (omega arith)), (λ i j h k. absurd (omega arith)))
  with-rises (suc n) =
      let p = with-rises n in
      by_cases (f n)
      (λ e. rw e (rises-more n (all_with n) p))
      (λ e. rw (e, append-nil (all_with n)) ((λ i h. omega (arith, p.0 i h)), p.1))

  with-one : (t n : ℕ) → (f t && ltb t n) || is_among t (cond (f n) (n ∷ []) []) ≡ f t && ltb t (suc n)
  with-one t n =
      by_cases (eqb n t)
      (λ e. rw (eqb-true n t e, le-ltb t t (omega arith), lt-ltb t (suc t) (omega arith)) (by_cases (f t) (λ h. rw (h, eq-eqb t t refl) refl) (λ h. rw h refl)))
      (λ e.
      let q = eqb-false n t e in
      let less : ltb t n ≡ ltb t (suc n) = by_cases (ltb t n) (λ l. rw (l, lt-ltb t (suc n) (omega (arith, ltb-true t n l))) refl) (λ l. rw (l, le-ltb t (suc n) (omega (arith, ltb-false t n l, q))) refl) in
      rw less (by_cases (f n) (λ h. rw (h, e) (or_no (f t && ltb t (suc n)))) (λ h. rw h (or_no (f t && ltb t (suc n))))))

  with-has : (t n : ℕ) → is_among t (all_with n) ≡ f t && ltb t n
  with-has t zero = rw (le-ltb t 0 (omega arith), and-false) refl
  with-has t (suc n) = rw (among-append, with-has t n) (with-one t n)

  with-iff : (t n : ℕ) → is_among t (all_with n) ≡ true ↔ ((t < n) × (f t ≡ true))
  with-iff t n = (
    (λ e. let x = and-true (f t) (ltb t n) (sym (with-has t n) ∙ e) in (ltb-true t n x.1, x.0)),
    (λ x. with-has t n ∙ rw (x.1, lt-ltb t n x.0) refl),
  )

  with-octets : (g : ℕ → List ℕ) (n : ℕ) → each_below (λ t. cond (f t) (g t) []) n ≡ octets_of g (all_with n)
  with-octets g zero = refl
  with-octets g (suc n) =
      rw (octets-append, with-octets g n) (ap (λ (o : List ℕ). octets_of g (all_with n) ++ o) (by_cases (f n) (λ e. rw e (sym (append-nil (g n)))) (λ e. rw e refl)))

-- the three octets of a line stand where the line stands in the list, three times as far on
octets-at : (g : ℕ → List ℕ) → ((n : ℕ) → length (g n) ≡ 3) → (l rest : List ℕ) (i : ℕ) → i < length l → take 3 (drop (3 * i) (octets_of g l ++ rest)) ≡ g (get_or l i 0)
octets-at g three [] rest i h = absurd (omega arith)
octets-at g three (n ∷ l) rest zero h = rw (append_assoc (g n) (octets_of g l) rest) (take_at (g n) (octets_of g l ++ rest) 3 (three n))
octets-at g three (n ∷ l) rest (suc i) h =
    let k : 3 * suc i ≡ length (g n) + 3 * i = omega (arith, three n) in
    rw (append_assoc (g n) (octets_of g l) rest, k, drop-append-add) (octets-at g three l rest i (omega (arith, h)))

pub listed_at : (n : ℕ) (l : List ℕ) → is_among n l ≡ true → (g : ℕ → List ℕ) → ((n : ℕ) → length (g n) ≡ 3) → (rest : List ℕ)
    → (i : ℕ) × ((i < length l) × (take 3 (drop (3 * i) (octets_of g l ++ rest)) ≡ g n))
listed_at n l e g three rest =
    let x = at-index n l e in
    (x.0, (x.1.0, octets-at g three l rest x.0 x.1.0 ∙ ap g x.1.1))

-- "the count c is 7 or the distance d at most c"
pub lasts-iff : (c d : ℕ) → lasts c d ≡ true ↔ ((c ≡ 7) ⊎ (d ≤ c))
unfolding lasts
lasts-iff c d = (
  (λ e. by_cases (eqb c 7) (λ q. inl (eqb-true c 7 q)) (λ q. inr (leb-true d c (rw q at e)))),
  (λ x. ⊎_elim (λ q. rw (eq-eqb c 7 q) refl) (λ h. or_right (eqb c 7) (leb d c) (le-leb d c h)) x),
)

pub listed-iff : (f : Crossing → Bool) (s c t : ℕ) → is_listed f s c t ≡ true ↔ ((all_pass f (path s t) ≡ true) × ((c ≡ 7) ⊎ (length (path s t) ≤ c)))
unfolding is_listed distance
listed-iff f s c t = (
  (λ e. let x = and-true (all_pass f (path s t)) (lasts c (length (path s t))) e in (x.0, (lasts-iff c (length (path s t))).0 x.1)),
  (λ x. rw (x.0, (lasts-iff c (length (path s t))).1 x.1) refl),
)

-- the trace's own list
module _ (st : Stores) (site : List ℕ) (q : Query) where
  abbrev is_on : ℕ → Bool
  is_on = is_listed (crossing_passes st site q) q.start q.count

  abbrev pub lines_on : List ℕ
  lines_on = all_with is_on 256

  abbrev entry_of : ℕ → List ℕ
  entry_of line = line ∷ on_arrival q (length (path q.start line)) ∷ length (path q.start line) ∷ []

  pub lines-octets : listed st site q ≡ octets_of entry_of lines_on
  unfolding listed entry distance
  lines-octets = with-octets is_on entry_of 256

  pub lines-count : lines_listed st site q ≡ length lines_on
  unfolding lines_listed
  lines-count = sym (with-length is_on 256)

  pub lines-rise : Rising lines_on
  lines-rise = (with-rises is_on 256).1

  pub lines_are : (line : ℕ) → is_among line lines_on ≡ true
      ↔ ((line < 256) × ((all_pass (crossing_passes st site q) (path q.start line) ≡ true) × ((q.count ≡ 7) ⊎ (length (path q.start line) ≤ q.count))))
  lines_are line =
      let w = with-iff is_on line 256 in
      let l = listed-iff (crossing_passes st site q) q.start q.count line in
      ((λ e. ((w.0 e).0, l.0 (w.0 e).1)), (λ x. w.1 (x.0, l.1 x.1)))
