-- Octets of two lists that are the same, place by place: by fours side by side in one number, and one list being the other.
use Prim.Native.Nat.{ℕ, zero, suc, ◌+◌, ◌*◌, ◌≤◌, ◌<◌}
use mathlib.Core.Bool.{Bool, true, false, ◌&&◌}
use mathlib.Core.List.{List, ◌∷◌, ◌++◌}
use mathlib.Core.Logic.{◌↔◌}
use mathlib.Core.Path.{◌≡◌, refl, sym, ap, ap₂, ◌∙◌}
use native.Mathlib.Nat.{add-zero, zero-add}
use native.Mathlib.Omega.{arith}
use lib.Dec.{eqb}
use lib.ListN.{length, get_or, take, drop, take-append-drop}
use lib.Seq.{ext_get_or}
use borrow.Author.Tests.{eq-eqb, ne_eqb, eqb-true, eqb-false}
use Rattle.octets.specs.Octets.{octet_at, Octets}
use Rattle.octets.proofs.Truth.{by_cases, and-true, and_yes}
use Rattle.octets.proofs.Split.{firsts, take-firsts}
use Rattle.octets.proofs.Fours.{four_at}

-- whether n octets from an index on are the same
abbrev pub alike : ℕ → ℕ → List ℕ → List ℕ → Bool
alike zero i s t = true
alike (suc n) i s t = eqb (get_or s i 0) (get_or t i 0) && alike n (suc i) s t

and_then : (p q r : Bool) → (p && q) && r ≡ p && (q && r)
and_then true q r = refl
and_then false q r = refl

pub alike-add : (m n i : ℕ) (s t : List ℕ) → alike m i s t && alike n (i + m) s t ≡ alike (m + n) i s t
alike-add zero n i s t = rw (zero-add, add-zero) refl
alike-add (suc m) n i s t =
    let e : suc m + n ≡ suc (m + n) = omega arith in
    let k : i + suc m ≡ suc i + m = omega arith in
    and_then (eqb (get_or s i 0) (get_or t i 0)) (alike m (suc i) s t) (alike n (i + suc m) s t)
    ∙ rw (e, k) (ap (λ (b : Bool). eqb (get_or s i 0) (get_or t i 0) && b) (alike-add m n (suc i) s t))

pub alike-iff : (n i : ℕ) (s t : List ℕ) → alike n i s t ≡ true ↔ (firsts n i s ≡ firsts n i t)
alike-iff n i s t = (to n i, from n i)
  where
    to : (n i : ℕ) → alike n i s t ≡ true → firsts n i s ≡ firsts n i t
    to zero i e = refl
    to (suc n) i e =
        let q = and-true (eqb (get_or s i 0) (get_or t i 0)) (alike n (suc i) s t) e in
        ap₂ (λ (o : ℕ) (l : List ℕ). o ∷ l) (eqb-true (get_or s i 0) (get_or t i 0) q.0) (to n (suc i) q.1)

    from : (n i : ℕ) → firsts n i s ≡ firsts n i t → alike n i s t ≡ true
    from zero i e = refl
    from (suc n) i e = rw (eq-eqb (get_or s i 0) (get_or t i 0) (ap (λ (l : List ℕ). get_or l 0 0) e)) (from n (suc i) (ap (drop 1) e))

-- the lowest octet of two numbers, and what is above it
above : (a b x y : ℕ) → a < 256 → b < 256 → eqb (a + x * 256) (b + y * 256) ≡ eqb a b && eqb x y
above a b x y ha hb =
    by_cases (eqb a b)
    (λ e.
    let k : a ≡ b = eqb-true a b e in
    by_cases (eqb x y)
    (λ f. let l : x ≡ y = eqb-true x y f in eq-eqb (a + x * 256) (b + y * 256) (omega arith) ∙ sym (rw (e, f) refl))
    (λ f. let l : x ≡ y → ⊥ = eqb-false x y f in ne_eqb (a + x * 256) (b + y * 256) (λ z. l (omega arith)) ∙ sym (rw (e, f) refl)))
    (λ e. let k : a ≡ b → ⊥ = eqb-false a b e in ne_eqb (a + x * 256) (b + y * 256) (λ z. k (omega arith)) ∙ sym (rw e refl))

-- four octets side by side
pub four-alike : (s t : List ℕ) → Octets s → Octets t → (i : ℕ) → eqb (four_at s i) (four_at t i) ≡ alike 4 i s t
four-alike s t o p i =
    let a : i + 1 ≡ suc i = omega arith in
    let b : i + 2 ≡ suc (suc i) = omega arith in
    let c : i + 3 ≡ suc (suc (suc i)) = omega arith in
    above (get_or s i 0) (get_or t i 0) _ _ (o i) (p i)
    ∙ ap (λ (r : Bool). eqb (get_or s i 0) (get_or t i 0) && r) (above (get_or s (i + 1) 0) (get_or t (i + 1) 0) _ _ (o (i + 1)) (p (i + 1))
    ∙ ap (λ (r : Bool). eqb (get_or s (i + 1) 0) (get_or t (i + 1) 0) && r) (above (get_or s (i + 2) 0) (get_or t (i + 2) 0) _ _ (o (i + 2)) (p (i + 2))))
    ∙ rw (a, b, c, and_yes) refl

-- a turn more
pub more_alike : (s t : List ℕ) → Octets s → Octets t → (b : Bool) (turn : ℕ) → b ≡ alike (turn * 4) 0 s t
    → b && eqb (four_at s (turn * 4)) (four_at t (turn * 4)) ≡ alike ((turn + 1) * 4) 0 s t
more_alike s t o p b turn e =
    let n : (turn + 1) * 4 ≡ turn * 4 + 4 = omega arith in
    rw n (ap₂ ◌&&◌ e (four-alike s t o p (turn * 4)) ∙ rw zero-add at (alike-add (turn * 4) 4 0 s t))

-- as a part of a list
pub alike-take : (n : ℕ) (s t : List ℕ) → n ≤ length s → n ≤ length t → alike n 0 s t ≡ true ↔ (take n s ≡ take n t)
alike-take n s t h k = rw (take-firsts n s h, take-firsts n t k) (alike-iff n 0 s t)

-- a list is known by its length and its octets
pub by-octets : (s t : List ℕ) → s ≡ t ↔ ((length s ≡ length t) × ((i : ℕ) → octet_at s i ≡ octet_at t i))
by-octets s t = ((λ e. (ap length e, λ i. ap (λ (l : List ℕ). octet_at l i) e)), (λ (n, f). ext_get_or 0 s t n (λ i h. f i)))

pub told-by : {A B C : Type 0} → A ↔ B → B ↔ C → A ↔ C
told-by f g = ((λ a. g.0 (f.0 a)), (λ c. f.1 (g.1 c)))

-- by its first octets and those behind them
pub parts_same : (n : ℕ) (s t : List ℕ) (a b : Bool) → (a ≡ true ↔ (take n s ≡ take n t)) → (b ≡ true ↔ (drop n s ≡ drop n t))
    → a && b ≡ true ↔ ((length s ≡ length t) × ((i : ℕ) → octet_at s i ≡ octet_at t i))
parts_same n s t a b f g = told-by (
  (λ e.
      let q = and-true a b e in
      sym (take-append-drop n s) ∙ ap₂ (λ (x y : List ℕ). x ++ y) (f.0 q.0) (g.0 q.1) ∙ take-append-drop n t),
  (λ e. rw (f.1 (ap (take n) e)) (g.1 (ap (drop n) e))),
) (by-octets s t)
