-- One crossing more: over another coupler than the last of the path, a crossing makes the path longer by itself, and every path but the
-- empty one ends with such a crossing. What it asks of the list: the line before, the coupler and a count that is not used up.
use Prim.Native.Nat.{ℕ, zero, suc, ◌<◌}
use mathlib.Core.Bool.{Bool, true, false, not, ◌&&◌}
use mathlib.Core.List.{List, [], ◌∷◌, ◌++◌}
use mathlib.Core.Path.{◌≡◌, refl, sym, ap, ◌∙◌}
use native.Mathlib.Omega.{arith}
use lib.Dec.{eqb}
use lib.ListN.{length-append}
use borrow.Author.Tests.{not-false}
use Rattle.octets.proofs.Truth.{by_cases, never, and_yes, and-false}
use Rattle.site.specs.WellFormed.{is_among}
use Rattle.tracer.proofs.CountLaws.{lasts-more}
use Rattle.tracer.proofs.Paths.{on-zero, path-down, path-up, above_of, over-own, over-main, distance-four}
use Rattle.tracer.specs.Lines.{main_sides, Crossing, up, down, crossing, from_line, to_line, came_over, path, distance}
use Rattle.tracer.specs.Query.{on_arrival}
use Rattle.tracer.specs.Listing.{all_pass, lasts, is_listed, is_forwarding}
use Rattle.tracer.specs.declared.Query.{Query}

-- a crossing over another coupler than the last of the path from s leads away from s
pub goes_on : (s side n : ℕ) → side < 2 → (n ≡ 0 → ⊥) → came_over (path s (from_line (crossing side n))) n ≡ false
    → path s (to_line (crossing side n)) ≡ path s (from_line (crossing side n)) ++ (crossing side n ∷ [])
goes_on s zero n l h d = path-down s n (sym (over-main s n h) ∙ d)
goes_on s (suc zero) n l h d = path-up s n (not-false (is_among n (main_sides s)) (sym (over-own s n h) ∙ d)) h
goes_on s (suc (suc side)) n l h d = absurd (omega arith)

-- the last crossing of the path to a line other than s, and that it is such
pub record Last (s t : ℕ) : Type 0 where
  pub last : Crossing
  pub side : last.direction < 2
  pub leads : to_line last ≡ t
  pub longer : path s t ≡ path s (from_line last) ++ (last ∷ [])
  pub ahead : came_over (path s (from_line last)) last.line ≡ false

pub last_of : (s t : ℕ) → (s ≡ t → ⊥) → Last s t
last_of s t d =
    by_cases (is_among t (main_sides s))
    (λ q.
    let a = above_of s t q d in
    let n : ℕ = a.0 in
    record { last = up n; side = omega arith; leads = sym a.1.1.1; longer = ap (path s) a.1.1.1 ∙ path-up s n a.1.1.0 a.1.0; ahead = over-own s n a.1.0 ∙ ap not a.1.1.0 })
    (λ q.
    let h : t ≡ 0 → ⊥ = λ z. never (sym (on-zero s) ∙ ap (λ (x : ℕ). is_among x (main_sides s)) (sym z) ∙ q) in
    record { last = down t; side = omega arith; leads = refl; longer = path-down s t q; ahead = over-main s t h ∙ q })

-- what it asks of the list

pub all_append : (f : Crossing → Bool) (p q : List Crossing) → all_pass f (p ++ q) ≡ all_pass f p && all_pass f q
all_append f [] q = refl
all_append f (x ∷ p) q = by_cases (f x) (λ e. rw e (all_append f p q)) (λ e. rw e refl)

pub distance-more : (s t u : ℕ) (x : Crossing) → path s t ≡ path s u ++ (x ∷ []) → distance s t ≡ suc (distance s u)
unfolding distance
distance-more s t u x e = rw (e, length-append (path s u) (x ∷ [])) (omega arith)

-- a line is listed exactly if the line before it is, the coupler between lets the telegram pass and the count is not used up
pub listed_more : (f : Crossing → Bool) (q : Query) (t u : ℕ) (x : Crossing) → path q.start t ≡ path q.start u ++ (x ∷ [])
    → is_listed f q.start q.count t ≡ is_listed f q.start q.count u && f x && not (eqb (on_arrival q (distance q.start u)) 0)
unfolding is_listed
listed_more f q t u x e =
    let s : ℕ = q.start in
    rw (distance-more s t u x e, e, all_append f (path s u) (x ∷ []), and_yes (f x), lasts-more q (distance s u) (distance-four s u))
    (sorted (all_pass f (path s u)) (f x) (lasts q.count (distance s u)) (not (eqb (on_arrival q (distance s u)) 0)))
  where
    sorted : (a b c d : Bool) → a && b && (c && d) ≡ a && c && b && d
    sorted true true true d = refl
    sorted true true false d = refl
    sorted true false c d = sym (rw (and-false c) refl)
    sorted false b c d = refl

-- a coupler makes a forwarding exactly if it leads on to a line that is listed
pub forwarding-is : (f : Crossing → Bool) (q : Query) (side n : ℕ) → side < 2 → (n ≡ 0 → ⊥)
    → is_forwarding f q (crossing side n) ≡ not (came_over (path q.start (from_line (crossing side n))) n) && is_listed f q.start q.count (to_line (crossing side n))
unfolding is_forwarding
forwarding-is f q side n l h =
    let x : Crossing = crossing side n in
    let listed : Bool = is_listed f q.start q.count (from_line x) in
    by_cases (came_over (path q.start (from_line x)) n)
    (λ e. rw (e, and-false listed) refl)
    (λ e. rw (e, listed_more f q (to_line x) (from_line x) x (goes_on q.start side n l h e)) (yes listed (f x) _))
  where
    yes : (a b d : Bool) → a && true && b && d ≡ a && b && d
    yes true b d = refl
    yes false b d = refl
