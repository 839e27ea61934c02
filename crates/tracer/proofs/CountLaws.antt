-- The count on its way: how long it lasts, and what is left of it after some couplers.
use Prim.Native.Nat.{ℕ, suc, ◌+◌, ◌-◌, ◌≤◌, ◌<◌}
use mathlib.Core.Bool.{true, false, not, ◌&&◌}
use mathlib.Core.Path.{◌≡◌, refl, sym, ap, ◌∙◌}
use native.Mathlib.Numerals.{add-one}
use native.Mathlib.Omega.{arith}
use lib.Dec.{leb, eqb}
use borrow.Author.Tests.{leb-true, leb-false, eqb-true, eqb-false, le-leb, lt-leb, eq-eqb, ne_eqb}
use Rattle.octets.proofs.Truth.{by_cases}
use Rattle.tracer.specs.Query.{hopped_in, on_arrival}
use Rattle.tracer.specs.Listing.{lasts}
use Rattle.tracer.specs.declared.Query.{Query}

pub lasts-none : (c : ℕ) → lasts c 0 ≡ true
unfolding lasts
lasts-none c = rw (le-leb 0 c (omega arith)) (by_cases (eqb c 7) (λ e. rw e refl) (λ e. rw e refl))

-- a count that lasts for so many couplers lasts for fewer
pub lasts-less : (c d k : ℕ) → lasts c d ≡ false → lasts c (d + k) ≡ false
unfolding lasts
lasts-less c d k = by_cases (eqb c 7) (λ e. rw e (λ h. h)) (λ e. rw e (λ h. lt-leb (d + k) c (omega (arith, leb-false d c h))))

-- "7, or c minus d": what is left on a path, which has at most four couplers, is not used up exactly if the count lasts for one coupler more
pub left-lasts : (q : Query) (d : ℕ) → d ≤ 4 → lasts q.count d ≡ true → not (eqb (on_arrival q d) 0) ≡ lasts q.count (suc d)
unfolding lasts on_arrival
left-lasts q d few e =
    let c : ℕ = q.count in
    by_cases (eqb c 7)
    (λ s. rw s refl)
    (λ s.
    let h : d ≤ c = leb-true d c (rw s at e) in
    by_cases (leb (suc d) c)
    (λ l. rw (s, l, ne_eqb (c - d) 0 (λ z. omega (arith, leb-true (suc d) c l))) refl)
    (λ l. rw (s, l, eq-eqb (c - d) 0 (omega (arith, leb-false (suc d) c l))) refl))

pub lasts-more : (q : Query) (d : ℕ) → d ≤ 4 → lasts q.count (suc d) ≡ lasts q.count d && not (eqb (on_arrival q d) 0)
lasts-more q d few =
    by_cases (lasts q.count d)
    (λ e. rw e (sym (left-lasts q d few e)))
    (λ e. rw e (ap (lasts q.count) (sym (add-one d)) ∙ lasts-less q.count d 1 e))

-- nothing crossed, nothing taken away
pub arrival-none : (q : Query) → on_arrival q 0 ≡ q.count
unfolding on_arrival
arrival-none q = by_cases (eqb q.count 7) (λ e. rw e (sym (eqb-true q.count 7 e))) (λ e. rw e (omega arith))

pub arrival-below : (q : Query) (d : ℕ) → q.count < 8 → on_arrival q d < 8
unfolding on_arrival
arrival-below q d h = by_cases (eqb q.count 7) (λ e. rw e (omega arith)) (λ e. rw e (omega arith))

-- the hop rule takes away one
pub hopped-more : (q : Query) (d : ℕ) → q.count ≤ 7 → hopped_in q (on_arrival q d) ≡ on_arrival q (suc d)
unfolding on_arrival
hopped-more q d h =
    by_cases (eqb q.count 7)
    (λ e. rw e refl)
    (λ e. rw (e, ne_eqb (q.count - d) 7 (λ z. eqb-false q.count 7 e (omega arith))) (omega arith))
