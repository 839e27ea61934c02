-- The trace's refusals, each exactly in its listed case: 14, then 13, then the site's own.
use Rattle.std.specs.Prelude.{Ok, Err}
use Prim.Native.Nat.{ℕ, ◌≤◌, ◌<◌}
use mathlib.Core.Bool.{true, false, not}
use mathlib.Core.List.{List, [], ◌∷◌}
use mathlib.Core.Logic.{◌↔◌}
use mathlib.Core.Path.{◌≡◌, refl}
use native.Mathlib.Omega.{arith}
use lib.Dec.{ltb}
use borrow.Author.Tests.{ltb-true, ltb-false, not-true, not-false, lt-ltb, le-ltb}
use Rattle.frame.specs.Order.{Test, first_of, NoneOf, FirstIs, ◌gives◌}
use Rattle.frame.specs.declared.Refusal.TheVariants.{SmallRoom, OutOfRange}
use Rattle.frame.specs.declared.Refusal.{Refusal}
use Rattle.site.proofs.Refusals.{site-are, gives-none-below}
use Rattle.site.specs.Stores.{Stores}
use Rattle.site.specs.WellFormed.{site_tests}
use Rattle.tracer.specs.declared.Query.{Query}
use Rattle.tracer.specs.Query.{is_query}
use Rattle.tracer.specs.Tracing.{trace_tests}
use Rattle.frame.proofs.Order.{passed-iff, refused-iff as order-iff, once-iff}

module _ (st : Stores) (site : List ℕ) (q : Query) (room : ℕ) where
  abbrev tests : List Test
  tests = trace_tests st site q room

  pub refused-14 : first_of tests ≡ Err OutOfRange ↔ (is_query q ≡ false)
  refused-14 =
      let w = once-iff [] (ltb room 768 gives SmallRoom ∷ site_tests st site) (not (is_query q)) OutOfRange refl (gives-none-below (site_tests st site) OutOfRange (site-are st site) (omega arith)) in
      ((λ e. not-true (is_query q) (w.0 e).1), λ e. w.1 (tt, rw e refl))

  pub refused-13 : first_of tests ≡ Err SmallRoom ↔ ((is_query q ≡ true) × (room < 768))
  refused-13 =
      let w = once-iff (not (is_query q) gives OutOfRange ∷ []) (site_tests st site) (ltb room 768) SmallRoom refl (gives-none-below (site_tests st site) SmallRoom (site-are st site) (omega arith)) in
      ((λ e. (not-false (is_query q) (w.0 e).0.0, ltb-true room 768 (w.0 e).1)), λ e. w.1 ((rw e.0 refl, tt), lt-ltb room 768 e.1))

  -- accepted exactly if kind and count are in range, the room is 768 or more, and the site is well-formed
  pub accepted-iff : first_of tests ≡ Ok tt ↔ ((is_query q ≡ true) × ((768 ≤ room) × NoneOf (site_tests st site)))
  accepted-iff = (
    (λ e. let n = (passed-iff tests).0 e in (not-false (is_query q) n.0, (ltb-false room 768 n.1.0, n.1.1))),
    (λ x. (passed-iff tests).1 (rw x.0 refl, (le-ltb room 768 x.1.0, x.1.1))),
  )

  -- the site's own refusals, where 14 and 13 do not come first
  pub refused-site : (r : Refusal) → is_query q ≡ true → 768 ≤ room → first_of tests ≡ Err r ↔ FirstIs (site_tests st site) r
  refused-site r a h = rw (a, le-ltb room 768 h) (order-iff (site_tests st site) r)
