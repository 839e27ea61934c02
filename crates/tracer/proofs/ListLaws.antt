-- The list and its numbers: the starting line is listed, each listed line has three octets, and each of them but the starting line was put
-- there by one forwarding.
use Prim.Native.Nat.{ℕ, zero, suc, ◌+◌, ◌-◌, ◌*◌, ◌<◌}
use mathlib.Core.Bool.{Bool, true, cond}
use mathlib.Core.List.{List}
use mathlib.Core.Path.{◌≡◌, refl, sym, ap}
use native.Mathlib.Omega.{arith}
use lib.Dec.{ltb, eqb}
use lib.ListN.{length, length-append}
use borrow.Author.Tests.{ltb-true, ltb-false, eqb-true, eqb-false, lt-ltb, le-ltb}
use Rattle.octets.proofs.Truth.{by_cases, and_yes}
use Rattle.site.specs.Stores.{Stores}
use Rattle.tracer.proofs.CountLaws.{lasts-none}
use Rattle.tracer.proofs.Forwardings.{forwardings-listed}
use Rattle.tracer.proofs.Paths.{path-same, distance-same, distance-zero}
use Rattle.tracer.specs.Lines.{Crossing, distance}
use Rattle.tracer.specs.Listing.{crossing_passes, is_listed, entry, each_below, count_below, listed, lines_listed, forwardings_by, forwardings}
use Rattle.tracer.specs.declared.Query.{Query}
use Rattle.tracer.specs.Reaching.{is_forwarded_to}

module _ (f : Crossing → Bool) (q : Query) where
  abbrev s : ℕ
  s = q.start

  abbrev c : ℕ
  c = q.count

  -- the starting line is always listed
  pub start-listed : is_listed f s c s ≡ true
  unfolding is_listed
  start-listed = rw (path-same, distance-same s, lasts-none) refl

  pub three-each : (n : ℕ) → length (each_below (entry f q) n) ≡ count_below (is_listed f s c) n * 3
  unfolding entry
  three-each zero = refl
  three-each (suc n) =
      rw (length-append, three-each n) (by_cases (is_listed f s c n) (λ e. rw e (omega arith)) (λ e. rw e (omega arith)))

  -- each listed line but the starting line was put there by one forwarding
  forwarded-one : (n : ℕ) → cond (is_listed f s c n) 1 0 + cond (ltb s n) 1 0 ≡ cond (is_forwarded_to f s c n) 1 0 + cond (ltb s (suc n)) 1 0
  unfolding is_forwarded_to
  forwarded-one n =
      by_cases (eqb n s)
      (λ e. rw (eqb-true n s e, start-listed, distance-same s, le-ltb s s (omega arith), lt-ltb s (suc s) (omega arith)) refl)
      (λ e.
      let other = eqb-false n s e in
      let d : 0 < distance s n = by_cases (eqb (distance s n) 0) (λ z. absurd (other (sym (distance-zero s n (eqb-true (distance s n) 0 z))))) (λ z. omega (arith, eqb-false (distance s n) 0 z)) in
      rw (lt-ltb 0 (distance s n) d, and_yes)
      (by_cases (ltb s n)
      (λ l. rw (l, lt-ltb s (suc n) (omega (arith, ltb-true s n l))) refl)
      (λ l. rw (l, le-ltb s (suc n) (omega (arith, ltb-false s n l, other))) refl)))

  forwarded-each : (n : ℕ) → count_below (is_listed f s c) n ≡ count_below (is_forwarded_to f s c) n + cond (ltb s n) 1 0
  forwarded-each zero = rw (le-ltb s 0 (omega arith)) refl
  forwarded-each (suc n) = omega (arith, forwarded-each n, forwarded-one n)

  less_one : (n : ℕ) → s < n → count_below (is_forwarded_to f s c) n ≡ count_below (is_listed f s c) n - 1
  less_one n h = rw (forwarded-each n, lt-ltb s n h) (omega arith)

  -- so there is one line more than forwardings, and those lines are as many

  pub forwardings-and-one : s < 256 → count_below (is_listed f s c) 256 ≡ suc (forwardings_by f q)
  forwardings-and-one h = one (ap (λ (b : Bool). cond b 1 0) start-listed) (forwardings-listed f q h)
    where
      one : {k l n : ℕ} → k ≡ 1 → l ≡ k + n → l ≡ suc n
      one e g = omega arith

  pub forwarded-lines : s < 256 → count_below (is_forwarded_to f s c) 256 ≡ forwardings_by f q
  forwarded-lines h = same (less_one 256 h) (forwardings-and-one h)
    where
      same : {a b l : ℕ} → a ≡ l - 1 → l ≡ suc b → a ≡ b
      same d e = omega arith

-- the same of the trace's own list
module _ (st : Stores) (site : List ℕ) (q : Query) where
  pub trace-three-each : length (listed st site q) ≡ lines_listed st site q * 3
  unfolding listed lines_listed
  trace-three-each = three-each (crossing_passes st site q) q 256

  -- "which is the number of listed lines less one"

  pub trace-and-one : q.start < 256 → lines_listed st site q ≡ suc (forwardings st site q)
  unfolding forwardings lines_listed
  trace-and-one = forwardings-and-one (crossing_passes st site q) q

  pub trace-less-one : q.start < 256 → forwardings st site q ≡ lines_listed st site q - 1
  trace-less-one h = omega (arith, trace-and-one h)
