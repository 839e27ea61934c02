-- The checked forms of include/klumdray.h. That the tests are made of every two slices of which one is written, and 14 is given, is C.
use Prim.Native.Nat.{ℕ, ◌-◌}
use mathlib.Core.Bool.{Bool, true, false, cond, ◌&&◌}
use mathlib.Core.Logic.{◌↔◌}
use mathlib.Core.Path.{◌≡◌, refl}
use native.Mathlib.Omega.{arith}
use lib.Dec.{ltb, leb}
use borrow.Author.Tests.{ltb-true, leb-true, leb-false, lt-ltb}
use Rattle.octets.proofs.Truth.{and-true}
use Rattle.klumdray.specs.Decoding.{overlapping, InBoth}

-- "1 if two slices have an octet in common, else 0": the later of the two beginnings is such an octet
module _ (from n other m : ℕ) where
  abbrev tested : Bool → Bool
  tested before = cond before (ltb (other - from) n && ltb 0 m) (ltb (from - other) m && ltb 0 n)

  shared : (before : Bool) → leb from other ≡ before → tested before ≡ true → (place : ℕ) × InBoth from n other m place
  shared true l e =
      let t = and-true (ltb (other - from) n) (ltb 0 m) e in
      let h = leb-true from other l in
      let a = ltb-true (other - from) n t.0 in
      let b = ltb-true 0 m t.1 in
      (other, record { first = (h, omega (arith, a, h)); second = (omega arith, omega (arith, b)) })
  shared false l e =
      let t = and-true (ltb (from - other) m) (ltb 0 n) e in
      let h = leb-false from other l in
      let a = ltb-true (from - other) m t.0 in
      let b = ltb-true 0 n t.1 in
      (from, record { first = (omega arith, omega (arith, b)); second = (omega (arith, h), omega (arith, a, h)) })

  seen : (place : ℕ) → InBoth from n other m place → (before : Bool) → leb from other ≡ before → tested before ≡ true
  seen place x true l =
      let h = leb-true from other l in
      rw (lt-ltb (other - from) n (omega (arith, h, x.first.1, x.second.0)), lt-ltb 0 m (omega (arith, x.second.0, x.second.1)))
  seen place x false l =
      let h = leb-false from other l in
      rw (lt-ltb (from - other) m (omega (arith, h, x.first.0, x.second.1)), lt-ltb 0 n (omega (arith, x.first.0, x.first.1)))

  pub overlap-iff : overlapping from n other m ≡ true ↔ ((place : ℕ) × InBoth from n other m place)
  overlap-iff = (shared (leb from other) refl, λ x. seen x.0 x.1 (leb from other) refl)
