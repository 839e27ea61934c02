-- An answer and a refusal differ, and each loses nothing: of any result, and of an option.
use Rattle.std.specs.Prelude.{Result, Ok, Err, Option, Some, None}
use Prim.Native.Nat.{ℕ}
use mathlib.Core.Path.{◌≡◌}
use native.Mathlib.Omega.{arith}

module _ {V R : Type 0} where
  pub ok-err : {A : Type 0} {v : V} {r : R} → ◌≡◌ {A = Result V R} (Ok v) (Err r) → A
  ok-err e = let z : ◌≡◌ {A = ℕ} 0 1 = cc in absurd (omega arith)

  pub err-ok : {A : Type 0} {v : V} {r : R} → ◌≡◌ {A = Result V R} (Err r) (Ok v) → A
  err-ok e = let z : ◌≡◌ {A = ℕ} 0 1 = cc in absurd (omega arith)

  pub ok-one : {v w : V} → ◌≡◌ {A = Result V R} (Ok v) (Ok w) → v ≡ w
  ok-one e = cc

  pub err-one : {q r : R} → ◌≡◌ {A = Result V R} (Err q) (Err r) → q ≡ r
  err-one e = cc

pub none-some : {A V : Type 0} {v : V} → ◌≡◌ {A = Option V} None (Some v) → A
none-some e = let z : ◌≡◌ {A = ℕ} 0 1 = cc in absurd (omega arith)

pub some-one : {V : Type 0} {v w : V} → ◌≡◌ {A = Option V} (Some v) (Some w) → v ≡ w
some-one e = cc
