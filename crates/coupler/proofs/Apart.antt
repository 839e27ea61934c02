-- What was heard is a frame or nothing, and one of either.
use Prim.Native.Nat.{ℕ}
use mathlib.Core.List.{List}
use mathlib.Core.Path.{◌≡◌}
use native.Mathlib.Omega.{arith}
use Rattle.coupler.specs.Step.{frame, nothing}
use Rattle.frame.specs.declared.Meaning.{Meaning}
use Rattle.frame.specs.declared.Refusal.{Refusal}

pub frame-nothing : {A : Type 0} {m : Meaning} {p : List ℕ} {r : Refusal} → nothing r ≡ frame m p → A
frame-nothing e = let z : ◌≡◌ {A = ℕ} 0 1 = cc in absurd (omega arith)

pub frame-one : {m n : Meaning} {p q : List ℕ} → frame m p ≡ frame n q → (m ≡ n) × (p ≡ q)
frame-one e = (cc, cc)

pub nothing-one : {q r : Refusal} → nothing q ≡ nothing r → q ≡ r
nothing-one e = cc
