-- The answers by their numbers and values: frame's law, cited.
use Rattle.std.specs.Prelude.{Result, Ok, Err}
use Prim.Native.Nat.{ℕ, suc}
use mathlib.Core.List.{List, [], ◌∷◌}
use mathlib.Core.Path.{◌≡◌, refl, ap}
use native.Mathlib.Omega.{arith}
use lib.IntN.{ℤ, pos, negsuc}
use lib.ListN.{get_or}
use Rattle.frame.proofs.Answers.{Split, Tells, answers, refuses, tells}
use Rattle.leak.specs.Answers.{signed_values, value_numbered, coded_numbered, added_numbered}
use Rattle.frame.specs.declared.Refusal.{Refusal}

-- a signed number is told by its sign and its size
pub signed-apart : (y z : ℤ) → signed_values y ≡ signed_values z → y ≡ z
signed-apart (pos a) (pos b) e = ap (λ (l : List ℕ). pos (get_or l 1 0)) e
signed-apart (pos a) (negsuc b) e = let z : ◌≡◌ {A = ℕ} 0 1 = ap (λ (l : List ℕ). get_or l 0 0) e in absurd (omega arith)
signed-apart (negsuc a) (pos b) e = let z : ◌≡◌ {A = ℕ} 1 0 = ap (λ (l : List ℕ). get_or l 0 0) e in absurd (omega arith)
signed-apart (negsuc a) (negsuc b) e = let z : suc a ≡ suc b = ap (λ (l : List ℕ). get_or l 1 0) e in ap negsuc (omega arith)

value-split : (v : Result ℤ Refusal) → Split Ok Err v
value-split (Ok z) = answers z refl
value-split (Err r) = refuses r refl

pub value_tells : Tells Err value_numbered
value_tells = tells Ok Err signed_values value_numbered value-split (λ z. refl) (λ r. refl) signed-apart

coded-split : (c : Result ℕ Refusal) → Split Ok Err c
coded-split (Ok c) = answers c refl
coded-split (Err r) = refuses r refl

pub coded-tells : Tells Err coded_numbered
coded-tells = tells Ok Err (λ c. c ∷ []) coded_numbered coded-split (λ c. refl) (λ r. refl) (λ a b e. ap (λ (l : List ℕ). get_or l 0 0) e)

added-split : (a : Result ℤ Refusal) → Split Ok Err a
added-split (Ok z) = answers z refl
added-split (Err r) = refuses r refl

pub added-tells : Tells Err added_numbered
added-tells = tells Ok Err signed_values added_numbered added-split (λ z. refl) (λ r. refl) signed-apart
