-- R-4: "after any series of accepted increments equals the start plus the sum of their values".
use Rattle.std.specs.Prelude.{ℕ, List, [], ◌∷◌, ◌≡◌, ℤ, pos, ◌+ℤ◌, Result, Ok, Err}
use Rattle.leak.specs.Float.{hundredths_of}
use Rattle.leak.specs.Total.{add_to}
use Rattle.frame.specs.declared.Refusal.{Refusal}

-- "the total stays" where an increment is refused
abbrev pub kept : ℤ → Result ℤ Refusal → ℤ
kept total (Ok s) = s
kept total (Err r) = total

-- an answer to each increment is what adding allows, of the total that the ones before have left
abbrev pub Follows : ℤ → List ℕ → List (Result ℤ Refusal) → Type 0
Follows total [] [] = Unit {0}
Follows total [] (a ∷ rest) = ⊥
Follows total (c ∷ cs) [] = ⊥
Follows total (c ∷ cs) (a ∷ rest) = (a ≡ add_to total c) × Follows (kept total a) cs rest

-- the total that the last answer has left
abbrev pub left : ℤ → List (Result ℤ Refusal) → ℤ
left total [] = total
left total (a ∷ rest) = left (kept total a) rest

-- the accepted ones: those whose answer is a sum
abbrev pub accepted_of : List ℕ → List (Result ℤ Refusal) → List ℕ
accepted_of [] rest = []
accepted_of (c ∷ cs) [] = []
accepted_of (c ∷ cs) (Ok s ∷ rest) = c ∷ accepted_of cs rest
accepted_of (c ∷ cs) (Err r ∷ rest) = accepted_of cs rest

-- "the sum of their values"
abbrev pub sum_of : List ℕ → ℤ
sum_of [] = pos 0
sum_of (c ∷ cs) = hundredths_of c +ℤ sum_of cs
