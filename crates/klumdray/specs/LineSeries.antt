-- A series of frames that a station takes through the surface: each call is lent the blocks that the one before it left.
use Rattle.std.specs.Prelude.{ℕ, cond, List, [], ◌∷◌, eqb}
use Rattle.klumdray.specs.Decoding.{taken_in, code_in}
use Rattle.klumdray.specs.Litres.{TookFrame}

-- what a call leaves
pub record Took : Type 0 where
  pub answer : ℕ
  pub total : List ℕ
  pub memory : List ℕ

abbrev pub FollowsTaking : ℕ → List ℕ → List ℕ → List (List ℕ) → List Took → Type 0
FollowsTaking group total memory [] [] = Unit {0}
FollowsTaking group total memory [] (t ∷ ts) = ⊥
FollowsTaking group total memory (s ∷ ss) [] = ⊥
FollowsTaking group total memory (s ∷ ss) (t ∷ ts) = TookFrame total memory group s t.answer t.total t.memory × FollowsTaking group t.total t.memory ss ts

-- the total's block that the last call has left
abbrev pub last_total : List ℕ → List Took → List ℕ
last_total total [] = total
last_total total (t ∷ ts) = last_total t.total ts

-- the codes counted, as the answers tell them: klumdray_taken says counted, and klumdray_code which
abbrev pub counted_codes : List Took → List ℕ
counted_codes [] = []
counted_codes (t ∷ ts) = cond (eqb (taken_in t.answer) 1) (code_in t.answer ∷ counted_codes ts) (counted_codes ts)
