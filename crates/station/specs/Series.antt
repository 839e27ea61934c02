-- A series of frames on the line: the total and the remembered frame handed on from each to the next.
use Rattle.std.specs.Prelude.{ℕ, List, [], ◌∷◌, ◌≡◌, ℤ, Result, Ok, Err}
use Rattle.station.specs.declared.Telegram.{Telegram}
use Rattle.station.specs.declared.Telegram.TheVariants.{Increment, Repetition, OtherGroup, NoIncrement}
use Rattle.station.specs.declared.Tally.{Tally}
use Rattle.station.specs.Taking.{taken_by, kept_by}
use Rattle.frame.specs.declared.Refusal.{Refusal}

-- each answer is what taking allows, of the total and the frame that the ones before have left
abbrev pub Follows : ℕ → ℤ → List ℕ → List (List ℕ) → List Tally → Type 0
Follows group total remembered [] [] = Unit {0}
Follows group total remembered [] (t ∷ ts) = ⊥
Follows group total remembered (s ∷ ss) [] = ⊥
Follows group total remembered (s ∷ ss) (t ∷ ts) =
    (t ≡ taken_by total group remembered s) × Follows group t.total (kept_by t.telegram remembered s) ss ts

-- what taking gives, one after the other
abbrev pub takes : ℕ → ℤ → List ℕ → List (List ℕ) → List Tally
takes group total remembered [] = []
takes group total remembered (s ∷ ss) =
    let t = taken_by total group remembered s in
    t ∷ takes group t.total (kept_by t.telegram remembered s) ss

-- the total that the last answer has left
abbrev pub left : ℤ → List Tally → ℤ
left total [] = total
left total (t ∷ ts) = left t.total ts

-- the increments counted, as the answers tell them
abbrev pub counted_in : Result Telegram Refusal → List ℕ → List ℕ
counted_in (Ok (Increment code)) rest = code ∷ rest
counted_in (Ok Repetition) rest = rest
counted_in (Ok OtherGroup) rest = rest
counted_in (Ok NoIncrement) rest = rest
counted_in (Err r) rest = rest

abbrev pub counted : List Tally → List ℕ
counted [] = []
counted (t ∷ ts) = counted_in t.telegram (counted ts)
