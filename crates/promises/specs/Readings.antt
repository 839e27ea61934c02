-- What calls answered, as the theorems read it: a trace's two numbers, and the number of each answer in a series of steps through the surface.
use Rattle.std.specs.Prelude.{List, [], ◌∷◌, ◌≡◌, Result, Ok, Err}
use Rattle.frame.specs.Answers.{refusal_number}
use Rattle.frame.specs.declared.Refusal.{Refusal}
use Rattle.klumdray.specs.Decoding.{number_in, outcome_in}
use Rattle.klumdray.specs.Series.{Left}
use Rattle.tracer.specs.declared.Traced.{Traced}

-- "The result also carries the number of forwardings made on the site"; with a refusal no line is listed and no forwarding made
abbrev pub traced_in : Result Traced Refusal → Traced
traced_in (Ok t) = t
traced_in (Err r) = record { lines = 0; forwardings = 0 }

-- the number of each answer is the one of the refusal that is read back from it
abbrev pub AllTold : List Left → Type 0
AllTold [] = Unit {0}
AllTold (l ∷ ls) = (number_in l.answer ≡ refusal_number (outcome_in l.answer).refusal) × AllTold ls
