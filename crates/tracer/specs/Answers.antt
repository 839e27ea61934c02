-- The explanation of a line as document 01's number and values: none if it is reached, otherwise the reason's number, the coupler's line and
-- the direction of travel (0 main to sub, 1 sub to main).
use Rattle.std.specs.Prelude.{[], ◌∷◌, Result, Ok, Err, Option, Some, None}
use Rattle.passing.specs.Answers.{passage_number}
use Rattle.frame.specs.Answers.{Numbered, accepted, refused}
use Rattle.frame.specs.declared.Refusal.{Refusal}
use Rattle.tracer.specs.declared.Stop.{Stop}

abbrev pub explanation_numbered : Result (Option Stop) Refusal → Numbered
explanation_numbered (Ok None) = accepted []
explanation_numbered (Ok (Some stop)) = accepted (passage_number stop.reason ∷ stop.coupler ∷ stop.direction ∷ [])
explanation_numbered (Err r) = refused r
