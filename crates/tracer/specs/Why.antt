-- Why a line is not reached: the first coupler on the path that does not hand the telegram on, the direction of travel, and the reason.
-- A telegram on its way is going, with its count, or stopped.
use Rattle.std.specs.Prelude.{ℕ, not, cond, List, [], ◌∷◌, Result, Ok, Err, Option, Some, None}
use Rattle.passing.specs.Passing.{does_pass}
use Rattle.passing.specs.declared.Passage.{Passage}
use Rattle.frame.specs.Order.{Test, first_of, answer_by, ◌gives◌}
use Rattle.frame.specs.declared.Refusal.TheVariants.{OutOfRange}
use Rattle.site.specs.Letting.{passage_at}
use Rattle.site.specs.Records.{records_of}
use Rattle.site.specs.Stores.{Stores}
use Rattle.site.specs.WellFormed.{site_tests}
use Rattle.tracer.specs.Lines.{Crossing, path}
use Rattle.tracer.specs.declared.Query.{Query}
use Rattle.tracer.specs.Query.{is_query, hopped_in}
use Rattle.frame.specs.declared.Refusal.{Refusal}
use Rattle.tracer.specs.declared.Stop.{Stop}

-- one coupler: "its count follows the rule of demand 2"
abbrev pub goes_by : Query → ℕ → Crossing → Passage → Result ℕ Stop
goes_by q count x p = cond (does_pass p) (Ok (hopped_in q count)) (Err (record { coupler = x.line; direction = x.direction; reason = p }))

abbrev pub handed_on : Stores → List ℕ → Query → Result ℕ Stop → Crossing → Result ℕ Stop
handed_on st site q (Ok count) x = goes_by q count x (passage_at st q.kind q.destination (records_of site) x.direction x.line count)
handed_on st site q (Err stop) x = Err stop

-- the couplers of a path, one after the other
abbrev pub walked : Stores → List ℕ → Query → Result ℕ Stop → List Crossing → Result ℕ Stop
walked st site q w [] = w
walked st site q w (x ∷ xs) = walked st site q (handed_on st site q w x) xs

abbrev pub why_by : Result ℕ Stop → Result (Option Stop) Refusal
why_by (Ok count) = Ok None
why_by (Err stop) = Ok (Some stop)

unfoldable pub why_of : Stores → List ℕ → Query → ℕ → Result (Option Stop) Refusal
why_of st site q line = why_by (walked st site q (Ok q.count) (path q.start line))

-- the trace's order; no room is lent here
abbrev pub why_tests : Stores → List ℕ → Query → List Test
why_tests st site q = not (is_query q) gives OutOfRange ∷ site_tests st site

unfoldable pub answer_why : Stores → List ℕ → Query → ℕ → Result (Option Stop) Refusal
answer_why st site q line = answer_by Err (why_of st site q line) (first_of (why_tests st site q))
