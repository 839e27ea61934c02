-- What the tracer answers, as the numbers that cross the surface: include/klumdray.h says the same in its words.
use Rattle.std.specs.Prelude.{ℕ, ◌+◌, ◌*◌, ◌%◌, ◌^◌, Bool, not, ◌&&◌, List, ◌∷◌, ◌≡◌, ltb, length, Result, Ok, Err, Option, Some, None}
use Rattle.passing.specs.Answers.{passage_number}
use Rattle.frame.specs.Order.{Test, first_of, answer_by, ◌gives◌}
use Rattle.frame.specs.Refusals.{number}
use Rattle.frame.specs.declared.Refusal.TheVariants.{OutOfRange}
use Rattle.octets.specs.Room.{over}
use Rattle.site.specs.Stores.{Stores}
use Rattle.tracer.specs.declared.Query.{Query}
use Rattle.tracer.specs.Tracing.{trace_tests, traced_by, list_by}
use Rattle.tracer.specs.Why.{why_of, why_tests}
use Rattle.tracer.specs.declared.Traced.{Traced}
use Rattle.frame.specs.declared.Refusal.{Refusal}
use Rattle.tracer.specs.declared.Stop.{Stop}

-- bits 0 to 7: the refusal's number or 0; 8 to 23: how many lines are listed; 24 to 39: the forwardings made
unfoldable pub traced_number : Result Traced Refusal → ℕ
traced_number (Ok t) = t.lines % 65536 * 2 ^ 8 + t.forwardings % 65536 * 2 ^ 24
traced_number (Err r) = number r

-- bits 0 to 7: the refusal's number or 0; 8 to 15: the reason, 0 if the line is reached; 16 to 23: the coupler's line; 24: the direction of travel
abbrev pub explanation_number : Result (Option Stop) Refusal → ℕ
explanation_number (Ok None) = 0
explanation_number (Ok (Some stop)) = passage_number stop.reason * 2 ^ 8 + stop.coupler * 2 ^ 16 + stop.direction * 2 ^ 24
explanation_number (Err r) = number r

-- "start: the starting line, 00h to FFh", "destination: 0000h to FFFFh"; "kind: 0 individual, 1 group" and "count: .. 0 to 7" fit one octet:
-- the trace inside, which takes no more, tests their ranges
unfoldable pub query_fits : Query → Bool
query_fits q = ltb q.start 256 && ltb q.kind 256 && ltb q.destination 65536 && ltb q.count 256

-- "Refusals, the first that applies: one of these numbers (14), room (13), a store's size (18), ..": a number that does not fit, then the
-- order of the trace inside
abbrev pub trace_through_tests : Stores → List ℕ → Query → ℕ → List Test
trace_through_tests st site q room = not (query_fits q) gives OutOfRange ∷ trace_tests st site q room

-- a trace through the surface: the inner one's answer as a number, and the room as it leaves it
pub record TracedThrough (st : Stores) (site : List ℕ) (q : Query) (room : List ℕ) (answer : ℕ) (room' : List ℕ) : Type 0 where
  pub answered : answer ≡ traced_number (traced_by st site q (first_of (trace_through_tests st site q (length room))))
  pub left : room' ≡ over (list_by st site q (first_of (trace_through_tests st site q (length room)))) room

-- "line: 00h to FFh"; "Refusals: those of klumdray_trace in its order, the line among its numbers, without 13."
abbrev pub why_through_tests : Stores → List ℕ → Query → ℕ → List Test
why_through_tests st site q line = not (query_fits q && ltb line 256) gives OutOfRange ∷ why_tests st site q

-- an explanation through the surface: the inner one
unfoldable pub why_through : Stores → List ℕ → Query → ℕ → Result (Option Stop) Refusal
why_through st site q line = answer_by Err (why_of st site q line) (first_of (why_through_tests st site q line))
