-- What a planner asks: starting line, "kind (0 individual, 1 group)", destination, count; and the count on its way.
use Rattle.std.specs.Prelude.{ℕ, ◌-◌, Bool, cond, ◌&&◌, leb}
use Rattle.passing.specs.Passing.{stays, hopped}
use Rattle.tracer.specs.declared.Query.{Query}

abbrev pub query_of : ℕ → ℕ → ℕ → ℕ → Query
query_of start kind destination count = record { start = start; kind = kind; destination = destination; count = count }

-- "14 (kind, count)"
abbrev pub is_query : Query → Bool
is_query q = leb q.kind 1 && leb q.count 7

-- the count with which a coupler hands the telegram on: "its count follows the rule of demand 2"
abbrev pub hopped_in : Query → ℕ → ℕ
hopped_in q count = hopped count

-- "count on arrival (7, or c minus d)"
unfoldable pub on_arrival : Query → ℕ → ℕ
on_arrival q crossed = cond (stays q.count) 7 (q.count - crossed)
