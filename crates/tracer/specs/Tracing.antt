-- The trace: document 01, "Sites and the tracer".
use Rattle.std.specs.Prelude.{ℕ, not, List, [], ◌∷◌, ◌++◌, ◌≡◌, ltb, length, Result, Ok, Err}
use Rattle.frame.specs.Order.{Test, first_of, ◌gives◌}
use Rattle.frame.specs.declared.Refusal.{Refusal}
use Rattle.frame.specs.declared.Refusal.TheVariants.{SmallRoom, OutOfRange}
use Rattle.octets.specs.Room.{over}
use Rattle.site.specs.Stores.{Stores}
use Rattle.site.specs.WellFormed.{site_tests}
use Rattle.tracer.specs.Query.{is_query}
use Rattle.tracer.specs.Listing.{listed, lines_listed, forwardings}
use Rattle.tracer.specs.declared.Query.{Query}
use Rattle.tracer.specs.declared.Traced.{Traced}

-- "Order: 14 (kind, count), 13 (room below 768), 18 (store sizes), 16 (length), then record by record"
abbrev pub asking_tests : Query → ℕ → List Test
asking_tests q room =
    not (is_query q) gives OutOfRange
    ∷ ltb room 768 gives SmallRoom
    ∷ []

abbrev pub trace_tests : Stores → List ℕ → Query → ℕ → List Test
trace_tests st site q room = asking_tests q room ++ site_tests st site

-- what the call answers and what stands at the front of the room: on a refusal nothing else
abbrev pub traced_by : Stores → List ℕ → Query → Result (Unit {0}) Refusal → Result Traced Refusal
traced_by st site q (Ok _) = Ok (record { lines = lines_listed st site q; forwardings = forwardings st site q })
traced_by st site q (Err r) = Err r

abbrev pub list_by : Stores → List ℕ → Query → Result (Unit {0}) Refusal → List ℕ
list_by st site q (Ok _) = listed st site q
list_by st site q (Err r) = []

-- "Lent octets behind the list stay."
pub record DidTrace (st : Stores) (site : List ℕ) (q : Query) (room : List ℕ) (answer : Result Traced Refusal) (room' : List ℕ) : Type 0 where
  pub answered : answer ≡ traced_by st site q (first_of (trace_tests st site q (length room)))
  pub left : room' ≡ over (list_by st site q (first_of (trace_tests st site q (length room)))) room
