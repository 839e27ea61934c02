-- How the tracer works its list out: for the contracts of its private functions. No public contract rests on these definitions.
-- A telegram on its way: how many lines it has been put on, the starting line being the first; 0 where it does not come.
use Rattle.std.specs.Prelude.{ℕ, suc, ◌-◌, ◌<◌, Bool, false, cond, ◌&&◌, List, [], ◌∷◌, ◌≡◌, ltb, length, get_or, Ok}
use Rattle.octets.specs.Room.{over}
use Rattle.site.specs.Stores.{Stores}
use Rattle.site.specs.WellFormed.{is_among}
use Rattle.tracer.specs.Lines.{main_side, main_sides, before_common, Crossing, up_over, path, distance}
use Rattle.tracer.specs.declared.Traced.{Traced}
use Rattle.tracer.specs.Tracing.{traced_by, list_by}
use Rattle.tracer.specs.Query.{on_arrival}
use Rattle.tracer.specs.Listing.{lasts, is_listed, count_below}
use Rattle.tracer.specs.declared.Query.{Query}

-- one coupler hands it on if it lets it pass and the count lasts
unfoldable pub handed : ℕ → ℕ → Bool → ℕ
handed count lines passes = cond (ltb 0 lines && passes && lasts count lines) (suc lines) 0

-- over the couplers of a path, one after the other
abbrev pub along : (Crossing → Bool) → ℕ → ℕ → List Crossing → ℕ
along f count lines [] = lines
along f count lines (x ∷ xs) = along f count (handed count lines (f x)) xs

unfoldable pub reach : (Crossing → Bool) → ℕ → ℕ → ℕ → ℕ
reach f start count line = along f count 1 (path start line)

-- what marks, by line and direction, say of a crossing
unfoldable pub marked : List (List Bool) → Crossing → Bool
marked marks x = get_or (get_or marks x.line []) x.direction false

-- the way up to a line that lies between the starting line and 00h
abbrev pub climbing : ℕ → ℕ → List Crossing
climbing start top = up_over (before_common (main_sides start) (top ∷ []))

-- a line is reached up that way, or down over its own coupler from its main side
unfoldable pub reach_by : List (List Bool) → List ℕ → ℕ → ℕ → ℕ → ℕ
reach_by marks lines start count line =
    cond (is_among line (main_sides start))
    (along (marked marks) count 1 (climbing start line))
    (handed count (get_or lines (main_side line) 0) (get_or (get_or marks line []) 0 false))

-- each forwarding puts the telegram on one line, over the last coupler of the path there
unfoldable pub is_forwarded_to : (Crossing → Bool) → ℕ → ℕ → ℕ → Bool
is_forwarded_to f start count line = is_listed f start count line && ltb 0 (distance start line)

-- what is known of every line, and how many forwardings were made
pub record Spread (f : Crossing → Bool) (start count : ℕ) (reached : List ℕ) (made : ℕ) : Type 0 where
  pub size : length reached ≡ 256
  pub each : (line : ℕ) → line < 256 → get_or reached line 0 ≡ reach f start count line
  pub forwarded : made ≡ count_below (is_forwarded_to f start count) 256

unfoldable pub is_reached : List ℕ → ℕ → Bool
is_reached lines line = ltb 0 (get_or lines line 0)

-- the three octets of a line, by how many lines the telegram has been put on
unfoldable pub entry_by : Query → List ℕ → ℕ → List ℕ
entry_by q lines line =
    cond (is_reached lines line) (line ∷ on_arrival q (get_or lines line 0 - 1) ∷ (get_or lines line 0 - 1) ∷ []) []

-- nothing refused: the list at the front of the room, "octets behind the list stay"
pub record DidList (st : Stores) (site : List ℕ) (q : Query) (room : List ℕ) (answer : Traced) (room' : List ℕ) : Type 0 where
  pub answered : Ok answer ≡ traced_by st site q (Ok tt)
  pub left : room' ≡ over (list_by st site q (Ok tt)) room
