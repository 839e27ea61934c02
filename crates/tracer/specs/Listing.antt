-- Demand 3: a line is listed exactly if every coupler on the path from the starting line to it is fitted and lets the telegram pass in its
-- direction of travel, and the count c is 7 or the distance d at most c; in rising order, each once.
use Rattle.std.specs.Prelude.{ℕ, zero, suc, ◌+◌, ◌*◌, ◌<◌, Bool, true, not, cond, ◌&&◌, ◌||◌, List, [], ◌∷◌, ◌++◌, ◌≡◌, leb, eqb, take, drop}
use Rattle.site.specs.Letting.{line_lets_pass}
use Rattle.site.specs.Records.{records_of}
use Rattle.site.specs.Stores.{Stores}
use Rattle.tracer.specs.Query.{on_arrival}
use Rattle.tracer.specs.declared.Query.{Query}
use Rattle.tracer.specs.Lines.{Crossing, up, down, from_line, came_over, path, distance}

-- whether a site's coupler is fitted and lets the telegram pass in this direction of travel
abbrev pub crossing_passes : Stores → List ℕ → Query → Crossing → Bool
crossing_passes st site q x = line_lets_pass st q.kind q.destination (records_of site) x.direction x.line

abbrev pub all_pass : (Crossing → Bool) → List Crossing → Bool
all_pass f [] = true
all_pass f (x ∷ xs) = f x && all_pass f xs

-- "c is 7 or d at most c"
unfoldable pub lasts : ℕ → ℕ → Bool
lasts count crossed = eqb count 7 || leb crossed count

unfoldable pub is_listed : (Crossing → Bool) → ℕ → ℕ → ℕ → Bool
is_listed f start count line = all_pass f (path start line) && lasts count (distance start line)

-- "Each listed line takes three octets: line, count on arrival (7, or c minus d), couplers crossed."
unfoldable pub entry : (Crossing → Bool) → Query → ℕ → List ℕ
entry f q line =
    cond (is_listed f q.start q.count line) (line ∷ on_arrival q (distance q.start line) ∷ distance q.start line ∷ []) []

-- these three stand in a room, in one of its first places
pub record StandsIn (room : List ℕ) (places line count crossed : ℕ) : Type 0 where
  pub place : ℕ
  pub among : place < places
  pub three : take 3 (drop (place * 3) room) ≡ line ∷ count ∷ crossed ∷ []

-- the lines below a number, in rising order: their entries, and how many of them are such
abbrev pub each_below : (ℕ → List ℕ) → ℕ → List ℕ
each_below f zero = []
each_below f (suc n) = each_below f n ++ f n

abbrev pub count_below : (ℕ → Bool) → ℕ → ℕ
count_below f zero = 0
count_below f (suc n) = count_below f n + cond (f n) 1 0

-- "All 256 lines exist"
unfoldable pub listed : Stores → List ℕ → Query → List ℕ
listed st site q = each_below (entry (crossing_passes st site q) q) 256

unfoldable pub lines_listed : Stores → List ℕ → Query → ℕ
lines_listed st site q = count_below (is_listed (crossing_passes st site q) q.start q.count) 256

-- "the number of forwardings made on the site": a coupler makes one in a direction of travel if the telegram comes to the line that the
-- crossing leads from, and not over that very coupler, the coupler is fitted and lets it pass, and the count on arrival is not 0
unfoldable pub is_forwarding : (Crossing → Bool) → Query → Crossing → Bool
is_forwarding f q x =
    is_listed f q.start q.count (from_line x)
    && not (came_over (path q.start (from_line x)) x.line)
    && f x
    && not (eqb (on_arrival q (distance q.start (from_line x))) 0)

-- "Every line n from 01h to FFh may have a coupler"
abbrev pub couplers_with : (ℕ → Bool) → ℕ
couplers_with holds = count_below (λ n. holds (suc n)) 255

abbrev pub forwardings_by : (Crossing → Bool) → Query → ℕ
forwardings_by f q = couplers_with (λ n. is_forwarding f q (down n)) + couplers_with (λ n. is_forwarding f q (up n))

unfoldable pub forwardings : Stores → List ℕ → Query → ℕ
forwardings st site q = forwardings_by (crossing_passes st site q) q
