-- What the couplers of a site do: a first sending put on the starting line is handed on from line to line by each coupler's step, whatever
-- that coupler remembers, never back over the coupler by which it came. The backbone, line 00h, is TP1 or IP.
use Rattle.std.specs.Prelude.{ℕ, ◌≤◌, ◌<◌, Bool, true, false, not, cond, ◌&&◌, List, [], ◌∷◌, ◌++◌, ◌≡◌, length, take}
use Rattle.coupler.specs.Setting.{setting_of}
use Rattle.coupler.specs.Step.{Coupler, coupler_by, read_by, kind_of, indication, Did, frame}
use Rattle.coupler.specs.declared.Memory.{Memory}
use Rattle.coupler.specs.declared.Outcome.{Outcome}
use Rattle.frame.specs.declared.Meaning.{Meaning}
use Rattle.routing.specs.Layout.{routing_octets}
use Rattle.site.specs.Records.{records_of, line_of, codes_of, table_number, coupler_of, is_fitted}
use Rattle.site.specs.Stores.{Stores, table_of}
use Rattle.tp1.specs.Layout.{tp1_octets}
use Rattle.tracer.specs.Lines.{main_side, Crossing, from_line, to_line, came_over}
use Rattle.tracer.specs.Query.{query_of}
use Rattle.tracer.specs.declared.Query.{Query}

-- a site at work: its stores and records, what the coupler of each line remembers (anything, also what no frame is), and which lines are
-- meant to be IP
pub record AtWork : Type 0 where
  pub stores : Stores
  pub site : List ℕ
  pub memories : ℕ → Memory
  pub meant_ip : ℕ → Bool

-- the record of the coupler of a line; no octets if there is none
abbrev pub own_coupler : AtWork → ℕ → List ℕ
own_coupler w line = coupler_of line (records_of w.site)

-- "The main side is TP1 or IP; the sub side is TP1": so a line may be IP where it is no coupler's sub side, as 00h is none's
abbrev pub is_ip : AtWork → ℕ → Bool
is_ip w line = w.meant_ip line && not (is_fitted (own_coupler w line))

-- a telegram in the form of a line: a TP1 frame, or "on IP .. a plain indication in a routing datagram"
unfoldable pub form_on : AtWork → ℕ → Meaning → List ℕ → List ℕ
form_on w line m p = cond (is_ip w line) (routing_octets (indication m) p) (tp1_octets m p)

-- the coupler of a line as its record in the site sets it, with a frame received from a side (0 main, 1 sub); its main medium (0 TP1, 1 IP)
-- is that of the line on its main side
abbrev pub setting_by : AtWork → List ℕ → ℕ → Coupler
setting_by w r side = coupler_by (setting_of (line_of r) side (cond (is_ip w (main_side (line_of r))) 1 0)) (codes_of r) (table_of (table_number r) w.stores)

-- the coupler that a crossing is over, the frame being received from the side that the crossing leads from
abbrev pub coupler_at : AtWork → Crossing → Coupler
coupler_at w x = setting_by w (own_coupler w x.line) x.direction

-- a crossing is made: the coupler is fitted, and a call of its step that is given these octets leaves these others to be sent onward; "13
-- (room below 272)"
pub record Hands (w : AtWork) (x : Crossing) (octets onward : List ℕ) : Type 0 where
  pub fitted : is_fitted (own_coupler w x.line) ≡ true
  pub room : List ℕ
  pub enough : 272 ≤ length room
  pub outcome : Outcome
  pub memory : Memory
  pub left : List ℕ
  pub steps : Did (coupler_at w x) (w.memories x.line) octets room outcome memory left
  pub sends : take outcome.forwarded left ≡ onward
  pub some : length onward ≡ 0 → ⊥

-- these octets come onto this line over these couplers, one after the other, the first ones having been put on the starting line
pub data Arrives (w : AtWork) (start : ℕ) (first : List ℕ) : ℕ → List ℕ → List Crossing → Type 0 where
  put-there : Arrives w start first start first []
  handed-on : {octets onward : List ℕ} {way : List Crossing} (x : Crossing) → Arrives w start first (from_line x) octets way → came_over way x.line ≡ false → Hands w x octets onward
      → Arrives w start first (to_line x) onward (way ++ (x ∷ []))

-- a coupler's sending: octets came to the line that the crossing leads from, not over this very coupler, which hands them on
pub record Sends (w : AtWork) (start : ℕ) (first : List ℕ) (x : Crossing) : Type 0 where
  pub octets : List ℕ
  pub onward : List ℕ
  pub way : List Crossing
  pub arrives : Arrives w start first (from_line x) octets way
  pub ahead : came_over way x.line ≡ false
  pub hands : Hands w x octets onward

-- of so many crossings this is true: they may be numbered from 0 on, each once and none left out
pub record SoMany (P : Crossing → Type 0) (n : ℕ) : Type 0 where
  pub each : ℕ → Crossing
  pub such : (i : ℕ) → i < n → P (each i)
  pub once : (i j : ℕ) → i < n → j < n → each i ≡ each j → i ≡ j
  pub all : (x : Crossing) → P x → (i : ℕ) × ((i < n) × (each i ≡ x))

-- the same telegram with another count
abbrev pub with_count : ℕ → Meaning → Meaning
with_count count m = record {
  extended = m.extended;
  first = m.first;
  priority = m.priority;
  source = m.source;
  group = m.group;
  destination = m.destination;
  count = count;
}

-- a telegram, put on the starting line, arrives on a line with this count, so many couplers having been crossed: in that line's form, and by
-- the reader of that line's medium the very telegram with this count, all else being as it was
pub record ArrivesWith (w : AtWork) (start : ℕ) (m : Meaning) (p : List ℕ) (line count crossed : ℕ) : Type 0 where
  pub octets : List ℕ
  pub way : List Crossing
  pub arrives : Arrives w start (form_on w start m p) line octets way
  pub laid : octets ≡ form_on w line (with_count count m) p
  pub reads : read_by (is_ip w line) octets ≡ frame (with_count count m) p
  pub crosses : length way ≡ crossed

-- a site at work, its couplers set as a query has it
abbrev pub set_for : Query → AtWork → AtWork
set_for q w = w

-- the query about a telegram of this meaning, put on the starting line of a site at work
abbrev pub asked_of : AtWork → ℕ → Meaning → Query
asked_of w start m = query_of start (kind_of m) m.destination m.count
