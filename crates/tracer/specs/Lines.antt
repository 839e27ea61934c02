-- Document 01: "The path between two lines follows main sides: the line of n, then its main side, and so on to 00h, likewise from the other,
-- joined at the first line in common. Distance is the number of couplers on it".
use Rattle.std.specs.Prelude.{ℕ, zero, suc, ◌-◌, ◌%◌, Bool, false, cond, List, [], ◌∷◌, ◌++◌, eqb, length}
use Rattle.site.specs.WellFormed.{is_among}

-- "Its main side is n with the low four bits cleared if those are not zero, else 00h."
unfoldable pub main_side : ℕ → ℕ
main_side n = cond (eqb (n % 16) 0) 0 (n - n % 16)

-- how many main sides lie between a line and 00h
unfoldable pub depth : ℕ → ℕ
depth n = cond (eqb n 0) 0 (cond (eqb (main_side n) 0) 1 2)

-- "the line of n, then its main side, and so on to 00h"
abbrev pub main_sides_by : ℕ → ℕ → List ℕ
main_sides_by zero n = n ∷ []
main_sides_by (suc k) n = n ∷ main_sides_by k (main_side n)

unfoldable pub main_sides : ℕ → List ℕ
main_sides n = main_sides_by (depth n) n

-- "joined at the first line in common": the lines before it
abbrev pub before_common : List ℕ → List ℕ → List ℕ
before_common [] others = []
before_common (n ∷ ns) others = cond (is_among n others) [] (n ∷ before_common ns others)

-- a coupler crossed: its line, and the direction of travel (0 main to sub, 1 sub to main)
pub record Crossing : Type 0 where
  pub direction : ℕ
  pub line : ℕ

abbrev pub crossing : ℕ → ℕ → Crossing
crossing direction line = record { direction = direction; line = line }

abbrev pub up : ℕ → Crossing
up n = crossing 1 n

abbrev pub down : ℕ → Crossing
down n = crossing 0 n

-- the line that a crossing leads from, and the one that it leads to: "Its sub side is n."
abbrev pub from_line : Crossing → ℕ
from_line x = cond (eqb x.direction 0) (main_side x.line) x.line

abbrev pub to_line : Crossing → ℕ
to_line x = cond (eqb x.direction 0) x.line (main_side x.line)

-- whether the last coupler crossed is that of a line
abbrev pub came_over : List Crossing → ℕ → Bool
came_over [] line = false
came_over (x ∷ []) line = eqb x.line line
came_over (x ∷ y ∷ xs) line = came_over (y ∷ xs) line

-- up over the couplers of these lines, one after the other; down over them, the last one first
abbrev pub up_over : List ℕ → List Crossing
up_over [] = []
up_over (n ∷ ns) = up n ∷ up_over ns

abbrev pub down_over : List ℕ → List Crossing
down_over [] = []
down_over (n ∷ ns) = down_over ns ++ (down n ∷ [])

unfoldable pub path : ℕ → ℕ → List Crossing
path start line = up_over (before_common (main_sides start) (main_sides line)) ++ down_over (before_common (main_sides line) (main_sides start))

unfoldable pub distance : ℕ → ℕ → ℕ
distance start line = length (path start line)
