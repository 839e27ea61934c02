-- Document 01: "A site is 0 to 255 records of 12 octets: mark 43h 50h, line, four codes main to sub, four codes sub to main, table number."
-- A record is the list of its octets; no octets stand for no coupler.
use Rattle.std.specs.Prelude.{ℕ, zero, suc, Bool, not, cond, ◌&&◌, List, [], ◌∷◌, leb, eqb, length, take, drop}
use Rattle.octets.specs.Octets.{octet_at}

-- how many octets the record takes that stands at the front of these
unfoldable pub record_size : List ℕ → ℕ
record_size s = 12

-- the record that stands there; no octets where they are too few for it, so that its mark is missing (16)
unfoldable pub first_record : List ℕ → List ℕ
first_record s = cond (leb (record_size s) (length s)) (take (record_size s) s) []

-- the records of a site, one behind the other, each by its own size
abbrev pub records_by : ℕ → List ℕ → List (List ℕ)
records_by zero s = []
records_by (suc k) [] = []
records_by (suc k) (o ∷ os) = first_record (o ∷ os) ∷ records_by k (drop (record_size (o ∷ os)) (o ∷ os))

unfoldable pub records_of : List ℕ → List (List ℕ)
records_of site = records_by (length site) site

unfoldable pub is_marked : List ℕ → Bool
is_marked r = eqb (octet_at r 0) 0x43 && eqb (octet_at r 1) 0x50

abbrev pub line_of : List ℕ → ℕ
line_of r = octet_at r 2

unfoldable pub codes_of : List ℕ → List (List ℕ)
codes_of r =
    (octet_at r 3 ∷ octet_at r 4 ∷ octet_at r 5 ∷ octet_at r 6 ∷ [])
    ∷ (octet_at r 7 ∷ octet_at r 8 ∷ octet_at r 9 ∷ octet_at r 10 ∷ [])
    ∷ []

abbrev pub table_number : List ℕ → ℕ
table_number r = octet_at r 11

-- "Every line n from 01h to FFh may have a coupler": the record of line n, the last if there are several (17), no octets if there is none
abbrev pub coupler_in : ℕ → List ℕ → List (List ℕ) → List ℕ
coupler_in line found [] = found
coupler_in line found (r ∷ rs) = coupler_in line (cond (eqb (line_of r) line) r found) rs

unfoldable pub coupler_of : ℕ → List (List ℕ) → List ℕ
coupler_of line records = coupler_in line [] records

abbrev pub is_fitted : List ℕ → Bool
is_fitted r = not (eqb (length r) 0)
