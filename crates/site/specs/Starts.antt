-- A site surveyed: its verdict, and for each line where the record of its coupler starts, so that it is found again without a walk.
use Rattle.std.specs.Prelude.{Result, Ok, Err, ℕ, ◌+◌, ◌<◌, cond, List, [], ◌∷◌, ◌≡◌, eqb, length, get_or, drop}
use Rattle.frame.specs.Order.{Test, first_of}
use Rattle.frame.specs.declared.Refusal.{Refusal}
use Rattle.std.specs.Borrow.{Bor}
use Rattle.site.specs.declared.stores.Stores.{Stores as LentStores}
use Rattle.site.specs.declared.Surveyed.{Surveyed}
use Rattle.site.specs.Records.{first_record, records_of, line_of, coupler_of}
use Rattle.site.specs.Stores.{stores_in}
use Rattle.site.specs.WellFormed.{site_tests}

-- the record that starts at an index: no octets where the site does not have it whole
unfoldable pub record_from : List ℕ → ℕ → List ℕ
record_from site from = first_record (drop from site)

-- stands for no coupler: no record of a well-formed site starts there, which has at most 3,060 octets
abbrev pub no_start : ℕ
no_start = 0xffff

-- where the record of line n starts, the last if there are several (17)
abbrev pub start_in : ℕ → ℕ → ℕ → List (List ℕ) → ℕ
start_in line from found [] = found
start_in line from found (r ∷ rs) = start_in line (from + length r) (cond (eqb (line_of r) line) from found) rs

unfoldable pub start_of : ℕ → List (List ℕ) → ℕ
start_of line records = start_in line 0 no_start records

-- whether a site was surveyed or refused
abbrev pub verdict_of : Result Surveyed Refusal → Result (Unit {0}) Refusal
verdict_of (Ok s) = Ok tt
verdict_of (Err r) = Err r

-- the very records and stores that were given, and where the records of each line start
pub record Starts (given : LentStores) (octets : Bor (List ℕ)) (records : List (List ℕ)) (s : Surveyed) : Type 0 where
  pub lent : s.stores ≡ given
  pub read : s.records ≡ octets
  pub size : length s.starts ≡ 256
  pub each : (line : ℕ) → line < 256 → get_or s.starts line 0 ≡ start_of line records

-- the verdict of tests; a site that is refused has no starts
pub record DidSurveyBy (tests : List Test) (given : LentStores) (octets : Bor (List ℕ)) (records : List (List ℕ)) (answer : Result Surveyed Refusal) : Type 0 where
  pub judged : verdict_of answer ≡ first_of tests
  pub found : (s : Surveyed) → answer ≡ Ok s → Starts given octets records s

abbrev pub DidSurvey : LentStores → Bor (List ℕ) → Result Surveyed Refusal → Type 0
DidSurvey given octets answer = DidSurveyBy (site_tests (stores_in given) octets.now) given octets (records_of octets.now) answer

-- the record of a line's coupler by the starts that were noted
abbrev pub coupler_from : List ℕ → List ℕ → ℕ → List ℕ
coupler_from site starts line = record_from site (get_or starts line 0)

-- the starts find every line's coupler
pub record Noted (site starts : List ℕ) : Type 0 where
  pub each : (line : ℕ) → line < 256 → coupler_from site starts line ≡ coupler_of line (records_of site)
