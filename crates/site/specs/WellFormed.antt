-- Document 01: "18 (store sizes), 16 (length), then record by record: 16, 15 (line, codes), 18, 17 (at the second). A site is well-formed
-- exactly if it and its stores draw none of 15 to 18".
use Rattle.std.specs.Prelude.{ℕ, ◌%◌, Bool, false, not, cond, ◌||◌, List, [], ◌∷◌, ◌++◌, eqb, length}
use Rattle.passing.specs.Settings.{are_codes, asks_table}
use Rattle.frame.specs.Order.{Test, ◌gives◌}
use Rattle.frame.specs.declared.Refusal.TheVariants.{WrongSetting, WrongRecord, LineTwice, NoTable}
use Rattle.site.specs.Records.{records_of, is_marked, line_of, codes_of, table_number}
use Rattle.site.specs.Stores.{Stores, table_of, are_stores}

-- "FFh is allowed where no group code of that record is 1; every other number must lie in its store."
unfoldable pub has_table : Stores → List ℕ → Bool
has_table st r =
    cond (eqb (table_number r) 0xff) (not (asks_table (codes_of r))) (eqb (length (table_of (table_number r) st)) 8192)

-- whether a line is one of these
abbrev pub is_among : ℕ → List ℕ → Bool
is_among line [] = false
is_among line (n ∷ ns) = eqb n line || is_among line ns

-- one record, by itself and behind others: `twice` where one of them had its line
abbrev pub record_tests : Stores → Bool → List ℕ → List Test
record_tests st twice r =
    not (is_marked r) gives WrongRecord
    ∷ (eqb (line_of r) 0 || not (are_codes (codes_of r))) gives WrongSetting
    ∷ not (has_table st r) gives NoTable
    ∷ twice gives LineTwice
    ∷ []

-- "record by record", with the lines of those before
abbrev pub records_tests : Stores → List ℕ → List (List ℕ) → List Test
records_tests st lines [] = []
records_tests st lines (r ∷ rs) = record_tests st (is_among (line_of r) lines) r ++ records_tests st (line_of r ∷ lines) rs

unfoldable pub site_tests : Stores → List ℕ → List Test
site_tests st site =
    not (are_stores st) gives NoTable
    ∷ not (eqb (length site % 12) 0) gives WrongRecord
    ∷ records_tests st [] (records_of site)
