-- Demand 3: a coupler "is fitted and lets the telegram pass in its direction of travel". Who may pass is the coupler's own definition.
use Rattle.std.specs.Prelude.{ℕ, ◌<◌, Bool, cond, ◌&&◌, List, [], ◌∷◌, ◌≡◌, length, get_or}
use Rattle.passing.specs.Passing.{may_pass, passage_of}
use Rattle.passing.specs.declared.Passage.TheVariants.{NotFitted}
use Rattle.passing.specs.declared.Passage.{Passage}
use Rattle.site.specs.Records.{line_of, codes_of, table_number, coupler_of, is_fitted}
use Rattle.site.specs.Starts.{coupler_from}
use Rattle.site.specs.Stores.{Stores, table_of}

-- a record's coupler, asked with its line, codes and table
unfoldable pub record_passes : Stores → ℕ → ℕ → ℕ → List ℕ → Bool
record_passes st kind destination direction r =
    may_pass (line_of r) (codes_of r) (table_of (table_number r) st) direction kind destination

abbrev pub lets_pass : Stores → ℕ → ℕ → ℕ → List ℕ → Bool
lets_pass st kind destination direction r = is_fitted r && record_passes st kind destination direction r

-- whether the coupler of a line is fitted and lets the telegram pass
unfoldable pub line_lets_pass : Stores → ℕ → ℕ → List (List ℕ) → ℕ → ℕ → Bool
line_lets_pass st kind destination records direction line = lets_pass st kind destination direction (coupler_of line records)

-- .. by the starts of the records
unfoldable pub line_lets_pass_by : Stores → ℕ → ℕ → List ℕ → List ℕ → ℕ → ℕ → Bool
line_lets_pass_by st kind destination site starts direction line = lets_pass st kind destination direction (coupler_from site starts line)

-- two marks for each of the 256 lines: "in its direction of travel", 0 main to sub, 1 sub to main
pub record MarksBothWays (holds : ℕ → ℕ → Bool) (marks : List (List Bool)) : Type 0 where
  pub size : length marks ≡ 256
  pub each : (line : ℕ) → line < 256 → get_or marks line [] ≡ holds 0 line ∷ holds 1 line ∷ []

-- what the coupler of a line makes of a telegram with this count: the first reason not to hand it on, "no coupler fitted" before all others
unfoldable pub passage_by : Stores → ℕ → ℕ → ℕ → ℕ → List ℕ → Passage
passage_by st kind destination direction count r =
    cond (is_fitted r) (passage_of (line_of r) (codes_of r) (table_of (table_number r) st) direction kind destination count) NotFitted

unfoldable pub passage_at : Stores → ℕ → ℕ → List (List ℕ) → ℕ → ℕ → ℕ → Passage
passage_at st kind destination records direction line count = passage_by st kind destination direction count (coupler_of line records)
