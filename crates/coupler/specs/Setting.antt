-- A coupler's numbers: own line, main medium (0 TP1, 1 IP), and the side that a frame is received from (0 main, 1 sub).
use Rattle.std.specs.Prelude.{ℕ, Bool}
use Rattle.coupler.specs.declared.Setting.{Setting}
use Rattle.passing.specs.Passing.{stays, hopped}

abbrev pub setting_of : ℕ → ℕ → ℕ → Setting
setting_of line side medium = record { line = line; side = side; medium = medium }

-- whether this coupler leaves a count as it is
abbrev pub stays_by : Setting → ℕ → Bool
stays_by k count = stays count

-- the count with which this coupler forwards a frame
abbrev pub hopped_by : Setting → ℕ → ℕ
hopped_by k count = hopped count
