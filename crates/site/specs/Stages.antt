-- A record's coupler, and asked both ways: for the contracts of private functions. No public contract rests on these definitions.
use Rattle.std.specs.Prelude.{ℕ, Bool, List, [], ◌∷◌, ◌≡◌}
use Rattle.passing.specs.declared.Filter.{Filter}
use Rattle.site.specs.Letting.{lets_pass}
use Rattle.site.specs.Records.{line_of, codes_of, table_number}
use Rattle.site.specs.Stores.{Stores, table_of}

-- it goes by its line, its codes and the table that its number chooses
pub record IsFilterOf (st : Stores) (r : List ℕ) (f : Filter) : Type 0 where
  pub line : f.line ≡ line_of r
  pub codes : f.codes ≡ codes_of r
  pub table : f.table.now ≡ table_of (table_number r) st

abbrev pub record_both_ways : Stores → ℕ → ℕ → List ℕ → List Bool
record_both_ways st kind destination r = lets_pass st kind destination 0 r ∷ lets_pass st kind destination 1 r ∷ []
