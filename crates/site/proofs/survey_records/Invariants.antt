-- The walk's law `Surveying`: a record that is fine moves the index on, one that is not decides.
use mathlib.Core.Path.{◌≡◌}
use lib.ListN.{drop}
use Rattle.std.specs.Slice.Iter.{chunks_exact_rest, chunks_exact_size}
use Rattle.site.proofs.Surveying.{Surveying}
use Rattle.site.specs.Stores.{stores_in}
use Rattle.site.proofs.survey_records.Given as goal

abbrev pub invariant-loop-octets : goal.invariant-loop-octets
invariant-loop-octets l =
    (goal.iterator-loop-octets).can_next l.octets-iterator
    × ((goal.iterator-loop-octets).is_finite l.octets-iterator
    × ((chunks_exact_size l.octets-iterator ≡ 12) × ((chunks_exact_rest l.octets-iterator ≡ drop l.from l.records)
    × Surveying (stores_in l.stores) l.records l.starts l.from)))
