-- Each turn puts the next entry's line; when fewer than three octets are left, no text is.
use mathlib.Core.Path.{◌≡◌}
use Rattle.std.specs.Slice.Iter.{chunks_exact_rest, chunks_exact_size}
use Rattle.report.proofs.List.{Rest}
use Rattle.report.proofs.text.Writer.put_list.Given as goal

abbrev pub invariant-loop-entry : goal.invariant-loop-entry
invariant-loop-entry l =
    (goal.iterator-loop-entry).can_next l.entry-iterator
    × ((goal.iterator-loop-entry).is_finite l.entry-iterator
    × ((chunks_exact_size l.entry-iterator ≡ 3) × Rest l.list (chunks_exact_rest l.entry-iterator) l.initial.self l.self))
