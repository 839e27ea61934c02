-- The octets laid so far stand pasted into the room as it was.
use mathlib.Core.Path.{◌≡◌}
use lib.Seq.{paste}
use Rattle.octets.proofs.lay.Given as goal

abbrev pub invariant-loop-at : goal.invariant-loop-at
invariant-loop-at l = l.room ≡ paste l.initial.room l.from l.octets l.at
