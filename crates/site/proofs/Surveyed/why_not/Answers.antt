-- No record, no coupler; otherwise the coupler's own reasons, with what its record says.
use mathlib.Core.Path.{sym, ◌∙◌}
use Rattle.site.proofs.LettingLaws.{passage-none, passage-asked}
use Rattle.site.proofs.Surveyed.why_not.Goals as goal

pub returns-then-is_empty : goal.returns-then-is_empty
returns-then-is_empty c = rw (← c.from.ensures, ← c.record_from-octets.ensures) (passage-none _ _ _ _ _ _ (sym c.is_empty.ensures ∙ c.if-is_empty.true))

pub returns-else-is_empty : goal.returns-else-is_empty
returns-else-is_empty c =
    rw (← c.from.ensures, ← c.record_from-octets.ensures) (passage-asked _ _ _ _ _ _ (sym c.is_empty.ensures ∙ c.if-is_empty.false) c.filter_of.ensures c.why_not.ensures)
