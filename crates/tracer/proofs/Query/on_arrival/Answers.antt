-- Where more couplers were crossed than the count, the difference is 0.
use mathlib.Core.Path.{sym, ◌∙◌}
use Rattle.tracer.specs.Query.{on_arrival}
use Rattle.tracer.proofs.Query.on_arrival.Goals as goal

pub returns-then-stays : goal.returns-then-stays
unfolding on_arrival
returns-then-stays c = rw (sym c.stays.ensures ∙ c.if-stays.true)

pub returns : goal.returns
unfolding on_arrival
returns c = rw (sym c.stays.ensures ∙ c.if-stays.false) c.saturating_sub.ensures
