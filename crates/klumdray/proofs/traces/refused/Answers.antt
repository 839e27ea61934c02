-- The refusal's number alone.
use mathlib.Core.Path.{◌∙◌}
use Rattle.klumdray.specs.Traces.{traced_number}
use Rattle.klumdray.proofs.traces.refused.Goals as goal

pub returns : goal.returns
unfolding traced_number
returns c = c.from.ensures ∙ c.number.ensures
