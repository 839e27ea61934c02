-- The definition's tests, in its order.
use mathlib.Core.Path.{refl}
use Rattle.klumdray.specs.Traces.{query_fits}
use Rattle.klumdray.proofs.traces.query_fits.Goals as goal

pub returns : goal.returns
unfolding query_fits
returns c = refl
