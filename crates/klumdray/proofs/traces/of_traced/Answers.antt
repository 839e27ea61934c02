-- The weights of the parts are apart, so that their sum fits; it is the definition's.
use mathlib.Core.Path.{refl}
use Rattle.klumdray.specs.Traces.{traced_number}
use Rattle.klumdray.proofs.traces.of_traced.Goals as goal

pub returns-in-Ok : goal.returns-in-Ok
unfolding traced_number
returns-in-Ok c = rw c.in-Ok.is refl

pub returns-in-Err : goal.returns-in-Err
returns-in-Err c = rw c.in-Err.is c.refused.ensures
