-- The inner trace of what the numbers ask; numbers that ask nothing are refused before it.
use Rattle.klumdray.proofs.Surface.{given-fits, given-none, traced_fit, traced-unfit}
use Rattle.klumdray.proofs.klumdray_trace.Goals as goal

pub returns-in_default : goal.returns-in_default
returns-in_default c = rw c.number.ensures (traced-unfit _ _ _ _ (given-none _ _ c.query_given.ensures c.in_default.is))

pub returns : goal.returns
returns c =
    let fit = given-fits _ c.query_given.ensures c.in-Some.is in
    traced_fit _ _ _ fit.0 (rw fit.1 at c.trace-traced.ensures) c.of_traced.ensures
