-- The inner explanation of what the numbers ask; a line of more bits, and numbers that ask nothing, are refused before it.
use mathlib.Core.Path.{refl}
use native.Mathlib.Omega.{arith}
use borrow.Author.Tests.{lt-ltb, le-ltb}
use Rattle.klumdray.proofs.Surface.{given-fits, given-none, why-fit, why-unfit}
use Rattle.klumdray.specs.Traces.{query_fits}
use Rattle.octets.proofs.Truth.{and-false}
use Rattle.tracer.specs.Query.{query_of}
use Rattle.klumdray.proofs.klumdray_why.Goals as goal

pub returns-in_default : goal.returns-in_default
returns-in_default c =
    let a = c.args in
    let fits = query_fits (query_of a.start a.kind a.destination a.count) in
    rw c.number.ensures (why-unfit _ _ _ _ (rw (le-ltb a.line 256 (omega (arith, c.in_default.ensures))) (and-false fits)))

pub returns-in_default-query_given : goal.returns-in_default-query_given
returns-in_default-query_given c =
    rw c.number-in_default-query_given.ensures (why-unfit _ _ _ _ (rw (given-none _ _ c.query_given.ensures c.in_default-query_given.is) refl))

pub returns : goal.returns
returns c =
    let fit = given-fits _ c.query_given.ensures c.in-Some.is in
    let line = c.in-Ok.ensures in
    why-fit _ _ _ _ (rw (fit.0, lt-ltb c.args.line 256 line.0)) (rw (fit.1, line.1) at c.why-explanation.ensures) c.of_explanation.ensures
