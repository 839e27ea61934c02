-- The lines below the one at hand are known; its main side is one of them.
use Rattle.tracer.proofs.ReachingLaws.{Spreading}
use Rattle.tracer.specs.Reaching.{marked}
use Rattle.tracer.proofs.reaching.spread.Given as goal

abbrev pub invariant-loop-line : goal.invariant-loop-line
invariant-loop-line l =
    Spreading (marked l.passing) l.query.start l.query.count l.arrivals.lines l.arrivals.forwardings l.line
