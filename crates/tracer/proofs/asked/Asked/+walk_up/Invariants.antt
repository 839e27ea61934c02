-- Each call is of the main side, which lies one less deep.
use Rattle.tracer.specs.Lines.{depth}
use Rattle.tracer.proofs.asked.Asked.+walk_up.Given as goal

abbrev pub decreases-walk_up : goal.decreases-walk_up
decreases-walk_up l = depth l.from
