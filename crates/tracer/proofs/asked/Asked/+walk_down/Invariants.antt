-- Each call is of the main side, which lies one less deep.
use Rattle.tracer.specs.Lines.{depth}
use Rattle.tracer.proofs.asked.Asked.+walk_down.Given as goal

abbrev pub decreases-walk_down : goal.decreases-walk_down
decreases-walk_down l = depth l.to
