-- Each call is of the main side, which lies one less deep.
use Rattle.tracer.specs.Lines.{depth}
use Rattle.tracer.proofs.reaching.+climb.Given as goal

abbrev pub decreases-climb : goal.decreases-climb
decreases-climb l = depth l.from
