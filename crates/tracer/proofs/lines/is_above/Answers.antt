-- The line, its main side and 00h are all the lines on the way: `three-sides`.
use Rattle.tracer.proofs.Paths.{three-sides}
use Rattle.tracer.proofs.lines.is_above.Goals as goal

pub returns : goal.returns
returns c = rw c.main_side-main.ensures (three-sides _ _)
