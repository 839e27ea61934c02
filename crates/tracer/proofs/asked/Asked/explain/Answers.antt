-- The walk up, then down, is the walk over the path.
use mathlib.Core.Path.{ap, ◌∙◌}
use Rattle.std.specs.Prelude.{Ok}
use Rattle.tracer.proofs.WalkingLaws.{explained}
use Rattle.tracer.proofs.asked.Asked.explain.Goals as goal

pub returns : goal.returns
returns c = ap Ok c.err.ensures.value ∙ explained _ _ _ _ c.walk_up-joined.ensures c.walk_down.ensures
