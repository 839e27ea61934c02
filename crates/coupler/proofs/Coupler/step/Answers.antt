-- What is handed on is `hand_on`'s, of the frame that the side remembers; the memory follows its refusal, which is none exactly for an accepted frame.
use mathlib.Core.Path.{ap, ◌∙◌}
use Rattle.coupler.proofs.StepLaws.{did}
use Rattle.coupler.specs.Memory.{recalled}
use Rattle.coupler.specs.Step.{coupler_by}
use Rattle.coupler.proofs.Coupler.step.Goals as goal

pub returns : goal.returns
returns c =
    let a = c.args in
    did (coupler_by a.self.now.setting a.self.now.codes a.self.now.table.now) a.memory a.octets.now c.is_none.result
    (c.frame-remembered.ensures ∙ ap recalled c.side_of.ensures) c.hand_on-outcome.ensures c.is_none.ensures c.from_ip.ensures c.remembered_if.ensures
