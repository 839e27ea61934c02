-- A refusal is the reader's; an accepted frame has a form on either medium, so that `pass_on` can take it.
use mathlib.Core.Path.{sym, ◌∙◌}
use Rattle.coupler.proofs.HearingLaws.{heard-frame, heard-nothing, heard-ranged}
use Rattle.coupler.proofs.StepLaws.{handed, handed-nothing}
use Rattle.coupler.specs.Step.{coupler_by, from_ip}
use Rattle.coupler.proofs.Coupler.receive.Goals as goal

pub pass_on-requires : goal.pass_on-requires
pass_on-requires c =
    let read = sym c.hear.ensures ∙ c.in-Ok.is in
    (rw (← c.payload_of-payload.ensures) at (heard-ranged c.from_ip-ip.result c.args.octets.now _ (λ i. (c.type_inv.octets i).fits) read), c.requires)

pub returns-in-Err : goal.returns-in-Err
returns-in-Err c =
    let a = c.args in
    let ip = from_ip (coupler_by a.self.now.setting a.self.now.codes a.self.now.table.now) in
    let read = sym (rw c.from_ip-ip.ensures at c.hear.ensures) ∙ c.in-Err.is in
    rw (heard-nothing ip a.octets.now _ read) (handed-nothing _ _ _ _ _ c.refused.ensures)

pub returns-in-Ok : goal.returns-in-Ok
returns-in-Ok c =
    let a = c.args in
    let ip = from_ip (coupler_by a.self.now.setting a.self.now.codes a.self.now.table.now) in
    let read = sym (rw c.from_ip-ip.ensures at c.hear.ensures) ∙ c.in-Ok.is in
    rw (heard-frame ip a.octets.now _ read)
    (handed (rw c.from_ip-ip.ensures at c.repeats-repetition.ensures) (rw (c.payload_of-payload.ensures, c.from_ip-ip.ensures) at c.pass_on.ensures))
