-- The settings' refusals, then the reader's: each arm is what its callee ensures.
use Rattle.std.specs.Prelude.{Result}
use mathlib.Core.Path.{sym, ap, ◌∙◌}
use lib.ListN.{length}
use Rattle.coupler.proofs.StepLaws.{handed-on, handed-nothing, fine-room}
use Rattle.coupler.specs.Step.{coupler_by, from_ip, read_by, after, heard}
use Rattle.coupler.proofs.Coupler.hand_on.Goals as goal
use Rattle.frame.specs.declared.Refusal.{Refusal}

pub receive-requires : goal.receive-requires
receive-requires c =
    let judge = c.judge in
    let a = c.args in
    fine-room (coupler_by a.self.now.setting a.self.now.codes a.self.now.table.now) (length a.room.now) (sym judge.ensures ∙ c.in-Ok.is)

pub returns-in-Err : goal.returns-in-Err
unfolding heard
returns-in-Err c =
    let judge = c.judge in
    let a = c.args in
    let k = coupler_by a.self.now.setting a.self.now.codes a.self.now.table.now in
    handed-on (ap (λ (v : Result (Unit {0}) Refusal). after v (read_by (from_ip k) a.octets.now)) (sym judge.ensures ∙ c.in-Err.is)) (handed-nothing _ _ _ _ _ c.refused.ensures)

pub returns-in-Ok : goal.returns-in-Ok
unfolding heard
returns-in-Ok c =
    let judge = c.judge in
    let a = c.args in
    let k = coupler_by a.self.now.setting a.self.now.codes a.self.now.table.now in
    handed-on (ap (λ (v : Result (Unit {0}) Refusal). after v (read_by (from_ip k) a.octets.now)) (sym judge.ensures ∙ c.in-Ok.is)) c.receive.ensures
