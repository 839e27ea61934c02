-- The step inside, its memory in the block: `stepped`, whose hypotheses are what the calls ensure, with the side that it is handed, which
-- `side-kept` changes for the one given.
use Prim.Native.Nat.{◌+◌, ◌-◌}
use mathlib.Core.Path.{◌≡◌}
use native.Mathlib.Omega.{arith}
use Rattle.klumdray.proofs.BlockLaws.{right-block, stepped, side-kept, stepped-wrong}
use Rattle.klumdray.specs.Block.{coupler_set}
use Rattle.klumdray.proofs.klumdray_step.Goals as goal

pub slice_bounds-hand_on-end : goal.slice_bounds-hand_on-end
slice_bounds-hand_on-end c =
    let start_of_lem = c.start_of-start in
    let if1 = c.if-right in
    let are-settings = c.are_settings in
    let a = c.args in
    omega (arith, start_of_lem.ensures.1, c.kept_in.ensures.1, right-block a.settings.now a.memory.now (rw are-settings.ensures at if1.true))

pub returns-then-right : goal.returns-then-right
returns-then-right c =
    let remember-if = c.remember_if in
    let hand_on = c.hand_on-outcome in
    let kept_in = c.kept_in in
    let start_of_lem = c.start_of-start in
    let codes-in = c.codes_in in
    let setting-in = c.setting_in in
    let side-of = c.side_of-receiving in
    let if1 = c.if-right in
    let are-settings = c.are_settings in
    let a = c.args in
    let k = coupler_set a.settings.now side-of.result a.table.now in
    let right = rw are-settings.ensures at if1.true in
    let size = right-block a.settings.now a.memory.now right in
    let from = start_of_lem.result + 2 in
    let held : from + kept_in.result - from ≡ kept_in.result = omega arith in
    let handed = rw (setting-in.ensures, codes-in.ensures, held) at hand_on.ensures in
    let from-ip = rw setting-in.ensures at c.from_ip.ensures in
    let done = stepped k _ _ c.is_none.result size (λ i. (c.slice_known-1.given i).fits) (λ i. (c.type_inv.octets i).fits) start_of_lem.ensures.0 kept_in.ensures.0 handed c.is_none.ensures from-ip remember-if.ensures c.of_outcome.ensures in
    rw right (side-kept a.settings.now a.table.now _ _ a.side side-of.result side-of.ensures done)

pub returns-else-right : goal.returns-else-right
returns-else-right c = rw (c.number.ensures, rw c.are_settings.ensures at c.if-right.false) (stepped-wrong _ _ _ _)
