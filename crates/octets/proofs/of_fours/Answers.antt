-- As many fours of each half as there were turns are in the number; at the end the halves meet.
use Prim.Native.Nat.{◌*◌, ◌/◌}
use mathlib.Core.Path.{◌∙◌}
use native.Mathlib.Omega.{arith}
use lib.ListN.{length}
use Rattle.octets.proofs.Fours.{turn_more, halves-end, halves-four}
use Rattle.octets.proofs.of_fours.Goals as goal

pub loop-turn-preserved : goal.loop-turn-preserved
loop-turn-preserved c =
    let at-loop = c.loop-turn in
    let s = c.args.octets.now in
    rw (c.four_at.ensures, c.four_at-in-loop-turn.ensures) (turn_more s (λ i. (c.type_inv.octets i).fits) at-loop.all at-loop.turn (length s / 8 * 4) at-loop.invariant)

pub returns-then-octets-lt4 : goal.returns-then-octets-lt4
returns-then-octets-lt4 c =
    c.folded.ensures ∙ halves-end c.args.octets.now c.loop-turn.all c.loop-turn.turn (omega arith) (omega arith) c.loop-turn.invariant

pub returns-else-octets-lt4 : goal.returns-else-octets-lt4
returns-else-octets-lt4 c =
    c.folded-else-octets-lt4.ensures
    ∙ rw c.four_at-else-octets-lt4.ensures (halves-four c.args.octets.now (λ i. (c.type_inv.octets i).fits) c.loop-turn.all c.loop-turn.turn (omega arith) (omega arith) c.loop-turn.invariant)
