-- As many fours as there were turns are compared.
use Prim.Native.Nat.{◌*◌, ◌/◌}
use mathlib.Core.Path.{◌≡◌}
use native.Mathlib.Omega.{arith}
use lib.ListN.{length}
use Rattle.octets.proofs.Same.{more_alike, alike-take}
use Rattle.octets.proofs.same_fours.Goals as goal

pub loop-turn-preserved : goal.loop-turn-preserved
loop-turn-preserved c =
    let more = more_alike c.args.one.now c.args.other.now (λ i. (c.type_inv.one i).fits) (λ i. (c.type_inv.other i).fits) in
    rw (c.four_at.ensures, c.four_at-in-loop-turn.ensures) (more c.loop-turn.same c.loop-turn.turn c.loop-turn.invariant)

pub returns : goal.returns
returns c =
    let s = c.args.one.now in
    let k : c.loop-turn.turn ≡ length s / 4 = omega arith in
    rw (c.loop-turn.invariant, k) (alike-take (length s / 4 * 4) s c.args.other.now (omega arith) (omega arith))
