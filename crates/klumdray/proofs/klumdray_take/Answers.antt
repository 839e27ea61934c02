-- One application of `taken-fit` to what the calls ensure, in their order; what is lent and does not fit is `taken-unfit`'s.
use Prim.Native.Nat.{◌+◌, ◌-◌}
use mathlib.Core.Path.{◌≡◌}
use native.Mathlib.Omega.{arith}
use mir.Facts.{to_z-of_z}
use mir.Syntax.{w64}
use Rattle.klumdray.proofs.LitresLaws.{lent_fits, taken-fit, taken-unfit}
use Rattle.klumdray.proofs.klumdray_take.Goals as goal

pub slice_bounds-take-end : goal.slice_bounds-take-end
slice_bounds-take-end c =
    let a = c.args in
    omega (arith, c.kept_in-end.ensures.1, (lent_fits a.total.now a.memory.now a.group a.octets.now c.if-right.true).1.0)

pub overflow_cast-group : goal.overflow_cast-group
overflow_cast-group c =
    let a = c.args in
    record { fits = (lent_fits a.total.now a.memory.now a.group a.octets.now c.if-right.true).1.1 }

pub returns-then-right : goal.returns-then-right
returns-then-right c =
    let a = c.args in
    let back = to_z-of_z {w = w64} {z = c.total_in-held.result} (record { sfits = c.total_in-held.type_inv }) in
    let size : 2 + c.kept_in-end.result - 2 ≡ c.kept_in-end.result = omega arith in
    taken-fit a.total.now a.memory.now a.group a.octets.now c.if-right.true (λ i. (c.type_inv.octets i).fits)
    c.total_in-held.ensures c.kept_in-end.ensures.0 (rw (back, size) at c.take-taken.ensures) c.put_taken.ensures
    c.is_accepted.ensures c.remember_if.ensures c.of_taken.ensures

pub returns-else-right : goal.returns-else-right
returns-else-right c = rw c.number.ensures (taken-unfit _ _ _ _ c.if-right.false)
