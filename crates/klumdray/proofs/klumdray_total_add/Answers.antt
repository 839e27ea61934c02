-- One application of `added-fit` to what the calls ensure, in their order; a block or a code that does not fit is `added-unfit`'s.
use mir.Facts.{to_z-of_z}
use mir.Syntax.{w64}
use borrow.Author.Tests.{ltb-true}
use Rattle.octets.proofs.Truth.{and-true}
use Rattle.klumdray.proofs.LitresLaws.{added-fit, added-unfit}
use Rattle.klumdray.proofs.klumdray_total_add.Goals as goal

pub overflow_cast-code : goal.overflow_cast-code
overflow_cast-code c = record { fits = ltb-true c.args.code 65536 (and-true _ _ c.if-right.true).1 }

pub returns-then-right : goal.returns-then-right
returns-then-right c =
    let a = c.args in
    let back = to_z-of_z {w = w64} {z = c.total_in-held.result} (record { sfits = c.total_in-held.type_inv }) in
    added-fit a.total.now a.code c.if-right.true c.total_in-held.ensures (rw back at c.add-added.ensures) c.put_sum.ensures c.of_added.ensures

pub returns-else-right : goal.returns-else-right
returns-else-right c = rw c.number.ensures (added-unfit _ _ c.if-right.false)
