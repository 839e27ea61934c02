-- What the reader refuses is handed on; by `Range` the value, widened to 64 bits, is the one that was read, and the sum that was asked for is
-- the one that is made.
use mathlib.Core.Bool.{true, false}
use mathlib.Core.Path.{sym, ap, ◌∙◌}
use Rattle.std.specs.Prelude.{Ok}
use Rattle.frame.proofs.HandedOn.{handed-on}
use Rattle.leak.proofs.Chosen.{read-fits}
use Rattle.leak.proofs.Exactly.{add-unread, read-within, read-past}
use Rattle.leak.proofs.Range.{asked_is, sum_fits, sum_back}
use Rattle.leak.proofs.add.Goals as goal

pub returns-in_err-read : goal.returns-in_err-read
returns-in_err-read c =
    handed-on c.from_residual.result c.from_residual.ensures.1 ∙ sym (add-unread c.args.total c.args.code (sym c.read.ensures ∙ c.in_err-read.was))

pub overflow_add-sum : goal.overflow_add-sum
overflow_add-sum c =
    let v = c.in_ok-read.field-0 in
    let g = read-fits c.args.code c.ranges.code.fits (sym c.read.ensures ∙ c.in_ok-read.was) in
    let h = asked_is c.args.total v c.ranges.total g true (rw c.from-value.ensures at (sym c.if-stays.true ∙ c.stays.ensures)) in
    rw c.from-value.ensures (sum_fits c.args.total v c.ranges.total g (sym h))

pub returns-then-stays : goal.returns-then-stays
returns-then-stays c =
    let t = c.args.total in
    let v = c.in_ok-read.field-0 in
    let g = read-fits c.args.code c.ranges.code.fits (sym c.read.ensures ∙ c.in_ok-read.was) in
    let h = asked_is t v c.ranges.total g true (rw c.from-value.ensures at (sym c.if-stays.true ∙ c.stays.ensures)) in
    rw c.from-value.ensures (ap Ok (sum_back t v c.ranges.total g (sym h)) ∙ sym (read-within t c.args.code (sym c.read.ensures ∙ c.in_ok-read.was) (sym h)))

pub returns-else-stays : goal.returns-else-stays
returns-else-stays c =
    let t = c.args.total in
    let v = c.in_ok-read.field-0 in
    let g = read-fits c.args.code c.ranges.code.fits (sym c.read.ensures ∙ c.in_ok-read.was) in
    let h = asked_is t v c.ranges.total g false (rw c.from-value.ensures at (sym c.if-stays.false ∙ c.stays.ensures)) in
    sym (read-past t c.args.code (sym c.read.ensures ∙ c.in_ok-read.was) (sym h))
