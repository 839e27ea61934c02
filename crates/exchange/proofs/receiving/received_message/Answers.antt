-- cEMI's answer decides.
use mathlib.Core.Bool.{true, false}
use mathlib.Core.Path.{sym, ◌∙◌}
use Rattle.frame.proofs.HandedOn.{handed-on}
use Rattle.octets.proofs.Split.{rest-is}
use Rattle.exchange.proofs.ReceivingLaws.{message-refused, message-taken, taken-delivered}
use Rattle.exchange.proofs.receiving.received_message.Goals as goal

pub returns-in_err-message : goal.returns-in_err-message
returns-in_err-message c =
    let a = c.args in
    let e = rw (rest-is 10 a.octets.now) at c.read.ensures in
    handed-on c.from_residual.result c.from_residual.ensures.1 ∙ sym (message-refused a.octets.now a.expected _ (sym e ∙ c.in_err-message.was))

pub returns-then-expected : goal.returns-then-expected
returns-then-expected c =
    let s = c.args.octets.now in
    let k = sym (rw (rest-is 10 s) at c.read.ensures) ∙ c.in_ok-message.was in
    rw (c.if-expected.true, c.octet.ensures, c.octet-then-expected.ensures) (sym (message-taken s true _ k ∙ taken-delivered s _ k))

pub returns-else-expected : goal.returns-else-expected
returns-else-expected c =
    let s = c.args.octets.now in
    let k = sym (rw (rest-is 10 s) at c.read.ensures) ∙ c.in_ok-message.was in
    rw c.if-expected.false (sym (message-taken s false _ k))
