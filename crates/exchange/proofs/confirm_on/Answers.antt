-- The tests of header and connection header refuse, or the channel's decide.
use mathlib.Core.Path.{sym, ◌∙◌}
use Rattle.frame.proofs.HandedOn.{handed-on}
use Rattle.exchange.proofs.ConfirmingLaws.{connection-refuses, connection-passes}
use Rattle.exchange.proofs.confirm_on.Goals as goal

pub returns-in_err-read_connection : goal.returns-in_err-read_connection
returns-in_err-read_connection c =
    let a = c.args in
    handed-on c.from_residual.result c.from_residual.ensures.1 ∙ sym (connection-refuses a.channel a.octets.now _ (sym c.read_connection.ensures ∙ c.in_err-read_connection.was))

pub returns : goal.returns
returns c =
    let a = c.args in
    c.confirmed_behind.ensures ∙ sym (connection-passes a.channel a.octets.now (sym c.read_connection.ensures ∙ c.in_ok-read_connection.was))
