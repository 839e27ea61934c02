-- The room's test, those of header and connection header, and the channel's behind them.
use mathlib.Core.Path.{sym, ◌∙◌}
use borrow.Author.Tests.{lt-ltb}
use Rattle.frame.proofs.HandedOn.{handed-on}
use Rattle.exchange.proofs.ReceivingLaws.{connection-refuses, connection-passes}
use Rattle.exchange.specs.Receiving.{received}
use Rattle.exchange.proofs.receiving.received.Goals as goal

pub returns-then-room-lt10 : goal.returns-then-room-lt10
unfolding received
returns-then-room-lt10 c = rw (lt-ltb _ _ c.if-room-lt10.true)

pub returns-in_err-read_connection : goal.returns-in_err-read_connection
returns-in_err-read_connection c =
    let a = c.args in
    handed-on c.from_residual.result c.from_residual.ensures.1 ∙ sym (connection-refuses a.octets.now a.channel a.room c.if-room-lt10.false _ (sym c.read_connection.ensures ∙ c.in_err-read_connection.was))

pub returns : goal.returns
returns c =
    let a = c.args in
    c.received_behind.ensures ∙ sym (connection-passes a.octets.now a.channel a.room c.if-room-lt10.false (sym c.read_connection.ensures ∙ c.in_ok-read_connection.was))
