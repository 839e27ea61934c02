-- The inner call of what the numbers give, behind the test of the block's size; a block or numbers that do not fit are refused before it.
use Rattle.klumdray.proofs.ChannelLaws.{sent-sized, sent-fit, sent-unfit}
use Rattle.klumdray.proofs.Surface.{given-fits, given-none}
use Rattle.klumdray.specs.Channels.{are_channels}
use Rattle.octets.proofs.Truth.{and-false}
use Rattle.klumdray.proofs.klumdray_tunnelling_send.Goals as goal

pub of_written-requires : goal.of_written-requires
of_written-requires c = sent-sized _ c.send-written.ensures

pub returns-then-not-are_channels : goal.returns-then-not-are_channels
returns-then-not-are_channels c =
    rw c.number.ensures (sent-unfit _ _ _ _ _ _ (rw (← c.are_channels.ensures, c.if-not-are_channels.true)))

pub returns-in_default : goal.returns-in_default
returns-in_default c =
    rw c.number-in_default.ensures (sent-unfit _ _ _ _ _ _ (rw (given-none _ _ c.message_given.ensures c.in_default.is) (and-false (are_channels c.args.channels.now))))

pub returns : goal.returns
returns c =
    let fit = given-fits _ c.message_given.ensures c.in-Some.is in
    sent-fit _ _ _ _ _ _ (rw (← c.are_channels.ensures, c.if-not-are_channels.false, fit.0)) (rw fit.1 at c.send-written.ensures) c.of_written.ensures
