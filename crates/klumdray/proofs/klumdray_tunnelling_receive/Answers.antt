-- One application of `took-fit` to what the calls ensure, in their order; a block of another size is `took-unfit`'s.
use mathlib.Core.Path.{sym, ◌∙◌}
use Rattle.klumdray.proofs.ChannelLaws.{took-fit, took-unfit}
use Rattle.klumdray.proofs.klumdray_tunnelling_receive.Goals as goal

pub returns-then-are_channels : goal.returns-then-are_channels
returns-then-are_channels c =
    let a = c.args in
    let right = sym c.are_channels.ensures ∙ c.if-are_channels.true in
    took-fit a.channels.now a.octets.now a.room.now right c.octet-number.ensures c.channel_in-channel.ensures c.receive_on-answer.ensures c.raise_received.ensures c.message-message.ensures.holds c.of_received.ensures

pub returns-else-are_channels : goal.returns-else-are_channels
returns-else-are_channels c = rw c.number.ensures (took-unfit _ _ _ (sym c.are_channels.ensures ∙ c.if-are_channels.false))
