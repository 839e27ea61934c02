-- One application of `confirmed-fit` to what the calls ensure, in their order; a block of another size is `confirmed-unfit`'s.
use mathlib.Core.Path.{sym, ◌∙◌}
use Rattle.klumdray.proofs.ChannelLaws.{confirmed-fit, confirmed-unfit}
use Rattle.klumdray.proofs.klumdray_tunnelling_confirm.Goals as goal

pub returns-then-are_channels : goal.returns-then-are_channels
returns-then-are_channels c =
    let a = c.args in
    let right = sym c.are_channels.ensures ∙ c.if-are_channels.true in
    confirmed-fit a.channels.now a.octets.now right c.octet-number.ensures c.channel_in-channel.ensures c.confirm_on-answer.ensures c.raise_confirmed.ensures c.of_confirmed.ensures

pub returns-else-are_channels : goal.returns-else-are_channels
returns-else-are_channels c = rw c.number.ensures (confirmed-unfit _ _ (sym c.are_channels.ensures ∙ c.if-are_channels.false))
