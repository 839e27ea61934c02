-- The inner call, with the channel that the block holds under the number handed on.
use Rattle.klumdray.proofs.counters.send.Goals as goal

pub returns : goal.returns
returns c =
    rw (← c.number_of-number.ensures, ← c.channel_in-held.ensures) c.send_on.ensures
