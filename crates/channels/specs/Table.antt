-- Document 02, R-1: "four channels, numbered 1 to 4, each open or closed with a receive and a send counter from 0 to 255". How many there
-- are is the length of the list: but for `many`, nothing here or above says a number of channels.
use Rattle.std.specs.Prelude.{ℕ, zero, suc, ◌+◌, ◌%◌, List, true, false, get_or, set, replicate}
use Rattle.channels.specs.declared.Channel.{Channel}

-- "four channels": the one place of the definitions that says how many
abbrev pub many : ℕ
many = 4

abbrev pub closed : Channel
closed = record { opened = false; receive = 0; send = 0 }

-- "a fresh channel (counters 0 ..)"
abbrev pub fresh : Channel
fresh = record { opened = true; receive = 0; send = 0 }

abbrev pub all_closed : ℕ → List Channel
all_closed n = replicate n closed

-- the channel of a number, the first being 1; one that is no channel's is closed: "20 channel not open, whatever its number"
abbrev pub channel_at : List Channel → ℕ → Channel
channel_at cs zero = closed
channel_at cs (suc k) = get_or cs k closed

-- the channels with another one under a number; a number that is no channel's leaves them
abbrev pub put : List Channel → ℕ → Channel → List Channel
put cs zero c = cs
put cs (suc k) c = set cs k c

-- the channel with other counters: the one place where a changed channel is made
abbrev pub counted : Channel → ℕ → ℕ → Channel
counted c receive send = record { opened = c.opened; receive = receive; send = send }

-- "raised by one, 255 going to 0"
unfoldable pub raised : ℕ → ℕ
raised n = (n + 1) % 256
