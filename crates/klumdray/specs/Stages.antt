-- The lent block and the numbers in stages: for the contracts of private functions. No public contract rests on these definitions.
use Rattle.std.specs.Prelude.{ℕ, zero, suc, ◌+◌, ◌*◌, ◌%◌, ◌^◌, ◌<◌, List, [], ◌∷◌, Bool, true, false, cond, ℤ, length, ltb, leb, eqb, Result, Ok, Err, Option, Some, None}
use Rattle.octets.specs.Octets.{octet_at}
use Rattle.octets.specs.Word.{high, low, word_at}
use Rattle.octets.specs.Room.{laid}
use Rattle.channels.specs.declared.Channel.{Channel}
use Rattle.station.specs.declared.Telegram.{Telegram}
use Rattle.station.specs.declared.Telegram.TheVariants.{Increment, Repetition, OtherGroup, NoIncrement}
use Rattle.klumdray.specs.Litres.{total_octets}
use Rattle.klumdray.specs.Channels.{channel_size, open_place, receive_place, send_place}
use Rattle.frame.specs.declared.Refusal.{Refusal}

-- the side that the step inside is handed: 2, which is none, for every number that is none
abbrev pub side_or_none : ℕ → ℕ
side_or_none side = cond (ltb side 2) side 2

-- where a side's half begins, how many octets of it are the frame's, and the block with a frame put there
abbrev pub start_of : ℕ → ℕ
start_of side = cond (eqb side 0) 0 265

abbrev pub kept_in : List ℕ → ℕ → ℕ
kept_in block start = cond (leb (word_at block start) 263) (word_at block start) 0

unfoldable pub remembered_at : ℕ → List ℕ → List ℕ → List ℕ
remembered_at start s block = laid s (start + 2) (laid (high (length s % 65536) ∷ low (length s % 65536) ∷ []) start block)

-- the number of a channel that the call inside is handed: 0, which is no channel's, for every number that is no octet
abbrev pub channel_or_none : ℕ → ℕ
channel_or_none n = cond (ltb n 256) n 0

-- an octet of a channel's, and the channel of them; a number that is no channel's has none of the block's, and those that are missing are 0
abbrev pub octet_in : List ℕ → ℕ → ℕ → ℕ
octet_in block zero place = 0
octet_in block (suc k) place = octet_at block (channel_size * k + place)

abbrev pub held_channel : List ℕ → ℕ → Channel
held_channel block n = record { opened = eqb (octet_in block n open_place) 0x01; receive = octet_in block n receive_place; send = octet_in block n send_place }

-- what a caller's numbers give, where they fit
abbrev pub given : {A : Type 0} → Bool → A → Option A
given fit x = cond fit (Some x) None

-- a size that its number holds
abbrev pub Sized : Result ℕ Refusal → Type 0
Sized (Ok n) = n < 2 ^ 16
Sized (Err r) = Unit {0}

-- a total laid over its block, where there is a new one
abbrev pub sum_laid : Result ℤ Refusal → List ℕ → List ℕ
sum_laid (Ok s) block = laid (total_octets s) 0 block
sum_laid (Err r) block = block

abbrev pub taken_laid : ℤ → Result Telegram Refusal → List ℕ → List ℕ
taken_laid total (Ok (Increment code)) block = laid (total_octets total) 0 block
taken_laid total (Ok Repetition) block = block
taken_laid total (Ok OtherGroup) block = block
taken_laid total (Ok NoIncrement) block = block
taken_laid total (Err r) block = block

-- whether the frame becomes the remembered one
abbrev pub is_accepted : Result Telegram Refusal → Bool
is_accepted (Ok (Increment code)) = true
is_accepted (Ok Repetition) = true
is_accepted (Ok OtherGroup) = true
is_accepted (Ok NoIncrement) = true
is_accepted (Err r) = false
