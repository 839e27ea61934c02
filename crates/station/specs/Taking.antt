-- A station that listens to one TP1 line: what each frame there is to the total of one group (docs/DECISIONS.md, H12 to H14). What is refused, goes
-- to another group, is a repetition or writes no two-octet float adds nothing, and everything else adds its value: no increment is lost, and none
-- counted twice.
use Rattle.std.specs.Prelude.{ℕ, Bool, cond, ◌&&◌, List, eqb, ℤ, Result, Ok, Err, Option, Some, None}
use Rattle.frame.specs.declared.Meaning.{Meaning}
use Rattle.tp1.specs.Reading.{read_tp1, payload_in}
use Rattle.coupler.specs.Memory.{is_repetition}
use Rattle.leak.specs.Increment.{increment_in}
use Rattle.leak.specs.Total.{add_to}
use Rattle.station.specs.declared.Telegram.{Telegram}
use Rattle.station.specs.declared.Telegram.TheVariants.{Increment, Repetition, OtherGroup, NoIncrement}
use Rattle.station.specs.declared.Tally.{Tally}
use Rattle.frame.specs.declared.Refusal.{Refusal}

-- "AT 1 means a group address"
abbrev pub is_to : ℕ → Meaning → Bool
is_to group m = m.group && eqb m.destination group

abbrev pub telegram_of : Option ℕ → Result Telegram Refusal
telegram_of (Some code) = Ok (Increment code)
telegram_of None = Ok NoIncrement

-- an accepted frame, beside the one remembered: R-2's rule says which is a repetition
unfoldable pub telegram_by : ℕ → List ℕ → List ℕ → Meaning → Result Telegram Refusal
telegram_by group remembered s m =
    cond (is_to group m) (cond (is_repetition remembered s) (Ok Repetition) (telegram_of (increment_in (payload_in (Ok m) s)))) (Ok OtherGroup)

abbrev pub telegram_for : ℕ → List ℕ → List ℕ → Result Meaning Refusal → Result Telegram Refusal
telegram_for group remembered s (Ok m) = telegram_by group remembered s m
telegram_for group remembered s (Err r) = Err r

-- what octets from the line are to a station of this group
unfoldable pub telegram_in : ℕ → List ℕ → List ℕ → Result Telegram Refusal
telegram_in group remembered s = telegram_for group remembered s (read_tp1 s)

-- an increment added, or refused by 23 or 24: "the total stays"
abbrev pub added_by : ℤ → ℕ → Result ℤ Refusal → Tally
added_by total code (Ok sum) = record { telegram = Ok (Increment code); total = sum }
added_by total code (Err r) = record { telegram = Err r; total = total }

unfoldable pub summed_by : ℤ → ℕ → Tally
summed_by total code = added_by total code (add_to total code)

-- whatever is no increment leaves the total
abbrev pub counted_by : ℤ → Result Telegram Refusal → Tally
counted_by total (Ok (Increment code)) = summed_by total code
counted_by total (Ok Repetition) = record { telegram = (Ok Repetition); total = total }
counted_by total (Ok OtherGroup) = record { telegram = (Ok OtherGroup); total = total }
counted_by total (Ok NoIncrement) = record { telegram = (Ok NoIncrement); total = total }
counted_by total (Err r) = record { telegram = Err r; total = total }

unfoldable pub taken_by : ℤ → ℕ → List ℕ → List ℕ → Tally
taken_by total group remembered s = counted_by total (telegram_in group remembered s)

-- "nothing remembered changes" with a refusal; "Afterwards the accepted frame is the remembered one", whichever group it went to
abbrev pub kept_by : Result Telegram Refusal → List ℕ → List ℕ → List ℕ
kept_by (Ok (Increment code)) remembered s = s
kept_by (Ok Repetition) remembered s = s
kept_by (Ok OtherGroup) remembered s = s
kept_by (Ok NoIncrement) remembered s = s
kept_by (Err r) remembered s = remembered
