-- The station's answers as numbers and values: 0 and what the frame is (1 an increment with its code, 2 a repetition, 3 to another group,
-- 4 no increment), or the refusal's number; with it the total.
use Rattle.std.specs.Prelude.{[], ◌∷◌, Result, Ok, Err}
use Rattle.frame.specs.Answers.{Numbered, accepted, refused}
use Rattle.station.specs.declared.Telegram.{Telegram}
use Rattle.station.specs.declared.Telegram.TheVariants.{Increment, Repetition, OtherGroup, NoIncrement}
use Rattle.frame.specs.declared.Refusal.{Refusal}

abbrev pub telegram_numbered : Result Telegram Refusal → Numbered
telegram_numbered (Ok (Increment code)) = accepted (1 ∷ code ∷ [])
telegram_numbered (Ok Repetition) = accepted (2 ∷ [])
telegram_numbered (Ok OtherGroup) = accepted (3 ∷ [])
telegram_numbered (Ok NoIncrement) = accepted (4 ∷ [])
telegram_numbered (Err r) = refused r
