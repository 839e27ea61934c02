-- The constructors of what a frame is differ: told by the place of each in the enum.
use Rattle.std.specs.Prelude.{Result, Ok, Err}
use Prim.Native.Nat.{ℕ}
use mathlib.Core.Path.{◌≡◌, ap}
use Rattle.frame.specs.declared.Refusal.{Refusal}
use Rattle.station.specs.declared.Telegram.{Telegram}
use Rattle.station.specs.declared.Telegram.TheVariants.{Increment, Repetition, OtherGroup, NoIncrement}

abbrev place : Result Telegram Refusal → ℕ
place (Ok (Increment code)) = 1
place (Ok Repetition) = 2
place (Ok OtherGroup) = 3
place (Ok NoIncrement) = 4
place (Err r) = 0

pub apart : {A : Type 0} (t u : Result Telegram Refusal) → t ≡ u → (place t ≡ place u → ⊥) → A
apart t u e n = absurd (n (ap place e))

pub increment-one : {c d : ℕ} → ◌≡◌ {A = Result Telegram Refusal} (Ok (Increment c)) (Ok (Increment d)) → c ≡ d
increment-one e = cc
