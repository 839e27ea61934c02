-- What a frame is, by its number and values, loses nothing.
use Rattle.std.specs.Prelude.{Result, Ok, Err}
use Prim.Native.Nat.{ℕ}
use mathlib.Core.Path.{◌≡◌, sym, ap}
use native.Mathlib.Omega.{arith}
use lib.ListN.{get_or}
use Rattle.frame.proofs.Numbers.{number-apart, number-some}
use Rattle.frame.specs.Answers.{Numbered}
use Rattle.frame.specs.Refusals.{number}
use Rattle.frame.specs.declared.Refusal.{Refusal}
use Rattle.station.specs.Answers.{telegram_numbered}
use Rattle.station.specs.declared.Telegram.{Telegram}
use Rattle.station.specs.declared.Telegram.TheVariants.{Increment, Repetition, OtherGroup, NoIncrement}

-- a refusal's number is no other answer's
pub refused_as : (t : Result Telegram Refusal) (r : Refusal) → (telegram_numbered t).number ≡ number r → t ≡ Err r
refused_as (Ok (Increment code)) r e = absurd (number-some r (sym e))
refused_as (Ok Repetition) r e = absurd (number-some r (sym e))
refused_as (Ok OtherGroup) r e = absurd (number-some r (sym e))
refused_as (Ok NoIncrement) r e = absurd (number-some r (sym e))
refused_as (Err q) r e = ap Err (number-apart q r e)

-- an increment's values are no other answer's
pub increment-as : (t : Result Telegram Refusal) (code : ℕ) → telegram_numbered t ≡ telegram_numbered (Ok (Increment code)) → t ≡ Ok (Increment code)
increment-as (Ok (Increment c)) code e = ap (λ (n : Numbered). (Ok (Increment (get_or n.values 1 0)))) e
increment-as (Ok Repetition) code e = let z : ◌≡◌ {A = ℕ} 2 1 = ap (λ (n : Numbered). get_or n.values 0 0) e in absurd (omega arith)
increment-as (Ok OtherGroup) code e = let z : ◌≡◌ {A = ℕ} 3 1 = ap (λ (n : Numbered). get_or n.values 0 0) e in absurd (omega arith)
increment-as (Ok NoIncrement) code e = let z : ◌≡◌ {A = ℕ} 4 1 = ap (λ (n : Numbered). get_or n.values 0 0) e in absurd (omega arith)
increment-as (Err r) code e = absurd (number-some r (ap (λ (n : Numbered). n.number) e))
