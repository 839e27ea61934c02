-- Over any series of frames the total is the start and the values of what was counted: one answer after the other.
use Rattle.std.specs.Prelude.{Result, Ok, Err}
use Prim.Native.Nat.{ℕ}
use mathlib.Core.List.{List, [], ◌∷◌}
use mathlib.Core.Path.{◌≡◌, sym, ap, ◌∙◌, subst}
use lib.IntN.{ℤ, ◌+ℤ◌, +ℤ_idr, +ℤ_assoc}
use Rattle.leak.specs.Float.{hundredths_of}
use Rattle.leak.specs.Series.{sum_of}
use Rattle.station.specs.Series.{Follows, left, counted_in, counted}
use Rattle.station.specs.declared.Tally.{Tally}
use Rattle.station.specs.declared.Telegram.{Telegram}
use Rattle.station.specs.declared.Telegram.TheVariants.{Increment, Repetition, OtherGroup, NoIncrement}
use Rattle.station.proofs.Exactly.{After, tallied}
use Rattle.frame.specs.declared.Refusal.{Refusal}

module _ (group : ℕ) where
  -- one answer in front of others
  one : (total : ℤ) (remembered s rest : List ℕ) (t : Result Telegram Refusal) (after : ℤ) → After total group remembered s t after → after +ℤ sum_of rest ≡ total +ℤ sum_of (counted_in t rest)
  one total remembered s rest (Ok (Increment code)) after a =
      ap (λ (z : ℤ). z +ℤ sum_of rest) a.1.1 ∙ +ℤ_assoc total (hundredths_of code) (sum_of rest)
  one total remembered s rest (Ok Repetition) after a = ap (λ (z : ℤ). z +ℤ sum_of rest) a
  one total remembered s rest (Ok OtherGroup) after a = ap (λ (z : ℤ). z +ℤ sum_of rest) a
  one total remembered s rest (Ok NoIncrement) after a = ap (λ (z : ℤ). z +ℤ sum_of rest) a
  one total remembered s rest (Err r) after a = ap (λ (z : ℤ). z +ℤ sum_of rest) a

  pub total-of-a-line : (total : ℤ) (remembered : List ℕ) (ss : List (List ℕ)) (ts : List Tally) → Follows group total remembered ss ts → left total ts ≡ total +ℤ sum_of (counted ts)
  total-of-a-line total remembered [] [] f = sym (+ℤ_idr total)
  total-of-a-line total remembered [] (t ∷ ts) f = absurd f
  total-of-a-line total remembered (s ∷ ss) [] f = absurd f
  total-of-a-line total remembered (s ∷ ss) (t ∷ ts) f =
      let after : After total group remembered s t.telegram t.total =
      subst (λ (x : Tally). After total group remembered s x.telegram x.total) (sym f.0) (tallied total group remembered s) in
      total-of-a-line t.total _ ss ts f.1 ∙ one total remembered s (counted ts) t.telegram t.total after
