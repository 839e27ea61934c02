-- A series of frames taken through the surface: the total in the block is the start and the values of what the answers say was counted.
use Rattle.std.specs.Prelude.{Result, Ok, Err}
use Prim.Native.Nat.{ℕ, ◌+◌, ◌*◌}
use mathlib.Core.Bool.{cond}
use mathlib.Core.List.{List, [], ◌∷◌}
use mathlib.Core.Path.{◌≡◌, refl, sym, ap, ◌∙◌}
use native.Mathlib.Omega.{arith}
use lib.Dec.{eqb}
use lib.IntN.{ℤ, ◌+ℤ◌, +ℤ_idr, +ℤ_assoc}
use Rattle.octets.proofs.Truth.{by_cases}
use Rattle.octets.specs.Octets.{Octets}
use Rattle.frame.proofs.Numbers.{number-listed}
use Rattle.frame.specs.Refusals.{number}
use Rattle.frame.specs.declared.Refusal.{Refusal}
use Rattle.coupler.specs.Memory.{recalled}
use Rattle.leak.specs.Float.{hundredths_of}
use Rattle.leak.specs.Series.{sum_of}
use Rattle.station.proofs.Exactly.{After, tallied, code-small}
use Rattle.station.specs.Taking.{taken_by}
use Rattle.station.specs.declared.Tally.{Tally}
use Rattle.station.specs.declared.Telegram.{Telegram}
use Rattle.station.specs.declared.Telegram.TheVariants.{Increment, Repetition, OtherGroup, NoIncrement}
use Rattle.klumdray.specs.Block.{remembered_in}
use Rattle.klumdray.specs.Decoding.{taken_in, code_in}
use Rattle.klumdray.specs.LineSeries.{Took, FollowsTaking, last_total, counted_codes}
use Rattle.klumdray.specs.Litres.{total_in, total_taken, telegram_number, is_lent, taken_through, TookFrame}
use Rattle.klumdray.proofs.LitresLaws.{inside-takes, inside-not}
use Rattle.klumdray.proofs.LitresNumbers.{total-back, sum-small}

abbrev counted_by : ℕ → List ℕ → List ℕ
counted_by answer rest = cond (eqb (taken_in answer) 1) (code_in answer ∷ rest) rest

module _ (total memory : List ℕ) (group : ℕ) (s : List ℕ) (o : Octets s) (rest : List ℕ) where
  -- a refusal's number has no bit above 7
  none-refused : (r : Refusal) → counted_by (number r) rest ≡ rest
  none-refused r = let z : taken_in (number r) ≡ 0 = omega (arith, (number-listed r).1) in rw z

  -- by what the frame was
  told : (frame : List ℕ) (t : Result Telegram Refusal) (after : ℤ) → After (total_in total) group frame s t after
      → total_in (total_taken after t total) +ℤ sum_of rest ≡ total_in total +ℤ sum_of (counted_by (telegram_number t) rest)
  told frame (Ok (Increment code)) after a =
      let small = code-small group frame s code o a.0 in
      let one : taken_in (256 + code * 65536) ≡ 1 = omega arith in
      let same : code_in (256 + code * 65536) ≡ code = omega arith in
      rw (one, same)
      (ap (λ (z : ℤ). z +ℤ sum_of rest) (total-back after (sum-small (total_in total) code after a.1.0) ∙ a.1.1)
      ∙ +ℤ_assoc (total_in total) (hundredths_of code) (sum_of rest))
  told frame (Ok Repetition) after a = refl
  told frame (Ok OtherGroup) after a = refl
  told frame (Ok NoIncrement) after a = refl
  told frame (Err r) after a = ap (λ (l : List ℕ). total_in total +ℤ sum_of l) (sym (none-refused r))

  pub taken-one : {answer : ℕ} {total' memory' : List ℕ} → TookFrame total memory group s answer total' memory'
      → total_in total' +ℤ sum_of rest ≡ total_in total +ℤ sum_of (counted_by answer rest)
  taken-one {answer} {total'} w =
      let both : (t : Tally) → taken_through total memory group s ≡ t → total_in (total_taken t.total t.telegram total) +ℤ sum_of rest ≡ total_in total +ℤ sum_of (counted_by (telegram_number t.telegram) rest)
      → total_in total' +ℤ sum_of rest ≡ total_in total +ℤ sum_of (counted_by answer rest) = λ t e x.
      ap (λ (l : List ℕ). total_in l +ℤ sum_of rest) (w.counted ∙ ap (λ (u : Tally). total_taken u.total u.telegram total) e)
      ∙ x ∙ ap (λ (n : ℕ). total_in total +ℤ sum_of (counted_by n rest)) (sym (w.answers ∙ ap (λ (u : Tally). telegram_number u.telegram) e)) in
      let frame : List ℕ = recalled (remembered_in memory) in
      by_cases (is_lent total memory group)
      (λ right. both (taken_by (total_in total) group frame s) (inside-takes total memory group s right) (told frame (taken_by (total_in total) group frame s).telegram (taken_by (total_in total) group frame s).total (tallied (total_in total) group frame s)))
      (λ wrong. both _ (inside-not total memory group s wrong) refl)

-- every frame's octets are below 256
abbrev pub AllOctets : List (List ℕ) → Type 0
AllOctets [] = Unit {0}
AllOctets (s ∷ ss) = Octets s × AllOctets ss

pub total-through : (group : ℕ) (total memory : List ℕ) (ss : List (List ℕ)) (ts : List Took) → AllOctets ss → FollowsTaking group total memory ss ts
    → total_in (last_total total ts) ≡ total_in total +ℤ sum_of (counted_codes ts)
total-through group total memory [] [] o f = sym (+ℤ_idr (total_in total))
total-through group total memory [] (t ∷ ts) o f = absurd f
total-through group total memory (s ∷ ss) [] o f = absurd f
total-through group total memory (s ∷ ss) (t ∷ ts) o f =
    total-through group t.total t.memory ss ts o.1 f.1 ∙ taken-one total memory group s o.0 (counted_codes ts) f.0
