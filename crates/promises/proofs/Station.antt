-- A station that listens to one TP1 line: from octets to litres. What is counted, and what the total then is, of every answer that taking allows.
use Rattle.std.specs.Prelude.{Result, Ok, Err, None}
use Prim.Native.Nat.{ℕ}
use mathlib.Core.Bool.{true, false}
use mathlib.Core.List.{List, [], ◌∷◌}
use mathlib.Core.Logic.{◌↔◌}
use mathlib.Core.Path.{◌≡◌, refl, sym, ap, ◌∙◌, subst}
use lib.IntN.{ℤ, ◌+ℤ◌}
use Rattle.frame.proofs.Numbers.{number-some}
use Rattle.frame.specs.Answers.{Numbered, accepted, refused, meaning_values}
use Rattle.frame.specs.declared.Meaning.{Meaning}
use Rattle.frame.specs.declared.Refusal.{Refusal}
use Rattle.tp1.proofs.Answers.{tp1-tells}
use Rattle.tp1.specs.Answers.{tp1_numbered}
use Rattle.tp1.specs.Reading.{read_tp1, payload_in}
use Rattle.coupler.specs.Memory.{is_repetition}
use Rattle.leak.proofs.Answers.{added-tells}
use Rattle.leak.specs.Increment.{increment_in}
use Rattle.leak.specs.Answers.{signed_values, added_numbered}
use Rattle.leak.specs.Float.{hundredths_of}
use Rattle.leak.specs.Series.{sum_of}
use Rattle.leak.specs.Total.{add_to}
use Rattle.station.proofs.Answers.{increment-as}
use Rattle.station.proofs.Exactly.{Comes, recognised, comes, counted_is, uncounted-is, After, tallied}
use Rattle.station.proofs.Series.{total-of-a-line}
use Rattle.station.specs.Answers.{telegram_numbered}
use Rattle.station.specs.Series.{Follows, left, counted}
use Rattle.station.specs.Taking.{is_to, telegram_by, telegram_in, taken_by}
use Rattle.station.specs.declared.Tally.{Tally}
use Rattle.station.specs.declared.Telegram.{Telegram}
use Rattle.station.specs.declared.Telegram.TheVariants.{Increment, Repetition, OtherGroup, NoIncrement}

module _ (total : ℤ) (group : ℕ) (remembered s : List ℕ) (t : Tally) (w : t ≡ taken_by total group remembered s) where
  abbrev After-it : Result Telegram Refusal → ℤ → Type 0
  After-it = After total group remembered s

  after-it : After-it t.telegram t.total
  after-it = subst (λ (x : Tally). After-it x.telegram x.total) (sym w) (tallied total group remembered s)

  -- a frame is counted exactly if it comes to the group, new and with a two-octet float, and the total takes its value; then the total is the sum
  pub counted-exactly : (code : ℕ) → telegram_numbered t.telegram ≡ accepted (1 ∷ code ∷ [])
      ↔ (Comes group remembered s code × (added_numbered (add_to total code) ≡ accepted (signed_values t.total)))
  counted-exactly code = (there, back)
    where
      there : telegram_numbered t.telegram ≡ accepted (1 ∷ code ∷ []) → Comes group remembered s code × (added_numbered (add_to total code) ≡ accepted (signed_values t.total))
      there e =
          let is : t.telegram ≡ Ok (Increment code) = increment-as t.telegram code e in
          let a : After-it (Ok (Increment code)) t.total = subst (λ (x : Result Telegram Refusal). After-it x t.total) is after-it in
          (recognised group remembered s code a.0, ap added_numbered a.1.0)

      back : Comes group remembered s code × (added_numbered (add_to total code) ≡ accepted (signed_values t.total)) → telegram_numbered t.telegram ≡ accepted (1 ∷ code ∷ [])
      back g = go (add_to total code) refl g.1
        where
          go : (a : Result ℤ Refusal) → add_to total code ≡ a → added_numbered a ≡ accepted (signed_values t.total) → telegram_numbered t.telegram ≡ accepted (1 ∷ code ∷ [])
          go (Ok sum) p e = ap (λ (x : Tally). telegram_numbered x.telegram) (w ∙ counted_is total group remembered s code sum (comes group remembered s code g.0) p)
          go (Err r) p e = absurd (number-some r (ap (λ (n : Numbered). n.number) e))

  -- what is counted raises the total by its value, and nothing else changes it: refused, repeated, to another group, or no increment
  pub raises : (code : ℕ) → telegram_numbered t.telegram ≡ accepted (1 ∷ code ∷ []) → t.total ≡ total +ℤ hundredths_of code
  raises code e = (subst (λ (x : Result Telegram Refusal). After-it x t.total) (increment-as t.telegram code e) after-it).1.1

  pub stays : ((code : ℕ) → telegram_numbered t.telegram ≡ accepted (1 ∷ code ∷ []) → ⊥) → t.total ≡ total
  stays n = go t.telegram refl after-it
    where
      go : (x : Result Telegram Refusal) → t.telegram ≡ x → After-it x t.total → t.total ≡ total
      go (Ok (Increment code)) e a = absurd (n code (ap telegram_numbered e))
      go (Ok Repetition) e a = a
      go (Ok OtherGroup) e a = a
      go (Ok NoIncrement) e a = a
      go (Err r) e a = a

  -- what each frame is told as, and the total then: the tests in their order, which leave no case out and no choice

  -- so is what the station takes
  told-as : (x : Tally) → taken_by total group remembered s ≡ x → (telegram_numbered t.telegram ≡ telegram_numbered x.telegram) × (t.total ≡ x.total)
  told-as x e = (ap (λ (y : Tally). telegram_numbered y.telegram) (w ∙ e), ap (λ (y : Tally). y.total) (w ∙ e))

  read_as : (m : Meaning) → tp1_numbered (read_tp1 s) ≡ accepted (meaning_values m) → read_tp1 s ≡ Ok m
  read_as m e = tp1-tells.apart (read_tp1 s) (Ok m) e

  -- the reader's refusals
  pub refused-by-reader : (r : Refusal) → tp1_numbered (read_tp1 s) ≡ refused r → (telegram_numbered t.telegram ≡ refused r) × (t.total ≡ total)
  unfolding taken_by telegram_in
  refused-by-reader r e = told-as (record { telegram = Err r; total = total }) (rw (tp1-tells.apart (read_tp1 s) (Err r) e))

  -- "A frame that is not to the group address, AT 1 and this destination, is of another group", repetition or not
  pub of-another-group : (m : Meaning) → tp1_numbered (read_tp1 s) ≡ accepted (meaning_values m) → is_to group m ≡ false → (telegram_numbered t.telegram ≡ accepted (3 ∷ [])) × (t.total ≡ total)
  unfolding taken_by telegram_in telegram_by
  of-another-group m e to = told-as (record { telegram = (Ok OtherGroup); total = total }) (rw (read_as m e, to))

  -- "is a repetition if the frame remembered is as long and all octets agree except the repeat bit and the check octet", whatever it carries
  pub a-repetition : (m : Meaning) → tp1_numbered (read_tp1 s) ≡ accepted (meaning_values m) → is_to group m ≡ true → is_repetition remembered s ≡ true
      → (telegram_numbered t.telegram ≡ accepted (2 ∷ [])) × (t.total ≡ total)
  unfolding taken_by telegram_in telegram_by
  a-repetition m e to again = told-as (record { telegram = (Ok Repetition); total = total }) (rw (read_as m e, to, again))

  -- "Otherwise it is no increment if its payload is not one"
  pub not-an-increment : (m : Meaning) → tp1_numbered (read_tp1 s) ≡ accepted (meaning_values m) → is_to group m ≡ true → is_repetition remembered s ≡ false
      → increment_in (payload_in (Ok m) s) ≡ None → (telegram_numbered t.telegram ≡ accepted (4 ∷ [])) × (t.total ≡ total)
  unfolding taken_by telegram_in telegram_by
  not-an-increment m e to new none = told-as (record { telegram = (Ok NoIncrement); total = total }) (rw (read_as m e, to, new, none))

  -- "then of a frame to be counted 23, the sum past 64 bits (24)": as adding refuses
  pub refused-by-adding : (code : ℕ) (r : Refusal) → Comes group remembered s code → added_numbered (add_to total code) ≡ refused r
      → (telegram_numbered t.telegram ≡ refused r) × (t.total ≡ total)
  refused-by-adding code r c e =
      told-as (record { telegram = Err r; total = total }) (uncounted-is total group remembered s code r (comes group remembered s code c) (added-tells.apart (add_to total code) (Err r) e))

-- over any series of frames on the line, damaged ones, repeats and other groups' among them, the total is the start plus the values of those that
-- the answers say were counted
pub line-adds-up : (group : ℕ) (start : ℤ) (remembered : List ℕ) (frames : List (List ℕ)) (answers : List Tally) → Follows group start remembered frames answers
    → left start answers ≡ start +ℤ sum_of (counted answers)
line-adds-up = total-of-a-line
