-- What is counted, and by how much the total rises: the definition's tests one after the other.
use Rattle.std.specs.Prelude.{Result, Ok, Err, Option, Some, None}
use Prim.Native.Nat.{ℕ, ◌<◌}
use mathlib.Core.Bool.{true, false}
use mathlib.Core.List.{List}
use mathlib.Core.Path.{◌≡◌, refl, ap, subst}
use native.Mathlib.Omega.{arith}
use lib.IntN.{ℤ, ◌+ℤ◌}
use Rattle.octets.proofs.Truth.{by_cases}
use Rattle.octets.proofs.Word.{word_below}
use Rattle.octets.specs.Octets.{octet_at, Octets}
use Rattle.octets.specs.Word.{word_at}
use Rattle.frame.specs.declared.Meaning.{Meaning}
use Rattle.frame.specs.declared.Refusal.{Refusal}
use Rattle.tp1.proofs.RoundTrip.{read-laid}
use Rattle.tp1.specs.Reading.{read_tp1, payload_in}
use Rattle.coupler.specs.Memory.{is_repetition}
use Rattle.frame.proofs.Apart.{err-ok, none-some, some-one}
use Rattle.leak.proofs.Series.{sum_is}
use Rattle.leak.specs.Float.{hundredths_of}
use Rattle.leak.specs.Increment.{is_increment, increment_in}
use Rattle.leak.specs.Total.{add_to}
use Rattle.station.specs.Taking.{is_to, telegram_of, telegram_by, telegram_for, telegram_in, added_by, summed_by, counted_by, taken_by}
use Rattle.station.specs.declared.Telegram.{Telegram}
use Rattle.station.specs.declared.Telegram.TheVariants.{Increment, Repetition, OtherGroup, NoIncrement}
use Rattle.station.proofs.Apart.{apart, increment-one}

-- an increment on the line: an accepted frame to the group that is no repetition and carries a two-octet float
pub record Comes (group : ℕ) (remembered s : List ℕ) (code : ℕ) : Type 0 where
  pub meaning : Meaning
  pub read : read_tp1 s ≡ Ok meaning
  pub to : is_to group meaning ≡ true
  pub new : is_repetition remembered s ≡ false
  pub carries : increment_in (payload_in (Ok meaning) s) ≡ Some code

module _ (group : ℕ) (remembered s : List ℕ) (code : ℕ) where
  carried : (c : Option ℕ) → telegram_of c ≡ Ok (Increment code) → c ≡ Some code
  carried (Some d) e = ap Some (increment-one e)
  carried None e = apart (Ok NoIncrement) (Ok (Increment code)) e (λ n. omega arith)

  pub recognised : telegram_in group remembered s ≡ Ok (Increment code) → Comes group remembered s code
  unfolding telegram_in telegram_by
  recognised e = go (read_tp1 s) refl e
    where
      frame : (m : Meaning) → read_tp1 s ≡ Ok m → telegram_by group remembered s m ≡ Ok (Increment code) → Comes group remembered s code
      frame m p x =
          by_cases (is_to group m)
          (λ t.
          by_cases (is_repetition remembered s)
          (λ r. apart (Ok Repetition) (Ok (Increment code)) (rw (t, r) at x) (λ n. omega arith))
          (λ r. record { meaning = m; read = p; to = t; new = r; carries = carried (increment_in (payload_in (Ok m) s)) (rw (t, r) at x) }))
          (λ t. apart (Ok OtherGroup) (Ok (Increment code)) (rw t at x) (λ n. omega arith))

      go : (a : Result Meaning Refusal) → read_tp1 s ≡ a → telegram_for group remembered s a ≡ Ok (Increment code) → Comes group remembered s code
      go (Ok m) p x = frame m p x
      go (Err r) p x = err-ok x

  pub comes : Comes group remembered s code → telegram_in group remembered s ≡ Ok (Increment code)
  unfolding telegram_in telegram_by
  comes c = rw (c.read, c.to, c.new, c.carries)

  -- its code has 16 bits
  pub code-small : Octets s → telegram_in group remembered s ≡ Ok (Increment code) → code < 65536
  unfolding increment_in
  code-small o e =
      let c = recognised e in
      let p : List ℕ = payload_in (Ok c.meaning) s in
      let octets : Octets p = (read-laid s c.meaning o c.read).valid.octets in
      let small : word_at p 2 < 65536 = word_below (octet_at p 2) (octet_at p 3) (octets 2) (octets 3) in
      by_cases (is_increment p)
      (λ i. subst (λ (n : ℕ). n < 65536) (some-one (rw i at c.carries)) small)
      (λ i. none-some (rw i at c.carries))

-- counted: what comes, and adding takes it
module _ (total : ℤ) (group : ℕ) (remembered s : List ℕ) where
  pub counted_is : (code : ℕ) (sum : ℤ) → telegram_in group remembered s ≡ Ok (Increment code) → add_to total code ≡ Ok sum
      → taken_by total group remembered s ≡ record { telegram = Ok (Increment code); total = sum }
  unfolding taken_by summed_by
  counted_is code sum e f = rw (e, f)

  pub uncounted-is : (code : ℕ) (r : Refusal) → telegram_in group remembered s ≡ Ok (Increment code) → add_to total code ≡ Err r
      → taken_by total group remembered s ≡ record { telegram = Err r; total = total }
  unfolding taken_by summed_by
  uncounted-is code r e f = rw (e, f)

  -- what an answer says of the total: an increment raises it by its value, anything else leaves it
  abbrev pub After : Result Telegram Refusal → ℤ → Type 0
  After (Ok (Increment code)) after = (telegram_in group remembered s ≡ Ok (Increment code)) × ((add_to total code ≡ Ok after) × (after ≡ total +ℤ hundredths_of code))
  After (Ok Repetition) after = after ≡ total
  After (Ok OtherGroup) after = after ≡ total
  After (Ok NoIncrement) after = after ≡ total
  After (Err r) after = after ≡ total

  pub tallied : After (taken_by total group remembered s).telegram (taken_by total group remembered s).total
  unfolding taken_by summed_by
  tallied = go (telegram_in group remembered s) refl
    where
      add : (code : ℕ) → telegram_in group remembered s ≡ Ok (Increment code) → (a : Result ℤ Refusal) → add_to total code ≡ a → After (added_by total code a).telegram (added_by total code a).total
      add code e (Ok sum) f = (e, (f, sum_is total code sum f))
      add code e (Err r) f = refl

      go : (t : Result Telegram Refusal) → telegram_in group remembered s ≡ t → After (counted_by total t).telegram (counted_by total t).total
      go (Ok (Increment code)) e = add code e (add_to total code) refl
      go (Ok Repetition) e = refl
      go (Ok OtherGroup) e = refl
      go (Ok NoIncrement) e = refl
      go (Err r) e = refl
