-- What each call answers, by the one fact that decides it.
use Rattle.std.specs.Prelude.{Ok, Err}
use Prim.Native.Nat.{ℕ, ◌+◌, ◌*◌, ◌/◌, ◌%◌, ◌^◌, ◌<◌}
use mathlib.Core.Bool.{true, false, not}
use mathlib.Core.List.{[], ◌∷◌}
use mathlib.Core.Path.{◌≡◌, ap, ◌∙◌}
use native.Mathlib.Omega.{arith}
use lib.IntN.{ℤ, pos, sub_ℕ, ◌+ℤ◌, ◌*ℤ◌}
use borrow.Author.Tests.{eq-eqb, ne_eqb}
use Rattle.frame.proofs.Order.{refused-before, passed-before}
use Rattle.frame.specs.Order.{◌gives◌, first_of, answer_by}
use Rattle.frame.specs.declared.Refusal.{Refusal}
use Rattle.frame.specs.declared.Refusal.TheVariants.{OutOfRange, Invalid, PastTotal}
use Rattle.leak.specs.Float.{mantissa_of, hundredths_of}
use Rattle.leak.specs.Reading.{code_tests, read_code}
use Rattle.leak.specs.Total.{in_total, add_to}
use Rattle.leak.specs.Writing.{code_for, in_reach, write_code}

-- the value by the bits themselves: the sign, E, and the eleven mantissa bits
pub value-by-bits : (sign e low : ℕ) → sign < 2 → e < 16 → low < 2048
    → hundredths_of (sign * 32768 + e * 2048 + low) ≡ sub_ℕ low (sign * 2048) *ℤ pos (2 ^ e)
unfolding hundredths_of mantissa_of
value-by-bits sign e low h k l =
    let x : (sign * 32768 + e * 2048 + low) / 2048 % 16 ≡ e = omega arith in
    let y : (sign * 32768 + e * 2048 + low) % 2048 ≡ low = omega arith in
    let z : (sign * 32768 + e * 2048 + low) / 32768 ≡ sign = omega arith in
    rw (x, y, z)

module _ (code : ℕ) where
  pub read-invalid : code ≡ 0x7FFF → read_code code ≡ Err Invalid
  unfolding read_code
  read-invalid e = rw (eq-eqb code 0x7FFF e)

  pub read-valid : (code ≡ 0x7FFF → ⊥) → read_code code ≡ Ok (hundredths_of code)
  unfolding read_code
  read-valid n = rw (ne_eqb code 0x7FFF n)

module _ (z : ℤ) where
  pub write-within : in_reach z ≡ true → write_code z ≡ Ok (code_for z)
  unfolding write_code
  write-within e = rw e

  pub write-beyond : in_reach z ≡ false → write_code z ≡ Err OutOfRange
  unfolding write_code
  write-beyond e = rw e

module _ (total : ℤ) (code : ℕ) where
  pub add-invalid : code ≡ 0x7FFF → add_to total code ≡ Err Invalid
  unfolding add_to
  add-invalid e = rw (eq-eqb code 0x7FFF e)

  pub add-past : (code ≡ 0x7FFF → ⊥) → in_total (total +ℤ hundredths_of code) ≡ false → add_to total code ≡ Err PastTotal
  unfolding add_to
  add-past n e = rw (ne_eqb code 0x7FFF n, e)

  pub add-within : (code ≡ 0x7FFF → ⊥) → in_total (total +ℤ hundredths_of code) ≡ true → add_to total code ≡ Ok (total +ℤ hundredths_of code)
  unfolding add_to
  add-within n e = rw (ne_eqb code 0x7FFF n, e)

  -- what the reader refuses, adding refuses
  pub add-unread : {r : Refusal} → read_code code ≡ Err r → add_to total code ≡ Err r
  unfolding add_to read_code
  add-unread = refused-before (code_tests code) (not (in_total (total +ℤ hundredths_of code)) gives PastTotal ∷ []) (hundredths_of code) (total +ℤ hundredths_of code)

  -- and what it reads is added within the range, and refused past it
  module _ {v : ℤ} (read : read_code code ≡ Ok v) where
    behind : (hundredths_of code ≡ v) × (add_to total code ≡ answer_by Err (Ok (total +ℤ hundredths_of code)) (first_of (not (in_total (total +ℤ hundredths_of code)) gives PastTotal ∷ [])))
    unfolding add_to read_code
    behind =
        let w = passed-before (code_tests code) (not (in_total (total +ℤ hundredths_of code)) gives PastTotal ∷ []) (hundredths_of code) (total +ℤ hundredths_of code) read in
        (w.0, ap (answer_by Err (Ok (total +ℤ hundredths_of code))) w.1)

    pub read-within : in_total (total +ℤ v) ≡ true → add_to total code ≡ Ok (total +ℤ v)
    read-within e = behind.1 ∙ rw (behind.0, e)

    pub read-past : in_total (total +ℤ v) ≡ false → add_to total code ≡ Err PastTotal
    read-past e = behind.1 ∙ rw (behind.0, e)
