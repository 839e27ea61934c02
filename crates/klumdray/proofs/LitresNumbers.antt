-- The numbers of the float's, the total's and the station's calls taken apart again: each is what the call inside answers, and nothing is lost.
use Rattle.std.specs.Prelude.{Result, Ok, Err, Option, Some, None}
use Prim.Native.Nat.{ℕ, ◌+◌, ◌*◌, ◌/◌, ◌%◌, ◌^◌, ◌<◌}
use mathlib.Core.List.{List}
use mathlib.Core.Path.{◌≡◌, refl, sym, ap, ◌∙◌, subst}
use native.Mathlib.Omega.{arith}
use lib.Dec.{eqb}
use lib.IntN.{ℤ, ◌+ℤ◌}
use lib.Signed.{mag}
use borrow.Author.Tests.{eqb-true, eqb-false, leb-true}
use Rattle.octets.proofs.Truth.{by_cases}
use Rattle.octets.proofs.Word.{word_back}
use Rattle.frame.proofs.Numbers.{refused-number}
use Rattle.leak.proofs.Chosen.{reach_of, code-valid}
use Rattle.leak.proofs.Codes.{mantissa-mag}
use Rattle.leak.proofs.Exactly.{read-invalid, read-valid, write-within, write-beyond, add-invalid, add-past}
use Rattle.leak.proofs.Range.{in_is}
use Rattle.leak.proofs.Scale.{scaled-mag}
use Rattle.leak.proofs.Series.{sum_is}
use Rattle.leak.specs.Float.{mantissa_of, exponent_of, hundredths_of}
use Rattle.leak.specs.Reading.{read_code}
use Rattle.leak.specs.Total.{in_total, add_to}
use Rattle.leak.specs.Writing.{in_reach, write_code}
use Rattle.frame.proofs.Apart.{err-ok, err-one, ok-err, ok-one}
use Rattle.leak.specs.Answers.{value_numbered, coded_numbered, carried_numbered, added_numbered}
use Rattle.station.proofs.Apart.{apart}
use Rattle.station.specs.Answers.{telegram_numbered}
use Rattle.station.specs.declared.Telegram.{Telegram}
use Rattle.station.specs.declared.Telegram.TheVariants.{Increment, Repetition, OtherGroup, NoIncrement}
use Rattle.klumdray.specs.Decoding.{bits, number_in, code_in, is_increment_in, taken_in, value_from, coded_from, carried_from, added_from, telegram_from, Tells}
use Rattle.klumdray.specs.Litres.{in_bits, signed_of, value_number, coded_number, carried_number, total_in, total_octets, bits_in, bits_octets, added_number, block_added, telegram_number}
use Rattle.klumdray.proofs.SignedBits.{signed-32, signed-64, bits-32}
use Rattle.klumdray.proofs.Telling.{number-alone, tells-refused, tells-accepted}
use Rattle.frame.specs.declared.Refusal.{Refusal}

-- a value of 32 bits
pub value_tells : (v : Result ℤ Refusal) → ((z : ℤ) → v ≡ Ok z → mag z < 2147483648) → Tells 64 value_from (value_number v) (value_numbered v) (λ r. v ≡ Err r)
value_tells (Ok z) small =
    let l = small z refl in
    let b = bits-32 z l in
    let none : number_in (in_bits 32 z * 4294967296) ≡ 0 = omega arith in
    let field : bits 32 32 (in_bits 32 z * 4294967296) ≡ in_bits 32 z = omega arith in
    tells-accepted none (λ r e. ok-err e) (omega arith) (rw none (rw (field, signed-32 z l) refl))
value_tells (Err q) small = tells-refused q refl refl (λ r e. err-one e) (omega arith) (rw (number-alone q, refused-number q))

pub coded-tells : (c : Result ℕ Refusal) → ((n : ℕ) → c ≡ Ok n → n < 65536) → Tells 32 coded_from (coded_number c) (coded_numbered c) (λ r. c ≡ Err r)
coded-tells (Ok n) small =
    let l = small n refl in
    let none : number_in (n * 65536) ≡ 0 = omega arith in
    let field : code_in (n * 65536) ≡ n = omega arith in
    tells-accepted none (λ r e. ok-err e) (omega arith) (rw (none, field))
coded-tells (Err q) small = tells-refused q refl refl (λ r e. err-one e) (omega arith) (rw (number-alone q, refused-number q))

-- what a payload carries is never refused
pub carried-tells : (c : Option ℕ) → ((n : ℕ) → c ≡ Some n → n < 65536) → Tells 32 carried_from (carried_number c) (carried_numbered c) (λ r. ⊥)
carried-tells (Some n) small =
    let l = small n refl in
    let none : number_in (256 + n * 65536) ≡ 0 = omega arith in
    let one : is_increment_in (256 + n * 65536) ≡ 1 = omega arith in
    let field : code_in (256 + n * 65536) ≡ n = omega arith in
    tells-accepted none (λ r e. e) (omega arith) (rw (none, one, field))
carried-tells None small = tells-accepted refl (λ r e. e) (omega arith) refl

pub telegram-tells : (t : Result Telegram Refusal) → ((n : ℕ) → t ≡ Ok (Increment n) → n < 65536) → Tells 32 telegram_from (telegram_number t) (telegram_numbered t) (λ r. t ≡ Err r)
telegram-tells (Ok (Increment n)) small =
    let l = small n refl in
    let none : number_in (256 + n * 65536) ≡ 0 = omega arith in
    let one : taken_in (256 + n * 65536) ≡ 1 = omega arith in
    let field : code_in (256 + n * 65536) ≡ n = omega arith in
    tells-accepted none (λ r e. err-ok (sym e)) (omega arith) (rw (none, one, field))
telegram-tells (Ok Repetition) small = tells-accepted refl (λ r e. apart (Ok Repetition) (Err r) e (λ n. omega arith)) (omega arith) refl
telegram-tells (Ok OtherGroup) small = tells-accepted refl (λ r e. apart (Ok OtherGroup) (Err r) e (λ n. omega arith)) (omega arith) refl
telegram-tells (Ok NoIncrement) small = tells-accepted refl (λ r e. apart (Ok NoIncrement) (Err r) e (λ n. omega arith)) (omega arith) refl
telegram-tells (Err q) small = tells-refused q refl refl (λ r e. err-one e) (omega arith) (rw (number-alone q, refused-number q))

-- a total in its block
joined : (n third second first c b a : ℕ) → n ≡ third * 65536 + c → third ≡ second * 65536 + b → second ≡ first * 65536 + a
    → first * 2 ^ 48 + a * 2 ^ 32 + b * 2 ^ 16 + c ≡ n
joined n third second first c b a p q r = omega arith

fields_back : (n : ℕ) → bits_in (bits_octets n) ≡ n
fields_back n =
    let lowest : n ≡ n / 2 ^ 16 * 65536 + n % 65536 = omega arith in
    let lower : n / 2 ^ 16 ≡ n / 2 ^ 32 * 65536 + n / 2 ^ 16 % 65536 = omega arith in
    let higher : n / 2 ^ 32 ≡ n / 2 ^ 48 * 65536 + n / 2 ^ 32 % 65536 = omega arith in
    rw (word_back (n / 2 ^ 48), word_back (n / 2 ^ 32 % 65536), word_back (n / 2 ^ 16 % 65536), word_back (n % 65536))
    (joined n (n / 2 ^ 16) (n / 2 ^ 32) (n / 2 ^ 48) (n % 65536) (n / 2 ^ 16 % 65536) (n / 2 ^ 32 % 65536) lowest lower higher)

pub total-back : (z : ℤ) → mag z < 9223372036854775808 → total_in (total_octets z) ≡ z
unfolding total_in total_octets
total-back z l = ap (signed_of 64) (fields_back (in_bits 64 z)) ∙ signed-64 z l

pub added-tells : (a : Result ℤ Refusal) (block : List ℕ) → ((z : ℤ) → a ≡ Ok z → mag z < 9223372036854775808)
    → Tells 8 (added_from (block_added a block)) (added_number a) (added_numbered a) (λ r. a ≡ Err r)
added-tells (Ok z) block small = tells-accepted refl (λ r e. ok-err e) (omega arith) (rw (total-back z (small z refl)) refl)
added-tells (Err q) block small = tells-refused q refl refl (λ r e. err-one e) (omega arith) (rw (number-alone q, refused-number q))

-- the bounds: what the calls inside answer fits
value-small : (c : ℕ) → c < 65536 → mag (hundredths_of c) < 2147483648
unfolding hundredths_of
value-small c h =
    let e : exponent_of c < 16 = omega arith in
    let l = scaled-mag (mantissa_of c) (exponent_of c) (mantissa-mag c h) e in
    omega arith

pub read_small : (c : ℕ) → c < 65536 → (z : ℤ) → read_code c ≡ Ok z → mag z < 2147483648
read_small c h z e =
    by_cases (eqb c 0x7FFF)
    (λ p. ok-err (sym e ∙ read-invalid c (eqb-true c 0x7FFF p)))
    (λ p. subst (λ (y : ℤ). mag y < 2147483648) (ok-one (sym (read-valid c (eqb-false c 0x7FFF p)) ∙ e)) (value-small c h))

pub write-small : (z : ℤ) (n : ℕ) → write_code z ≡ Ok n → n < 65536
write-small z n e =
    by_cases (in_reach z)
    (λ p. subst (λ (m : ℕ). m < 65536) (ok-one (sym (write-within z p) ∙ e)) (code-valid z (reach_of z p)).0)
    (λ p. ok-err (sym e ∙ write-beyond z p))

pub sum-small : (total : ℤ) (c : ℕ) (z : ℤ) → add_to total c ≡ Ok z → mag z < 9223372036854775808
sum-small total c z e =
    by_cases (eqb c 0x7FFF)
    (λ p. ok-err (sym e ∙ add-invalid total c (eqb-true c 0x7FFF p)))
    (λ p.
    by_cases (in_total (total +ℤ hundredths_of c))
    (λ q. omega (arith, leb-true (mag z) 9223372036854775807 (sym (in_is z) ∙ ap in_total (sum_is total c z e) ∙ q)))
    (λ q. ok-err (sym e ∙ add-past total c (eqb-false c 0x7FFF p) q)))
