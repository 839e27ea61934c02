-- Document 02, R-4: "Litres that add up." Each sentence as a theorem of every answer that a call's contract allows, by its number and values.
use Rattle.std.specs.Prelude.{Result, Ok, Err}
use Prim.Native.Nat.{ℕ, suc, ◌+◌, ◌*◌, ◌^◌, ◌≤◌, ◌<◌}
use mathlib.Core.Bool.{true, false, ◌&&◌}
use mathlib.Core.List.{List, [], ◌∷◌}
use mathlib.Core.Logic.{◌↔◌}
use mathlib.Core.Path.{◌≡◌, refl, sym, ap, ◌∙◌, subst}
use native.Mathlib.Omega.{arith}
use lib.Dec.{eqb}
use lib.IntN.{ℤ, pos, negsuc, nat_abs, sub_ℕ, ◌+ℤ◌, ◌-ℤ◌, ◌*ℤ◌}
use lib.ListN.{length, get_or}
use borrow.Author.Tests.{eqb-true, eqb-false, leb-true}
use Rattle.octets.proofs.Truth.{by_cases, and-true}
use Rattle.octets.proofs.Split.{firsts-last}
use Rattle.octets.specs.Octets.{octet_at}
use Rattle.octets.specs.Word.{word_at}
use Rattle.frame.specs.Answers.{Numbered, accepted, refused}
use Rattle.frame.specs.Order.{answer_by}
use Rattle.frame.specs.declared.Refusal.TheVariants.{Invalid, PastTotal}
use Rattle.leak.proofs.Answers.{value_tells, coded-tells, added-tells}
use Rattle.frame.proofs.Apart.{ok-err, ok-one}
use Rattle.leak.proofs.Chosen.{code-valid, written-chosen, chosen-one, mantissa-fits, value-reach, reach_of, in_reach-is_true}
use Rattle.leak.proofs.Exactly.{value-by-bits, read-invalid, read-valid, write-within, write-beyond, add-invalid, add-past, add-within}
use Rattle.leak.proofs.Series.{sum_is, total-after}
use Rattle.leak.proofs.Written.{again, value-is}
use Rattle.leak.specs.Answers.{signed_values, value_numbered, coded_numbered, carried_numbered, added_numbered}
use Rattle.leak.specs.Increment.{is_increment, increment_in}
use Rattle.leak.specs.Float.{exponent_of, hundredths_of}
use Rattle.leak.specs.Nearest.{Chosen}
use Rattle.leak.specs.Reading.{code_tests, read_code, octets_tests, read_octets}
use Rattle.leak.specs.Series.{Follows, left, accepted_of, sum_of}
use Rattle.leak.specs.Total.{in_total, add_tests, add_to}
use Rattle.leak.specs.Writing.{fits_m, code_of, code_for, in_reach, write_tests, write_code}
use Rattle.promises.proofs.Ends.{EndsNumbered, ends_by}
use Rattle.frame.specs.declared.Refusal.{Refusal}

-- Reading

-- demand 1: the value, or the first refusal of the order; of a code 23, of octets 1, 5, 23
pub read-ends : (code : ℕ) → EndsNumbered (signed_values (hundredths_of code)) (code_tests code) (value_numbered (read_code code))
unfolding read_code
read-ends code =
    ends_by refused (accepted (signed_values (hundredths_of code))) (λ v. value_numbered (answer_by Err (Ok (hundredths_of code)) v)) refl (λ r. refl) (code_tests code)

pub read-octets-ends : (s : List ℕ) → EndsNumbered (signed_values (hundredths_of (word_at s 0))) (octets_tests s) (value_numbered (read_octets s))
unfolding read_octets
read-octets-ends s =
    ends_by refused (accepted (signed_values (hundredths_of (word_at s 0)))) (λ v. value_numbered (answer_by Err (Ok (hundredths_of (word_at s 0))) v)) refl (λ r. refl) (octets_tests s)

-- "sign, four exponent bits E, eleven mantissa bits; sign and mantissa form a twelve-bit two's complement number M. Its value is M times 2 to the
-- E hundredths": one equation for all 65,535 codes
pub stands-for : (sign e low : ℕ) → sign < 2 → e < 16 → low < 2048 → (sign * 32768 + e * 2048 + low ≡ 0x7FFF → ⊥)
    → value_numbered (read_code (sign * 32768 + e * 2048 + low)) ≡ accepted (signed_values (sub_ℕ low (sign * 2048) *ℤ pos (2 ^ e)))
stands-for sign e low h k l n =
    ap value_numbered (read-valid (sign * 32768 + e * 2048 + low) n ∙ ap Ok (value-by-bits sign e low h k l))

-- "7FFFh is invalid and refused (23)", and nothing else is
pub invalid-exactly : (code : ℕ) → (value_numbered (read_code code)).number ≡ 23 ↔ (code ≡ 0x7FFF)
invalid-exactly code = (
  (λ e. by_cases (eqb code 0x7FFF) (eqb-true code 0x7FFF) (λ p.
      let z : ◌≡◌ {A = ℕ} 0 23 = sym (ap (λ (v : Result ℤ Refusal). (value_numbered v).number) (read-valid code (eqb-false code 0x7FFF p))) ∙ e in absurd (omega arith))),
  λ e. ap (λ (v : Result ℤ Refusal). (value_numbered v).number) (read-invalid code e),
)

-- two octets are read as the code that they form, high octet first
pub two-octets : (high low : ℕ) → read_octets (high ∷ low ∷ []) ≡ read_code (high * 256 + low)
unfolding read_octets read_code
two-octets high low = refl

-- Writing

pub write-ends : (z : ℤ) → EndsNumbered (code_for z ∷ []) (write_tests z) (coded_numbered (write_code z))
unfolding write_code
write-ends z = ends_by refused (accepted (code_for z ∷ [])) (λ v. coded_numbered (answer_by Err (Ok (code_for z)) v)) refl (λ r. refl) (write_tests z)

-- "takes hundredths from -67,108,864 to 67,043,328, else refuses (14)"
pub refused-exactly : (z : ℤ) → (coded_numbered (write_code z)).number ≡ 14 ↔ (in_reach z ≡ false)
refused-exactly z = (
  (λ e. by_cases (in_reach z) (λ p.
      let n : ◌≡◌ {A = ℕ} 0 14 = sym (ap (λ (c : Result ℕ Refusal). (coded_numbered c).number) (write-within z p)) ∙ e in absurd (omega arith)) (λ p. p)),
  λ e. ap (λ (c : Result ℕ Refusal). (coded_numbered c).number) (write-beyond z e),
)

-- "uses the smallest E for which the nearest M, ties to even M, fits": exactly the code that is chosen so is written, and there is one such code
pub written-exactly : (z : ℤ) (c : ℕ) → c < 65536 → coded_numbered (write_code z) ≡ accepted (c ∷ []) ↔ ((in_reach z ≡ true) × Chosen z c)
written-exactly z c h = (there, back)
  where
    there : coded_numbered (write_code z) ≡ accepted (c ∷ []) → (in_reach z ≡ true) × Chosen z c
    there e =
        let w : write_code z ≡ Ok c = coded-tells.apart (write_code z) (Ok c) e in
        by_cases (in_reach z)
        (λ p. (p, subst (Chosen z) (ok-one (sym (write-within z p) ∙ w)) (written-chosen z (reach_of z p))))
        (λ p. ok-err (sym w ∙ write-beyond z p))

    back : (in_reach z ≡ true) × Chosen z c → coded_numbered (write_code z) ≡ accepted (c ∷ [])
    back g =
        let r = reach_of z g.0 in
        ap coded_numbered (write-within z g.0 ∙ ap Ok (chosen-one z (code_for z) c (code-valid z r).0 h (written-chosen z r) g.1))

-- in the range some code is written, it has 16 bits and is not 7FFFh, and "the result is off by at most half of 2 to the E"
pub record WrittenNear (z : ℤ) : Type 0 where
  pub code : ℕ
  pub written : coded_numbered (write_code z) ≡ accepted (code ∷ [])
  pub small : code < 65536
  pub value : ℤ
  pub reads : value_numbered (read_code code) ≡ accepted (signed_values value)
  pub off : nat_abs (value -ℤ z) * 2 ≤ 2 ^ exponent_of code

pub written-near : (z : ℤ) → in_reach z ≡ true → WrittenNear z
unfolding hundredths_of
written-near z e =
    let r = reach_of z e in
    let v = code-valid z r in
    record {
      code = code_for z;
      written = ap coded_numbered (write-within z e);
      small = v.0;
      value = hundredths_of (code_for z);
      reads = ap value_numbered (read-valid (code_for z) v.1);
      off = (written-chosen z r).nearest.near;
    }

-- what a code stands for, written again, stands for the same value, by the same code or another
pub record WrittenAgain (z : ℤ) : Type 0 where
  pub code : ℕ
  pub written : coded_numbered (write_code z) ≡ accepted (code ∷ [])
  pub reads : value_numbered (read_code code) ≡ accepted (signed_values z)

again-of : (c : ℕ) → c < 65536 → (c ≡ 0x7FFF → ⊥) → WrittenAgain (hundredths_of c)
again-of c h n =
    let r = value-reach c h n in
    let e = in_reach-is_true (hundredths_of c) r in
    let d = code_for (hundredths_of c) in
    record {
      code = d;
      written = ap coded_numbered (write-within (hundredths_of c) e);
      reads = ap value_numbered (read-valid d (code-valid (hundredths_of c) r).1 ∙ ap Ok (again c (mantissa-fits c h) r));
    }

pub written-again : (c : ℕ) (z : ℤ) → c < 65536 → value_numbered (read_code c) ≡ accepted (signed_values z) → WrittenAgain z
written-again c z h e =
    let v : read_code c ≡ Ok z = value_tells.apart (read_code c) (Ok z) e in
    by_cases (eqb c 0x7FFF)
    (λ p. ok-err (sym v ∙ read-invalid c (eqb-true c 0x7FFF p)))
    (λ p.
    let n = eqb-false c 0x7FFF p in
    subst WrittenAgain (ok-one (sym (read-valid c n) ∙ v)) (again-of c h n))

-- 0 to 2,047 and -2,048 to -1 are exact
plain_code : (z : ℤ) → fits_m z ≡ true → (code_of z 0 < 65536) × (code_of z 0 ≡ 0x7FFF → ⊥)
plain_code (pos a) f = let l : a ≤ 2047 = leb-true a 2047 f in (omega arith, λ e. omega arith)
plain_code (negsuc a) f = (omega arith, λ e. omega arith)

times-one : (z : ℤ) → z *ℤ pos 1 ≡ z
times-one (pos a) = ap pos (omega arith)
times-one (negsuc a) = let e : suc a * 1 ≡ suc a = omega arith in rw e refl

pub small-exact : (z : ℤ) → fits_m z ≡ true → WrittenAgain z
small-exact z f =
    let p = plain_code z f in
    subst WrittenAgain (value-is z 0 f (omega arith) ∙ times-one z) (again-of (code_of z 0) p.0 p.1)

-- The increment of a telegram

-- a payload carries one exactly if it is 00h, 80h and two octets, and these are its code, high octet first
pub increment-exactly : (p : List ℕ) (code : ℕ) → carried_numbered (increment_in p) ≡ accepted (code ∷ [])
    ↔ ((high : ℕ) × ((low : ℕ) × ((p ≡ 0x00 ∷ 0x80 ∷ high ∷ low ∷ []) × (code ≡ high * 256 + low))))
unfolding increment_in
increment-exactly p code = (there, λ g. subst (λ (l : List ℕ). carried_numbered (increment_in l) ≡ accepted (code ∷ [])) (sym g.1.1.0) (ap (λ (n : ℕ). accepted (n ∷ [])) (sym g.1.1.1)))
  where
    there : carried_numbered (increment_in p) ≡ accepted (code ∷ []) → (high : ℕ) × ((low : ℕ) × ((p ≡ 0x00 ∷ 0x80 ∷ high ∷ low ∷ []) × (code ≡ high * 256 + low)))
    there e =
        by_cases (is_increment p)
        (λ i.
        let outer = and-true (eqb (octet_at p 0) 0x00 && eqb (octet_at p 1) 0x80) (eqb (length p) 4) i in
        let inner = and-true (eqb (octet_at p 0) 0x00) (eqb (octet_at p 1) 0x80) outer.0 in
        let four : p ≡ octet_at p 0 ∷ octet_at p 1 ∷ octet_at p 2 ∷ octet_at p 3 ∷ [] = firsts-last 4 0 p (sym (eqb-true (length p) 4 outer.1)) in
        let first : octet_at p 0 ≡ 0x00 = eqb-true (octet_at p 0) 0x00 inner.0 in
        let second : octet_at p 1 ≡ 0x80 = eqb-true (octet_at p 1) 0x80 inner.1 in
        let said : accepted (word_at p 2 ∷ []) ≡ accepted (code ∷ []) = rw i at e in (
          octet_at p 2,
          (octet_at p 3, (four ∙ (λ j. first j ∷ second j ∷ octet_at p 2 ∷ octet_at p 3 ∷ []), sym (ap (λ (n : Numbered). get_or n.values 0 0) said))),
        ))
        (λ i.
        let said : accepted [] ≡ accepted (code ∷ []) = rw i at e in
        let z : ◌≡◌ {A = ℕ} 0 1 = ap (λ (n : Numbered). length n.values) said ∙ omega arith in
        absurd (omega arith))

-- The total

pub add-ends : (total : ℤ) (code : ℕ) → EndsNumbered (signed_values (total +ℤ hundredths_of code)) (add_tests total code) (added_numbered (add_to total code))
unfolding add_to
add-ends total code =
    ends_by refused (accepted (signed_values (total +ℤ hundredths_of code))) (λ v. added_numbered (answer_by Err (Ok (total +ℤ hundredths_of code)) v)) refl (λ r. refl) (add_tests total code)

module _ (total : ℤ) (code : ℕ) where
  -- the three ways that adding goes
  ways : {P : Type 0} → (code ≡ 0x7FFF → add_to total code ≡ Err Invalid → P)
      → ((code ≡ 0x7FFF → ⊥) → in_total (total +ℤ hundredths_of code) ≡ false → add_to total code ≡ Err PastTotal → P)
      → ((code ≡ 0x7FFF → ⊥) → in_total (total +ℤ hundredths_of code) ≡ true → add_to total code ≡ Ok (total +ℤ hundredths_of code) → P) → P
  ways invalid past within =
      by_cases (eqb code 0x7FFF)
      (λ p. let e = eqb-true code 0x7FFF p in invalid e (add-invalid total code e))
      (λ p.
      let n = eqb-false code 0x7FFF p in
      by_cases (in_total (total +ℤ hundredths_of code)) (λ q. within n q (add-within total code n q)) (λ q. past n q (add-past total code n q)))

  -- an increment is accepted exactly if it is no 7FFFh and the sum is in the range, and then the sum is the answer
  pub added-exactly : (sum : ℤ) → added_numbered (add_to total code) ≡ accepted (signed_values sum)
      ↔ ((code ≡ 0x7FFF → ⊥) × ((in_total (total +ℤ hundredths_of code) ≡ true) × (sum ≡ total +ℤ hundredths_of code)))
  added-exactly sum = (
    (λ e.
        let a : add_to total code ≡ Ok sum = added-tells.apart (add_to total code) (Ok sum) e in
        ways (λ p x. ok-err (sym a ∙ x)) (λ n q x. ok-err (sym a ∙ x)) (λ n q x. (n, (q, sum_is total code sum a)))),
    λ g. ap added_numbered (add-within total code g.0 g.1.0 ∙ ap Ok (sym g.1.1)),
  )

  -- "a sum past the range is refused (24)": exactly such a one
  pub past-exactly : (added_numbered (add_to total code)).number ≡ 24 ↔ ((code ≡ 0x7FFF → ⊥) × (in_total (total +ℤ hundredths_of code) ≡ false))
  past-exactly = (
    (λ e.
        ways
        (λ p x. let z : ◌≡◌ {A = ℕ} 23 24 = sym (ap (λ (a : Result ℤ Refusal). (added_numbered a).number) x) ∙ e in absurd (omega arith))
        (λ n q x. (n, q))
        (λ n q x. let z : ◌≡◌ {A = ℕ} 0 24 = sym (ap (λ (a : Result ℤ Refusal). (added_numbered a).number) x) ∙ e in absurd (omega arith))),
    λ g. ap (λ (a : Result ℤ Refusal). (added_numbered a).number) (add-past total code g.0 g.1),
  )

  pub added-invalid-exactly : (added_numbered (add_to total code)).number ≡ 23 ↔ (code ≡ 0x7FFF)
  added-invalid-exactly = (
    (λ e.
        ways
        (λ p x. p)
        (λ n q x. let z : ◌≡◌ {A = ℕ} 24 23 = sym (ap (λ (a : Result ℤ Refusal). (added_numbered a).number) x) ∙ e in absurd (omega arith))
        (λ n q x. let z : ◌≡◌ {A = ℕ} 0 23 = sym (ap (λ (a : Result ℤ Refusal). (added_numbered a).number) x) ∙ e in absurd (omega arith))),
    λ e. ap (λ (a : Result ℤ Refusal). (added_numbered a).number) (add-invalid total code e),
  )

-- "after any series of accepted increments equals the start plus the sum of their values"; what is refused between them leaves the total
pub litres-add-up : (start : ℤ) (codes : List ℕ) (answers : List (Result ℤ Refusal)) → Follows start codes answers → left start answers ≡ start +ℤ sum_of (accepted_of codes answers)
litres-add-up = total-after
