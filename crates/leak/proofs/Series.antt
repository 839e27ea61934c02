-- "after any series of accepted increments equals the start plus the sum of their values": one answer after the other, an accepted one adds
-- its value and a refused one nothing.
use Rattle.std.specs.Prelude.{Result, Ok, Err}
use Prim.Native.Nat.{ℕ}
use mathlib.Core.List.{List, [], ◌∷◌}
use mathlib.Core.Path.{◌≡◌, sym, ap, ◌∙◌}
use lib.Dec.{eqb}
use lib.IntN.{ℤ, ◌+ℤ◌, +ℤ_idr, +ℤ_assoc}
use borrow.Author.Tests.{eqb-true, eqb-false}
use Rattle.octets.proofs.Truth.{by_cases}
use Rattle.leak.specs.Float.{hundredths_of}
use Rattle.leak.specs.Total.{in_total, add_to}
use Rattle.leak.specs.Series.{Follows, left, accepted_of, sum_of}
use Rattle.frame.proofs.Apart.{ok-err}
use Rattle.leak.proofs.Exactly.{add-invalid, add-past, add-within}
use Rattle.frame.specs.declared.Refusal.{Refusal}

-- a sum that is given is the total and the value
pub sum_is : (total : ℤ) (code : ℕ) (s : ℤ) → add_to total code ≡ Ok s → s ≡ total +ℤ hundredths_of code
sum_is total code s e =
    by_cases (eqb code 0x7FFF)
    (λ p. ok-err (sym e ∙ add-invalid total code (eqb-true code 0x7FFF p)))
    (λ p.
    by_cases (in_total (total +ℤ hundredths_of code))
    (λ q. let x : ◌≡◌ {A = Result ℤ Refusal} (Ok s) (Ok (total +ℤ hundredths_of code)) = sym e ∙ add-within total code (eqb-false code 0x7FFF p) q in cc)
    (λ q. ok-err (sym e ∙ add-past total code (eqb-false code 0x7FFF p) q)))

pub total-after : (total : ℤ) (cs : List ℕ) (answers : List (Result ℤ Refusal)) → Follows total cs answers → left total answers ≡ total +ℤ sum_of (accepted_of cs answers)
total-after total [] [] f = sym (+ℤ_idr total)
total-after total [] (a ∷ rest) f = absurd f
total-after total (c ∷ cs) [] f = absurd f
total-after total (c ∷ cs) (Ok s ∷ rest) f =
    total-after s cs rest f.1 ∙ ap (λ (z : ℤ). z +ℤ sum_of (accepted_of cs rest)) (sum_is total c s (sym f.0))
    ∙ +ℤ_assoc total (hundredths_of c) (sum_of (accepted_of cs rest))
total-after total (c ∷ cs) (Err r ∷ rest) f = total-after total cs rest f.1
