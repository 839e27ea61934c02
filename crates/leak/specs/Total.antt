-- R-4: "The total is kept in 64 bits of hundredths ..; a sum past the range is refused (24) and the total stays."
use Rattle.std.specs.Prelude.{ℕ, Bool, not, ◌&&◌, List, [], ◌∷◌, ◌++◌, ℤ, pos, negsuc, ◌+ℤ◌, Result, Ok, Err}
use Rattle.std.specs.Int.Signed.{le_z}
use Rattle.frame.specs.declared.Refusal.TheVariants.{PastTotal}
use Rattle.frame.specs.Order.{Test, ◌gives◌, first_of, answer_by}
use Rattle.leak.specs.Float.{hundredths_of}
use Rattle.leak.specs.Reading.{code_tests}
use Rattle.frame.specs.declared.Refusal.{Refusal}

-- "64 bits", signed: from -9,223,372,036,854,775,808 to 9,223,372,036,854,775,807
unfoldable pub in_total : ℤ → Bool
in_total z = le_z (negsuc 9223372036854775807) z && le_z z (pos 9223372036854775807)

-- 23, then 24: an invalid increment has no sum
abbrev pub add_tests : ℤ → ℕ → List Test
add_tests total code = code_tests code ++ (not (in_total (total +ℤ hundredths_of code)) gives PastTotal ∷ [])

unfoldable pub add_to : ℤ → ℕ → Result ℤ Refusal
add_to total code = answer_by Err (Ok (total +ℤ hundredths_of code)) (first_of (add_tests total code))
