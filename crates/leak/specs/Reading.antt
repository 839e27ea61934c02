-- R-4: "7FFFh is invalid and refused (23)". Of octets, "fewer octets than the frame needs" are 1 and "octets left after the frame" 5.
use Rattle.std.specs.Prelude.{ℕ, List, [], ◌∷◌, eqb, ltb, length, Result, Ok, Err, ℤ}
use Rattle.octets.specs.Word.{word_at}
use Rattle.frame.specs.declared.Refusal.TheVariants.{TooFew, LeftOver, Invalid}
use Rattle.frame.specs.Order.{Test, ◌gives◌, first_of, answer_by}
use Rattle.leak.specs.Float.{hundredths_of}
use Rattle.frame.specs.declared.Refusal.{Refusal}

abbrev pub code_tests : ℕ → List Test
code_tests code = eqb code 0x7FFF gives Invalid ∷ []

unfoldable pub read_code : ℕ → Result ℤ Refusal
read_code code = answer_by Err (Ok (hundredths_of code)) (first_of (code_tests code))

abbrev pub octets_tests : List ℕ → List Test
octets_tests s = ltb (length s) 2 gives TooFew ∷ ltb 2 (length s) gives LeftOver ∷ code_tests (word_at s 0)

unfoldable pub read_octets : List ℕ → Result ℤ Refusal
read_octets s = answer_by Err (Ok (hundredths_of (word_at s 0))) (first_of (octets_tests s))
