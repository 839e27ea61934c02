-- R-4: "The writer takes hundredths from -67,108,864 to 67,043,328, else refuses (14), and uses the smallest E for which the nearest M, ties
-- to even M, fits".
use Rattle.std.specs.Prelude.{ℕ, zero, suc, ◌+◌, ◌-◌, ◌*◌, ◌/◌, ◌%◌, ◌^◌, List, [], ◌∷◌, Bool, cond, not, ◌&&◌, ltb, ℤ, pos, negsuc, neg_ℤ, Result, Ok, Err}
use Rattle.std.specs.Int.Signed.{le_z}
use Rattle.frame.specs.declared.Refusal.TheVariants.{OutOfRange}
use Rattle.frame.specs.Order.{Test, ◌gives◌, first_of, answer_by}
use Rattle.frame.specs.declared.Refusal.{Refusal}

-- a / b to the nearest whole number, a tie to the even one
unfoldable pub nearest_to : ℕ → ℕ → ℕ
nearest_to a b = cond (ltb (a % b * 2) b) (a / b) (cond (ltb b (a % b * 2)) (a / b + 1) (a / b + a / b % 2))

-- "the nearest M, ties to even M": hundredths in units of 2 to the e
abbrev pub nearest_m : ℤ → ℕ → ℤ
nearest_m (pos a) e = pos (nearest_to a (2 ^ e))
nearest_m (negsuc a) e = neg_ℤ (pos (nearest_to (suc a) (2 ^ e)))

-- "fits": twelve bits of two's complement reach from -2,048 to 2,047
abbrev pub fits_m : ℤ → Bool
fits_m m = le_z (negsuc 2047) m && le_z m (pos 2047)

-- the first E from e on at which the nearest M fits, of k tried; e + k if none of them does
abbrev pub first_e : ℕ → ℕ → ℤ → ℕ
first_e zero e z = e
first_e (suc k) e z = cond (fits_m (nearest_m z e)) e (first_e k (suc e) z)

-- "the smallest E": of four bits, so from 0 to 15
unfoldable pub smallest_e : ℤ → ℕ
smallest_e z = first_e 15 0 z

-- the code of M and E: the sign, E, and the eleven low bits of M
abbrev pub code_of : ℤ → ℕ → ℕ
code_of (pos m) e = e * 2048 + m
code_of (negsuc m) e = 32768 + e * 2048 + (2047 - m)

unfoldable pub code_for : ℤ → ℕ
code_for z = code_of (nearest_m z (smallest_e z)) (smallest_e z)

-- "from -67,108,864 to 67,043,328"
abbrev pub in_reach : ℤ → Bool
in_reach z = le_z (negsuc 67108863) z && le_z z (pos 67043328)

abbrev pub write_tests : ℤ → List Test
write_tests z = not (in_reach z) gives OutOfRange ∷ []

unfoldable pub write_code : ℤ → Result ℕ Refusal
write_code z = answer_by Err (Ok (code_for z)) (first_of (write_tests z))
