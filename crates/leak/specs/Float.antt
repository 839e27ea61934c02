-- R-4: "Read the KNX two-octet float (DPT 9): sign, four exponent bits E, eleven mantissa bits; sign and mantissa form a twelve-bit two's
-- complement number M. Its value is M times 2 to the E hundredths, the signed number of hundredths that the two octets stand for".
-- A code is the two octets as one number, "high octet first": bit 15 the sign, bits 14 to 11 E, bits 10 to 0 the mantissa.
use Rattle.std.specs.Prelude.{ℕ, ◌*◌, ◌/◌, ◌%◌, ◌^◌, ℤ, pos, ◌*ℤ◌}
use Rattle.std.proofs.Math.IntN.{sub_ℕ}

-- "four exponent bits E"
abbrev pub exponent_of : ℕ → ℕ
exponent_of code = code / 2048 % 16

-- "a twelve-bit two's complement number M": the eleven mantissa bits, less 2,048 where the sign is set
unfoldable pub mantissa_of : ℕ → ℤ
mantissa_of code = sub_ℕ (code % 2048) (code / 32768 * 2048)

-- "M times 2 to the E hundredths"
unfoldable pub hundredths_of : ℕ → ℤ
hundredths_of code = mantissa_of code *ℤ pos (2 ^ exponent_of code)
