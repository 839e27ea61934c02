-- Signed numbers as bits of two's complement: from the number to its bits, from 64 bits to the number, and 32 bits out of 64.
use Prim.Native.Nat.{ℕ, suc, ◌+◌, ◌-◌, ◌/◌, ◌%◌, ◌^◌, ◌≤◌, ◌<◌}
use mathlib.Core.List.{[], ◌∷◌}
use mathlib.Core.Path.{◌≡◌, refl, ap, ◌∙◌}
use native.Mathlib.Omega.{arith}
use lib.IntN.{ℤ, pos, negsuc, sub_ℕ}
use lib.Dec.{leb}
use lib.Signed.{mag}
use mir.Syntax.{w64}
use borrow.Author.Tests.{le-leb, lt-leb}
use Rattle.std.specs.Int.{to_be_bytes}
use Rattle.octets.specs.Octets.{weigh}
use Rattle.leak.proofs.Codes.{sub-above, sub-below}
use Rattle.klumdray.specs.Litres.{in_bits, signed_of, bits_octets}

-- bits that were taken of a number stand for it, of whichever width: h is half of p, which is 2 to that width
module _ (h p : ℕ) (double : p ≡ h + h) where
  back-plus : (a : ℕ) → a < h → sub_ℕ a (weigh (leb h a) p) ≡ pos a
  back-plus a l = rw (lt-leb h a l) (sub-above a 0 (omega arith) ∙ ap pos (omega arith))

  back-minus : (a : ℕ) → a < h → sub_ℕ (p - suc a) (weigh (leb h (p - suc a)) p) ≡ negsuc a
  back-minus a l =
      let k : h ≤ p - suc a = omega arith in
      rw (le-leb h (p - suc a) k) (sub-below (p - suc a) p (omega arith) ∙ ap negsuc (omega arith))

pub signed-32 : (z : ℤ) → mag z < 2147483648 → signed_of 32 (in_bits 32 z) ≡ z
signed-32 (pos a) l = back-plus 2147483648 4294967296 refl a l
signed-32 (negsuc a) l = back-minus 2147483648 4294967296 refl a l

pub signed-64 : (z : ℤ) → mag z < 9223372036854775808 → signed_of 64 (in_bits 64 z) ≡ z
signed-64 (pos a) l = back-plus 9223372036854775808 18446744073709551616 refl a l
signed-64 (negsuc a) l = back-minus 9223372036854775808 18446744073709551616 refl a l

-- and no bit lies above the width
pub bits-32 : (z : ℤ) → mag z < 2147483648 → in_bits 32 z < 4294967296
bits-32 (pos a) l = omega arith
bits-32 (negsuc a) l = omega arith

-- the octets of 64 bits, high octet first, are those of the four fields
pub be_octets : (n : ℕ) → n < 18446744073709551616 → to_be_bytes w64 n ≡ bits_octets n
be_octets n h =
    let a : n / 256 ^ 7 % 256 ≡ n / 2 ^ 48 / 256 = omega arith in
    let b : n / 256 ^ 6 % 256 ≡ n / 2 ^ 48 % 256 = omega arith in
    let c : n / 256 ^ 5 % 256 ≡ n / 2 ^ 32 % 65536 / 256 = omega arith in
    let d : n / 256 ^ 4 % 256 ≡ n / 2 ^ 32 % 65536 % 256 = omega arith in
    let e : n / 256 ^ 3 % 256 ≡ n / 2 ^ 16 % 65536 / 256 = omega arith in
    let f : n / 256 ^ 2 % 256 ≡ n / 2 ^ 16 % 65536 % 256 = omega arith in
    let g : n / 256 ^ 1 % 256 ≡ n % 65536 / 256 = omega arith in
    let k : n % 256 ≡ n % 65536 % 256 = omega arith in
    λ i. a i ∷ b i ∷ c i ∷ d i ∷ e i ∷ f i ∷ g i ∷ k i ∷ []
