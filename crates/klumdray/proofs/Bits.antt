-- Fields that lie one above the other in a number: each is read back as it was put in, and above the last there is nothing.
use Prim.Native.Nat.{ℕ, zero, suc, ◌+◌, ◌*◌, ◌/◌, ◌^◌, ◌<◌}
use mathlib.Core.Bool.{Bool, true, false}
use mathlib.Core.List.{List, [], ◌∷◌}
use mathlib.Core.Path.{◌≡◌, ◌∙◌}
use native.Mathlib.Omega.{arith}
use lib.Arith.{digits_lt}
use lib.ListN.{length}
use lib.Pow.{pow-add, shr-shr, high, low}
use Rattle.klumdray.specs.Decoding.{bits}
use Rattle.octets.proofs.Weigh.{weigh-most}
use Rattle.octets.specs.Octets.{weigh}

infix 70 ◌holding◌
-- a field: its width, and what it holds
pub data Field : Type 0 where
  ◌holding◌ : ℕ → ℕ → Field

-- the number in which they lie, from bit 0 on
abbrev pub packed : List Field → ℕ
packed [] = 0
packed (w holding v ∷ fs) = packed fs * 2 ^ w + v

-- nothing overflows
abbrev pub Fit : List Field → Type 0
Fit [] = Unit {0}
Fit (w holding v ∷ fs) = (v < 2 ^ w) × Fit fs

-- a bit, whatever it is worth
pub bit-fits : (b : Bool) → weigh b 1 < 2
bit-fits b = omega (arith, weigh-most b 1)

pub weighs : (b : Bool) (v : ℕ) → weigh b v ≡ weigh b 1 * v
weighs true v = omega arith
weighs false v = omega arith

abbrev pub width_at : List Field → ℕ → ℕ
width_at [] k = 0
width_at (w holding v ∷ fs) zero = w
width_at (w holding v ∷ fs) (suc k) = width_at fs k

abbrev pub value_at : List Field → ℕ → ℕ
value_at [] k = 0
value_at (w holding v ∷ fs) zero = v
value_at (w holding v ∷ fs) (suc k) = value_at fs k

-- the bit where a field begins
abbrev pub bit_at : List Field → ℕ → ℕ
bit_at [] k = 0
bit_at (w holding v ∷ fs) zero = 0
bit_at (w holding v ∷ fs) (suc k) = w + bit_at fs k

abbrev pub width_of : List Field → ℕ
width_of [] = 0
width_of (w holding v ∷ fs) = width_of fs + w

lowest : (w v n : ℕ) → v < 2 ^ w → bits 0 w (n * 2 ^ w + v) ≡ v
lowest w v n h =
    let e : (n * 2 ^ w + v) / 1 ≡ n * 2 ^ w + v = omega arith in
    rw e (low n w h)

above : (w v n from width : ℕ) → v < 2 ^ w → bits (w + from) width (n * 2 ^ w + v) ≡ bits from width n
above w v n from width h = rw (← shr-shr (n * 2 ^ w + v) w from, high n w h)

at_packed : (fs : List Field) → Fit fs → (k : ℕ) → k < length fs → bits (bit_at fs k) (width_at fs k) (packed fs) ≡ value_at fs k
at_packed [] f k h = absurd (omega arith)
at_packed (w holding v ∷ fs) f zero h = lowest w v (packed fs) f.0
at_packed (w holding v ∷ fs) f (suc k) h = above w v (packed fs) (bit_at fs k) (width_at fs k) f.0 ∙ at_packed fs f.1 k (omega arith)

below-packed : (fs : List Field) → Fit fs → packed fs < 2 ^ width_of fs
below-packed [] f = omega arith
below-packed (w holding v ∷ fs) f = rw (pow-add 2 (width_of fs) w) (digits_lt (below-packed fs f.1) f.0)

-- a number that is such fields
module _ (fs : List Field) (n : ℕ) (f : Fit fs) (e : n ≡ packed fs) where
  pub read_back : (k : ℕ) → k < length fs → bits (bit_at fs k) (width_at fs k) n ≡ value_at fs k
  read_back k h = rw e (at_packed fs f k h)

  pub below : n < 2 ^ width_of fs
  below = rw e (below-packed fs f)
