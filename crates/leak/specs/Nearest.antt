-- R-4's choice of a code as the paper says it, with no word of how it is found: "uses the smallest E for which the nearest M, ties to even M,
-- fits; the result is off by at most half of 2 to the E".
use Rattle.std.specs.Prelude.{ℕ, ◌*◌, ◌%◌, ◌^◌, ◌≤◌, ◌<◌, false, ◌≡◌, ℤ, pos, nat_abs, ◌-ℤ◌, ◌*ℤ◌}
use Rattle.leak.specs.Float.{exponent_of, mantissa_of}
use Rattle.leak.specs.Writing.{fits_m}

-- how far M times 2 to the E is off
abbrev pub off_by : ℤ → ℕ → ℤ → ℕ
off_by z e m = nat_abs (m *ℤ pos (2 ^ e) -ℤ z)

-- "the nearest M": off by at most half of 2 to the E; "ties to even M": at exactly half M is even
pub record Nearest (z : ℤ) (e : ℕ) (m : ℤ) : Type 0 where
  pub near : off_by z e m * 2 ≤ 2 ^ e
  pub even : off_by z e m * 2 ≡ 2 ^ e → nat_abs m % 2 ≡ 0

-- a code's M is the nearest at its E, and at no smaller E does the nearest fit
pub record Chosen (z : ℤ) (code : ℕ) : Type 0 where
  pub nearest : Nearest z (exponent_of code) (mantissa_of code)
  pub smallest : (e : ℕ) → e < exponent_of code → (m : ℤ) → Nearest z e m → fits_m m ≡ false
