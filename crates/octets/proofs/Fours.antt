-- Four octets side by side in one number: the exclusive or of two such numbers is that of their octets, and a number's octets fold by halves.
use Prim.Native.Nat.{ℕ, zero, suc, ◌+◌, ◌*◌, ◌/◌, ◌%◌, ◌^◌, ◌≤◌, ◌<◌}
use mathlib.Core.List.{List, [], ◌∷◌, ◌++◌}
use mathlib.Core.Path.{◌≡◌, refl, sym, ap, ap₂, ◌∙◌}
use native.Mathlib.Nat.{add-zero, zero-add}
use native.Mathlib.Omega.{arith}
use lib.Bits.{bit_xor, xor_shr, xor_mod}
use lib.ListN.{length, get_or, take}
use Rattle.octets.specs.Octets.{Octets}
use Rattle.octets.specs.Check.{xor_from}
use Rattle.octets.proofs.Split.{firsts, take-firsts}
use Rattle.octets.proofs.ExclusiveOr.{xor_assoc, xor-swap, xor-both}

-- the exclusive or of a number's four octets
abbrev pub lanes : ℕ → ℕ
lanes n = xor_from 0 (n % 256 ∷ n / 256 % 256 ∷ n / 65536 % 256 ∷ n / 16777216 ∷ [])

-- the exclusive or of n octets of a list from an index on
abbrev pub among : ℕ → ℕ → List ℕ → ℕ
among n i s = xor_from 0 (firsts n i s)

-- octet by octet
octet-xor : (k a b : ℕ) → bit_xor a b / 2 ^ k % 256 ≡ bit_xor (a / 2 ^ k % 256) (b / 2 ^ k % 256)
octet-xor k a b = ap (λ (x : ℕ). x % 256) (xor_shr a b k) ∙ xor_mod (a / 2 ^ k) (b / 2 ^ k) 8

pub lanes-xor : (a b : ℕ) → lanes (bit_xor a b) ≡ bit_xor (lanes a) (lanes b)
lanes-xor a b =
    ap₂ bit_xor (ap₂ bit_xor (ap₂ bit_xor (xor_mod a b 8) (octet-xor 8 a b) ∙ xor-swap (a % 256) (b % 256) (a / 256 % 256) (b / 256 % 256)) (octet-xor 16 a b)
    ∙ xor-swap (bit_xor (a % 256) (a / 256 % 256)) (bit_xor (b % 256) (b / 256 % 256)) (a / 65536 % 256) (b / 65536 % 256)) (xor_shr a b 24)
    ∙ xor-swap (bit_xor (bit_xor (a % 256) (a / 256 % 256)) (a / 65536 % 256)) (bit_xor (bit_xor (b % 256) (b / 256 % 256)) (b / 65536 % 256)) (a / 16777216) (b / 16777216)

-- by halves: the two lower octets of a number and its upper half
pub folded_is : (n : ℕ) → n < 2 ^ 32 → bit_xor (bit_xor n (n / 65536) % 256) (bit_xor n (n / 65536) / 256 % 256) ≡ lanes n
folded_is n h =
    let d : n / 65536 / 256 % 256 ≡ n / 16777216 = omega arith in
    ap₂ bit_xor (xor_mod n (n / 65536) 8) (octet-xor 8 n (n / 65536) ∙ ap (bit_xor (n / 256 % 256)) d)
    ∙ xor-swap (n % 256) (n / 65536 % 256) (n / 256 % 256) (n / 16777216)
    ∙ sym (xor_assoc (bit_xor (n % 256) (n / 256 % 256)) (n / 65536 % 256) (n / 16777216))

-- those of octets side by side
lanes-of : (a b c d : ℕ) → a < 256 → b < 256 → c < 256 → d < 256 → lanes (a + (b + (c + d * 256) * 256) * 256) ≡ xor_from 0 (a ∷ b ∷ c ∷ d ∷ [])
lanes-of a b c d ha hb hc hd =
    let n : ℕ = a + (b + (c + d * 256) * 256) * 256 in
    let p : n % 256 ≡ a = omega arith in
    let u : n / 256 ≡ b + (c + d * 256) * 256 = omega arith in
    let v : n / 65536 ≡ c + d * 256 = omega arith in
    let q : (b + (c + d * 256) * 256) % 256 ≡ b = omega arith in
    let r : (c + d * 256) % 256 ≡ c = omega arith in
    let t : n / 16777216 ≡ d = omega arith in
    rw (p, u, v, q, r, t) refl

firsts-add : (m n i : ℕ) (s : List ℕ) → firsts (m + n) i s ≡ firsts m i s ++ firsts n (i + m) s
firsts-add zero n i s = rw (zero-add, add-zero)
firsts-add (suc m) n i s =
    let e : suc m + n ≡ suc (m + n) = omega arith in
    let k : i + suc m ≡ suc i + m = omega arith in
    rw (e, k) (ap (λ (l : List ℕ). get_or s i 0 ∷ l) (firsts-add m n (suc i) s))

-- so many octets, and others behind them
among-add : (m n i : ℕ) (s : List ℕ) → bit_xor (among m i s) (among n (i + m) s) ≡ among (m + n) i s
among-add m n i s = sym (ap (xor_from 0) (firsts-add m n i s) ∙ xor-both (firsts m i s) (firsts n (i + m) s))

-- four octets side by side, the first of them lowest
abbrev pub four_at : List ℕ → ℕ → ℕ
four_at s i = get_or s i 0 + (get_or s (i + 1) 0 + (get_or s (i + 2) 0 + get_or s (i + 3) 0 * 256) * 256) * 256

module _ (s : List ℕ) (o : Octets s) where
  lanes-four : (i : ℕ) → lanes (four_at s i) ≡ among 4 i s
  lanes-four i =
      let a : i + 1 ≡ suc i = omega arith in
      let b : i + 2 ≡ suc (suc i) = omega arith in
      let c : i + 3 ≡ suc (suc (suc i)) = omega arith in
      lanes-of (get_or s i 0) (get_or s (i + 1) 0) (get_or s (i + 2) 0) (get_or s (i + 3) 0) (o i) (o (i + 1)) (o (i + 2)) (o (i + 3))
      ∙ rw (a, b, c) refl

  -- four octets more
  pub four-more : (all m i : ℕ) → lanes all ≡ among m i s → lanes (bit_xor all (four_at s (i + m))) ≡ among (m + 4) i s
  four-more all m i e = lanes-xor all (four_at s (i + m)) ∙ ap₂ bit_xor e (lanes-four (i + m)) ∙ among-add m 4 i s

  -- four more of each half
  pub turn_more : (all t h : ℕ) → lanes all ≡ bit_xor (among (t * 4) 0 s) (among (t * 4) h s)
      → lanes (bit_xor all (bit_xor (four_at s (t * 4)) (four_at s (h + t * 4)))) ≡ bit_xor (among ((t + 1) * 4) 0 s) (among ((t + 1) * 4) h s)
  turn_more all t h e =
      let n : (t + 1) * 4 ≡ t * 4 + 4 = omega arith in
      let x = four_at s (t * 4) in
      let y = four_at s (h + t * 4) in
      lanes-xor all (bit_xor x y)
      ∙ ap₂ bit_xor e (lanes-xor x y ∙ ap₂ bit_xor (lanes-four (t * 4)) (lanes-four (h + t * 4)))
      ∙ xor-swap (among (t * 4) 0 s) (among (t * 4) h s) (among 4 (t * 4) s) (among 4 (h + t * 4) s)
      ∙ rw n (ap₂ bit_xor (rw zero-add at (among-add (t * 4) 4 0 s)) (among-add (t * 4) 4 h s))

-- at the end the halves meet, and are all octets that come in fours, with four octets behind them or none
halves-meet : (s : List ℕ) (all h : ℕ) → lanes all ≡ bit_xor (among h 0 s) (among h h s) → lanes all ≡ among (h + h) 0 s
halves-meet s all h e = e ∙ rw zero-add at (among-add h h 0 s)

module _ (s : List ℕ) where
  fours-are : (all n : ℕ) → n ≤ length s → lanes all ≡ among n 0 s → lanes all ≡ xor_from 0 (take n s)
  fours-are all n h e = e ∙ ap (xor_from 0) (sym (take-firsts n s h))

  pub halves-end : (all t : ℕ) → t ≡ length s / 8 → length s % 8 < 4 → lanes all ≡ bit_xor (among (t * 4) 0 s) (among (t * 4) (length s / 8 * 4) s)
      → lanes all ≡ xor_from 0 (take (length s / 4 * 4) s)
  halves-end all t k h e =
      let n : length s / 8 * 4 + length s / 8 * 4 ≡ length s / 4 * 4 = omega arith in
      fours-are all (length s / 4 * 4) (omega arith) (rw n at (halves-meet s all (length s / 8 * 4) (rw k at e)))

  pub halves-four : Octets s → (all t : ℕ) → t ≡ length s / 8 → 4 ≤ length s % 8 → lanes all ≡ bit_xor (among (t * 4) 0 s) (among (t * 4) (length s / 8 * 4) s)
      → lanes (bit_xor all (four_at s (length s / 8 * 4 * 2))) ≡ xor_from 0 (take (length s / 4 * 4) s)
  halves-four o all t k h e =
      let half = length s / 8 * 4 in
      let m : half * 2 ≡ half + half = omega arith in
      let n : half + half + 4 ≡ length s / 4 * 4 = omega arith in
      fours-are (bit_xor all (four_at s (half * 2))) (length s / 4 * 4) (omega arith)
      (rw m (rw (zero-add, n) at (four-more s o all (half + half) 0 (halves-meet s all half (rw k at e)))))
