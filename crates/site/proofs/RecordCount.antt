-- "A site is 0 to 255 records": each record of a well-formed site has a line of its own, and there are 255 beside 00h. The lines that stand
-- in a list are counted; each record behind others adds one to that count.
use Prim.Native.Nat.{ℕ, zero, suc, ◌+◌, ◌*◌, ◌≤◌, ◌<◌}
use mathlib.Core.Bool.{Bool, true, false, not, cond, ◌||◌}
use mathlib.Core.List.{List, [], ◌∷◌}
use mathlib.Core.Path.{◌≡◌, refl}
use native.Mathlib.Omega.{arith}
use lib.Dec.{eqb}
use lib.ListN.{length, drop, length-drop}
use borrow.Author.Tests.{eq-eqb, ne_eqb}
use Rattle.frame.specs.Order.{NoneOf}
use Rattle.passing.specs.Settings.{are_codes}
use Rattle.octets.proofs.Octets.{octets-drop}
use Rattle.octets.proofs.Truth.{or-false}
use Rattle.octets.specs.Octets.{Octets}
use Rattle.site.proofs.RecordLaws.{size-some, first-octets, by_equal}
use Rattle.site.specs.Records.{record_size, first_record, records_by, records_of, line_of, codes_of}
use Rattle.site.specs.Stores.{Stores}
use Rattle.site.specs.WellFormed.{is_among, records_tests, site_tests}

-- how many numbers below another stand in a list
unfoldable standing : List ℕ → ℕ → ℕ
standing l zero = 0
standing l (suc n) = standing l n + cond (is_among n l) 1 0

one-most : (b : Bool) → cond b 1 0 ≤ 1
one-most true = omega arith
one-most false = omega arith

-- without 00h
standing-most : (l : List ℕ) → is_among 0 l ≡ false → (n : ℕ) → standing l (suc n) ≤ n
unfolding standing
standing-most l z zero = rw z (omega arith)
standing-most l z (suc n) = omega (arith, standing-most l z n, one-most (is_among (suc n) l))

-- a number more
standing-same : (t : ℕ) (l : List ℕ) (n : ℕ) → n ≤ t → standing (t ∷ l) n ≡ standing l n
unfolding standing
standing-same t l zero h = refl
standing-same t l (suc n) h = rw (standing-same t l n (omega arith), ne_eqb t n (λ e. omega (arith, e))) refl

standing-more : (t : ℕ) (l : List ℕ) → is_among t l ≡ false → (n : ℕ) → t < n → standing (t ∷ l) n ≡ suc (standing l n)
unfolding standing
standing-more t l a zero h = absurd (omega arith)
standing-more t l a (suc n) h =
    by_equal t n
    (λ e. rw (← e, standing-same t l t (omega arith), eq-eqb t t refl, a) (omega arith))
    (λ e. rw (standing-more t l a n (omega (arith, e)), ne_eqb t n e) (omega arith))

-- so many records had these lines, each its own and none 00h
pub record Counted (lines : List ℕ) (count : ℕ) : Type 0 where
  free : is_among 0 lines ≡ false
  many : count ≤ standing lines 256

pub counted_none : Counted [] 0
counted_none = record { free = refl; many = omega arith }

pub counted-most : {lines : List ℕ} {count : ℕ} → Counted lines count → count ≤ 255
counted-most {lines} w = omega (arith, w.many, standing-most lines w.free 255)

pub counted-more : {lines : List ℕ} {count : ℕ} → Counted lines count → (r : List ℕ) → line_of r < 256
    → (eqb (line_of r) 0 || not (are_codes (codes_of r))) ≡ false → is_among (line_of r) lines ≡ false → Counted (line_of r ∷ lines) (suc count)
counted-more {lines} w r below set fresh =
    let some : eqb (line_of r) 0 ≡ false = (or-false (eqb (line_of r) 0) (not (are_codes (codes_of r))) set).0 in
    record { free = rw (some, w.free) refl; many = omega (arith, w.many, standing-more (line_of r) lines fresh 256 below) }

-- so many records at most, and so many octets
most-by : (st : Stores) {lines : List ℕ} {count : ℕ} → Counted lines count → (k : ℕ) (s : List ℕ) → Octets s → length s ≤ k → NoneOf (records_tests st lines (records_by k s))
    → (length (records_by k s) + count ≤ 255) × (length s ≤ 12 * length (records_by k s))
most-by st {lines = lines} {count = count} w zero s o h n = (omega (arith, counted-most w), omega arith)
most-by st {lines = lines} {count = count} w (suc k) [] o h n = (omega (arith, counted-most w), omega arith)
most-by st {lines = lines} {count = count} w (suc k) (x ∷ xs) o h n =
    let s = x ∷ xs in
    let z = record_size s in
    let left = length-drop z s in
    let more = counted-more w (first_record s) (first-octets s o 2) n.1.0 n.1.1.1.0 in
    let rest = most-by st {lines = line_of (first_record s) ∷ lines} {count = suc count} more k (drop z s) (octets-drop z s o) (omega (arith, left, size-some s)) n.1.1.1.1 in
    (omega (arith, rest.0), omega (arith, left, size-some s, rest.1))

pub site-most : (st : Stores) (site : List ℕ) → Octets site → NoneOf (site_tests st site) → (length (records_of site) ≤ 255) × (length site ≤ 3060)
unfolding site_tests records_of
site-most st site o n =
    let most = most-by st counted_none (length site) site o (omega arith) n.1.1 in
    (omega (arith, most.0), omega (arith, most.0, most.1))
