-- The records of a site, one at a time: what is left from an index on is the record there and what is left behind it.
use Prim.Native.Nat.{ℕ, zero, suc, ◌+◌, ◌≤◌, ◌<◌}
use mathlib.Core.Bool.{Bool, true, false, cond}
use mathlib.Core.List.{List, [], ◌∷◌, ◌++◌}
use mathlib.Core.Path.{◌≡◌, refl, sym, ap, ◌∙◌}
use native.Mathlib.Omega.{arith}
use lib.Dec.{leb, eqb}
use lib.ListN.{length, take, drop, length-append, length-drop, drop_of_length-le}
use lib.Seq.{drop-drop, length-take-le, take-append_seam, drop-append_seam}
use borrow.Author.Tests.{le-leb, lt-leb, leb-true, leb-false, eqb-true, eqb-false}
use Rattle.octets.proofs.Octets.{octets-take, octets-drop}
use Rattle.octets.specs.Octets.{Octets}
use Rattle.site.specs.Records.{record_size, first_record, records_by, records_of, line_of, coupler_in, coupler_of}
use Rattle.site.specs.Starts.{record_from}

pub size-some : (s : List ℕ) → (0 < record_size s) × (record_size s ≤ 12)
unfolding record_size
size-some s = (omega arith, omega arith)

-- behind a record fewer octets are left
fewer : (o : ℕ) (os : List ℕ) → length (drop (record_size (o ∷ os)) (o ∷ os)) ≤ length os
fewer o os = rw (length-drop (record_size (o ∷ os)) (o ∷ os)) (omega (arith, (size-some (o ∷ os)).0))

-- more steps than octets change nothing
enough : (j k : ℕ) (s : List ℕ) → length s ≤ j → length s ≤ k → records_by j s ≡ records_by k s
enough zero zero [] h i = refl
enough zero (suc k) [] h i = refl
enough (suc j) zero [] h i = refl
enough (suc j) (suc k) [] h i = refl
enough zero k (o ∷ os) h i = absurd (omega arith)
enough (suc j) zero (o ∷ os) h i = absurd (omega arith)
enough (suc j) (suc k) (o ∷ os) h i =
    let rest = drop (record_size (o ∷ os)) (o ∷ os) in
    ap (λ (l : List (List ℕ)). first_record (o ∷ os) ∷ l) (enough j k rest (omega (arith, fewer o os)) (omega (arith, fewer o os)))

first_more : (s : List ℕ) → 0 < length s → records_of s ≡ first_record s ∷ records_of (drop (record_size s) s)
unfolding records_of
first_more [] h = absurd (omega arith)
first_more (o ∷ os) h =
    let rest = drop (record_size (o ∷ os)) (o ∷ os) in
    ap (λ (l : List (List ℕ)). first_record (o ∷ os) ∷ l) (enough (length os) (length rest) rest (fewer o os) (omega arith))

pub records-end : (site : List ℕ) (from : ℕ) → length site ≤ from → records_of (drop from site) ≡ []
unfolding records_of
records-end site from h = rw (drop_of_length-le site h) refl

-- before its end a record stands in front ..
any-more : (site : List ℕ) (from : ℕ) → from < length site → records_of (drop from site) ≡ record_from site from ∷ records_of (drop (from + record_size (drop from site)) site)
unfolding record_from
any-more site from h =
    let some : 0 < length (drop from site) = rw (length-drop from site) (omega arith) in
    rw (← drop-drop (record_size (drop from site)) from site) (first_more (drop from site) some)

whole-or-none : {P : Type 0} (site : List ℕ) (from : ℕ)
    → (length (record_from site from) ≡ record_size (drop from site) → from + record_size (drop from site) ≤ length site → P)
    → (record_from site from ≡ [] → length site < from + record_size (drop from site) → P) → P
unfolding record_from first_record
whole-or-none {P} site from f g = pick (leb n (length s)) refl
  where
    s : List ℕ
    s = drop from site

    n : ℕ
    n = record_size s

    pick : (b : Bool) → leb n (length s) ≡ b → P
    pick true e =
        let h = leb-true n (length s) e in
        f (rw e (length-take-le n s h)) (omega (arith, h, length-drop from site, (size-some s).0))
    pick false e = g (rw e refl) (omega (arith, leb-false n (length s) e, length-drop from site))

record-whole : (site : List ℕ) (from : ℕ) → 0 < length (record_from site from) → (length (record_from site from) ≡ record_size (drop from site)) × (from + record_size (drop from site) ≤ length site)
record-whole site from h = whole-or-none site from (λ w m. (w, m)) (λ n m. absurd (omega (arith, h, ap length n)))

-- .. which the site has whole where it has some octets
module _ (site : List ℕ) (from : ℕ) {octets : List ℕ} (r : octets ≡ record_from site from) (h : 0 < length octets) where
  whole : (length (record_from site from) ≡ record_size (drop from site)) × (from + record_size (drop from site) ≤ length site)
  whole = record-whole site from (rw (← r) h)

  pub record-fits : from + length octets ≤ length site
  record-fits = omega (arith, whole, ap length r)

  pub records-more : records_of (drop from site) ≡ octets ∷ records_of (drop (from + length octets) site)
  records-more = rw (r, whole.0) (any-more site from (omega (arith, whole, size-some (drop from site))))

-- .. or no octets, and it is the last
pub records-cut : (site : List ℕ) (from : ℕ) {tested : List ℕ} → tested ≡ record_from site from → length tested ≡ 0 → from < length site → records_of (drop from site) ≡ [] ∷ []
records-cut site from q z h = whole-or-none site from
    (λ w m. absurd (omega (arith, ap length q, w, z, size-some (drop from site))))
    (λ n m. any-more site from h ∙ rw (n, records-end site (from + record_size (drop from site)) (omega (arith, m))) refl)

-- the next twelve octets are the record that stands there ..
pub record-next : (site : List ℕ) (from : ℕ) (octets behind : List ℕ) → drop from site ≡ octets ++ behind → length octets ≡ 12 → octets ≡ record_from site from
unfolding record_from first_record record_size
record-next site from octets behind e h =
    let next : take 12 (octets ++ behind) ≡ octets = rw h at (take-append_seam octets behind) in
    rw (e, le-leb 12 (length (octets ++ behind)) (omega (arith, h, length-append octets behind))) (sym next)

pub record-behind : (site : List ℕ) (from : ℕ) (octets behind : List ℕ) → drop from site ≡ octets ++ behind → length octets ≡ 12 → behind ≡ drop (from + 12) site
record-behind site from octets behind e h =
    let rest : drop 12 (octets ++ behind) ≡ behind = rw h at (drop-append_seam octets behind) in
    sym (sym (drop-drop 12 from site) ∙ ap (drop 12) e ∙ rest)

-- .. and fewer are none
pub record-none : (site : List ℕ) (from : ℕ) → length (drop from site) < 12 → length (record_from site from) ≡ 0
unfolding record_from first_record record_size
record-none site from h = rw (lt-leb 12 (length (drop from site)) h) refl

-- where the site's octets are octets, so are those of a record and of a coupler's
pub first-octets : (s : List ℕ) → Octets s → Octets (first_record s)
unfolding first_record
first-octets s o = pick (leb (record_size s) (length s))
  where
    pick : (b : Bool) → Octets (cond b (take (record_size s) s) [])
    pick true = octets-take (record_size s) s o
    pick false = λ i. omega arith

octets-by : (k : ℕ) (s : List ℕ) (line : ℕ) (found : List ℕ) → Octets s → Octets found → Octets (coupler_in line found (records_by k s))
octets-by zero s line found o f = f
octets-by (suc k) [] line found o f = f
octets-by (suc k) (x ∷ xs) line found o f =
    let s = x ∷ xs in
    let here = eqb (line_of (first_record s)) line in
    octets-by k (drop (record_size s) s) line (cond here (first_record s) found) (octets-drop (record_size s) s o) (either here (first_record s) (first-octets s o))
  where
    either : (b : Bool) (r : List ℕ) → Octets r → Octets (cond b r found)
    either true r h = h
    either false r h = f

pub coupler-octets : (site : List ℕ) (line : ℕ) → Octets site → Octets (coupler_of line (records_of site))
unfolding coupler_of records_of
coupler-octets site line o = octets-by (length site) site line [] o (λ i. omega arith)

-- two numbers are equal or not
pub by_equal : {P : Type 0} (m n : ℕ) → (m ≡ n → P) → ((m ≡ n → ⊥) → P) → P
by_equal {P} m n f g = pick (eqb m n) refl
  where
    pick : (b : Bool) → eqb m n ≡ b → P
    pick true e = f (eqb-true m n e)
    pick false e = g (eqb-false m n e)
