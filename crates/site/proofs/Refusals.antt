-- "A site is well-formed exactly if it and its stores draw none of 15 to 18": no other refusal stands among its tests, and by the law of
-- tests in order it is well-formed exactly if no test is true.
use Rattle.std.specs.Prelude.{Ok, Err}
use Prim.Native.Nat.{ℕ, ◌≤◌, ◌<◌}
use mathlib.Core.Bool.{Bool, true, false, ◌&&◌}
use mathlib.Core.List.{List, [], ◌∷◌}
use mathlib.Core.Logic.{◌↔◌}
use mathlib.Core.Path.{◌≡◌, refl}
use native.Mathlib.Omega.{arith}
use lib.Dec.{leb}
use borrow.Author.Tests.{leb-true, ne_eqb}
use Rattle.frame.proofs.Apart.{ok-err}
use Rattle.frame.specs.Order.{Test, first_of, NoneOf, FirstIs, ◌gives◌}
use Rattle.frame.specs.Refusals.{number}
use Rattle.frame.specs.declared.Refusal.{Refusal}
use Rattle.octets.proofs.Truth.{and-true}
use Rattle.site.specs.Records.{records_of, line_of}
use Rattle.site.specs.Stores.{Stores}
use Rattle.site.specs.WellFormed.{records_tests, site_tests}
use Rattle.frame.proofs.Order.{passed-iff, refused-iff as order-iff, gives_not}

-- every test gives 15, 16, 17 or 18
abbrev pub are_sites : List Test → Bool
are_sites [] = true
are_sites (b gives r ∷ ts) = leb 15 (number r) && (leb (number r) 18 && are_sites ts)

records-are : (st : Stores) (lines : List ℕ) (rs : List (List ℕ)) → are_sites (records_tests st lines rs) ≡ true
records-are st lines [] = refl
records-are st lines (r ∷ rs) = records-are st (line_of r ∷ lines) rs

pub site-are : (st : Stores) (site : List ℕ) → are_sites (site_tests st site) ≡ true
unfolding site_tests
site-are st site = records-are st [] (records_of site)

pub well-formed-iff : (st : Stores) (site : List ℕ) → first_of (site_tests st site) ≡ Ok tt ↔ NoneOf (site_tests st site)
well-formed-iff st site = passed-iff (site_tests st site)

pub refused-iff : (st : Stores) (site : List ℕ) (r : Refusal) → first_of (site_tests st site) ≡ Err r ↔ FirstIs (site_tests st site) r
refused-iff st site = order-iff (site_tests st site)

numbered-by : (ts : List Test) (r : Refusal) → are_sites ts ≡ true → first_of ts ≡ Err r → (15 ≤ number r) × (number r ≤ 18)
numbered-by [] r a e = ok-err e
numbered-by (true gives q ∷ ts) r a e =
    let h : q ≡ r = cc in
    let x = and-true (leb 15 (number q)) (leb (number q) 18 && are_sites ts) a in
    let y = and-true (leb (number q) 18) (are_sites ts) x.1 in
    (rw (← h) (leb-true 15 (number q) x.0), rw (← h) (leb-true (number q) 18 y.0))
numbered-by (false gives q ∷ ts) r a e =
    let x = and-true (leb 15 (number q)) (leb (number q) 18 && are_sites ts) a in
    numbered-by ts r (and-true (leb (number q) 18) (are_sites ts) x.1).1 e

-- a refused site draws one of 15 to 18
pub site-numbers : (st : Stores) (site : List ℕ) (r : Refusal) → first_of (site_tests st site) ≡ Err r → (15 ≤ number r) × (number r ≤ 18)
site-numbers st site r = numbered-by (site_tests st site) r (site-are st site)

-- and no other
pub gives-none-below : (ts : List Test) (r : Refusal) → are_sites ts ≡ true → number r < 15 → gives_not ts r ≡ true
gives-none-below [] r a h = refl
gives-none-below (b gives q ∷ ts) r a h =
    let x = and-true (leb 15 (number q)) (leb (number q) 18 && are_sites ts) a in
    rw (ne_eqb (number q) (number r) (λ e. omega (arith, leb-true 15 (number q) x.0))) (gives-none-below ts r (and-true (leb (number q) 18) (are_sites ts) x.1).1 h)
