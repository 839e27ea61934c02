-- In a well-formed site every coupler that is fitted has a line that is not 00h, codes that are allowed and a table that fits them, so
-- that its step refuses none of its settings.
use Rattle.std.specs.Prelude.{Ok}
use Prim.Native.Nat.{ℕ, ◌≤◌, ◌<◌}
use mathlib.Core.Bool.{Bool, true, false, not, cond, ◌||◌}
use mathlib.Core.List.{List, [], ◌∷◌}
use mathlib.Core.Path.{◌≡◌, refl, sym, ap, ◌∙◌, subst}
use lib.Dec.{ltb, eqb}
use lib.ListN.{length}
use borrow.Author.Tests.{eqb-true, not-false, lt-ltb, le-ltb, eq-eqb}
use Rattle.coupler.specs.Step.{setting_tests}
use Rattle.frame.proofs.Order.{passed-iff}
use Rattle.frame.specs.Order.{first_of, NoneOf}
use Rattle.journey.specs.Journey.{AtWork, is_ip, setting_by}
use Rattle.octets.proofs.Truth.{by_cases, never}
use Rattle.octets.specs.Octets.{Octets}
use Rattle.passing.specs.Settings.{are_codes, asks_table, table_fits}
use Rattle.site.proofs.RecordLaws.{coupler-octets}
use Rattle.site.specs.Records.{records_of, line_of, codes_of, table_number, coupler_in, coupler_of, is_fitted}
use Rattle.site.specs.Stores.{Stores, table_of}
use Rattle.site.specs.WellFormed.{has_table, records_tests, site_tests}
use Rattle.tracer.specs.Lines.{main_side}

-- the record of a line, as a well-formed site has it
pub record IsSet (st : Stores) (line : ℕ) (r : List ℕ) : Type 0 where
  pub place : line_of r ≡ line
  pub codes : (eqb (line_of r) 0 || not (are_codes (codes_of r))) ≡ false
  pub table : has_table st r ≡ true

set-in : (st : Stores) (line : ℕ) (found lines : List ℕ) (rs : List (List ℕ)) → (is_fitted found ≡ true → IsSet st line found) → NoneOf (records_tests st lines rs)
    → is_fitted (coupler_in line found rs) ≡ true → IsSet st line (coupler_in line found rs)
set-in st line found lines [] h n e = h e
set-in st line found lines (r ∷ rs) h n e =
    set-in st line (cond (eqb (line_of r) line) r found) (line_of r ∷ lines) rs (go (eqb (line_of r) line) refl) n.1.1.1.1 e
  where
    go : (b : Bool) → eqb (line_of r) line ≡ b → is_fitted (cond b r found) ≡ true → IsSet st line (cond b r found)
    go true q w = record { place = eqb-true (line_of r) line q; codes = n.1.0; table = not-false (has_table st r) n.1.1.0 }
    go false q w = h w

pub fitted-set : (st : Stores) (site : List ℕ) → first_of (site_tests st site) ≡ Ok tt → (line : ℕ) → is_fitted (coupler_of line (records_of site)) ≡ true
    → IsSet st line (coupler_of line (records_of site))
unfolding site_tests coupler_of
fitted-set st site w line e =
    let n = (passed-iff (site_tests st site)).0 w in
    set-in st line [] [] (records_of site) (λ z. never (sym z)) n.1.1 e

-- there is no coupler of 00h
pub fitted_line : (st : Stores) (line : ℕ) (r : List ℕ) → IsSet st line r → line ≡ 0 → ⊥
fitted_line st line r x z = go (eqb (line_of r) 0) (eq-eqb (line_of r) 0 (x.place ∙ z)) x.codes
  where
    go : (b : Bool) → b ≡ true → b || not (are_codes (codes_of r)) ≡ false → ⊥
    go true q c = never c
    go false q c = never (sym q)

-- where the site's octets are octets, so are its record's, and its line is one of the 256
pub fitted-below : (st : Stores) (site : List ℕ) (line : ℕ) → Octets site → IsSet st line (coupler_of line (records_of site)) → line < 256
fitted-below st site line o x = subst (λ (n : ℕ). n < 256) x.place (coupler-octets site line o 2)

no_table : (st : Stores) → length (table_of 0xff st) ≡ 0
unfolding table_of
no_table st = refl

table_fits-is_true : (st : Stores) (r : List ℕ) → has_table st r ≡ true → table_fits (codes_of r) (length (table_of (table_number r) st)) ≡ true
unfolding has_table table_fits
table_fits-is_true st r h =
    by_cases (eqb (table_number r) 0xff)
    (λ e.
    let a : not (asks_table (codes_of r)) ≡ true = rw e at h in
    let n : length (table_of (table_number r) st) ≡ 0 = rw (eqb-true (table_number r) 0xff e) (no_table st) in
    rw (n, a) refl)
    (λ e. let a : eqb (length (table_of (table_number r) st)) 8192 ≡ true = rw e at h in rw a refl)

-- the step's settings pass
pub set-passes : (w : AtWork) (line : ℕ) (r : List ℕ) → IsSet w.stores line r → (side room : ℕ) → side < 2 → 272 ≤ room → first_of (setting_tests (setting_by w r side) room) ≡ Ok tt
set-passes w line r x side room h n =
    (passed-iff (setting_tests (setting_by w r side) room)).1
    (x.codes, (ap not (table_fits-is_true w.stores r x.table), (rw (lt-ltb side 2 h) (ap not (medium (is_ip w (main_side (line_of r))))), (le-ltb room 272 n, tt))))
  where
    medium : (b : Bool) → ltb (cond b 1 0) 2 ≡ true
    medium true = refl
    medium false = refl
