-- The starts that a survey of a well-formed site notes find the record of each line's coupler.
use Rattle.std.specs.Prelude.{Result, Ok}
use Prim.Native.Nat.{ℕ, zero, suc, ◌+◌, ◌-◌, ◌≤◌, ◌<◌}
use mathlib.Core.Bool.{Bool, true, false, cond}
use mathlib.Core.List.{List, [], ◌∷◌}
use mathlib.Core.Path.{◌≡◌, refl, sym, ap, ◌∙◌}
use native.Mathlib.Omega.{arith}
use lib.Dec.{eqb}
use lib.ListN.{length, drop, drop_of_length-le}
use Rattle.frame.proofs.Order.{passed-iff}
use Rattle.frame.specs.declared.Refusal.{Refusal}
use Rattle.octets.specs.Octets.{Octets}
use Rattle.site.proofs.LettingLaws.{two-marks}
use Rattle.site.proofs.RecordCount.{site-most}
use Rattle.site.proofs.RecordLaws.{records-end, record-fits, records-more, records-cut, by_equal}
use Rattle.site.specs.Letting.{lets_pass, line_lets_pass, line_lets_pass_by, MarksBothWays, passage_by, passage_at}
use Rattle.site.specs.Records.{record_size, first_record, records_of, line_of, coupler_in, coupler_of}
use Rattle.site.specs.Starts.{record_from, no_start, start_in, start_of, verdict_of, DidSurvey, coupler_from, Noted}
use Rattle.site.specs.Stores.{Stores, stores_in}
use Rattle.site.specs.WellFormed.{site_tests}
use Rattle.site.specs.declared.stores.Stores.{Stores as LentStores}
use Rattle.std.specs.Borrow.{Bor}
use Rattle.site.specs.declared.Surveyed.{Surveyed}

no_record : (site : List ℕ) (from : ℕ) → length site ≤ from → record_from site from ≡ []
unfolding record_from first_record record_size
no_record site from h = rw (drop_of_length-le site h) refl

length-zero : (l : List ℕ) → length l ≡ 0 → l ≡ []
length-zero [] e = refl
length-zero (x ∷ l) e = absurd (omega arith)

module _ (site : List ℕ) (line : ℕ) where
  of-chosen : (b : Bool) (from found : ℕ) → record_from site (cond b from found) ≡ cond b (record_from site from) (record_from site found)
  of-chosen true from found = refl
  of-chosen false from found = refl

  found-by : (k from found : ℕ) → length site - from ≤ k
      → record_from site (start_in line from found (records_of (drop from site))) ≡ coupler_in line (record_from site found) (records_of (drop from site))
  found-by zero from found h = rw (records-end site from (omega arith)) refl
  found-by (suc k) from found h = by_equal (length r) 0 none
      (λ e.
      let some : 0 < length r = omega (arith, e) in
      let fits = record-fits site from refl some in
      rw (records-more site from refl some) (found-by k (from + length r) (cond here from found) (omega (arith, some, fits))
      ∙ ap (λ (x : List ℕ). coupler_in line x (records_of (drop (from + length r) site))) (of-chosen here from found)))
    where
      r : List ℕ
      r = record_from site from

      here : Bool
      here = eqb (line_of r) line

      none : length r ≡ 0 → record_from site (start_in line from found (records_of (drop from site))) ≡ coupler_in line (record_from site found) (records_of (drop from site))
      none e = by_equal (length site - from) 0
          (λ z. rw (records-end site from (omega (arith, z))) refl)
          (λ z. rw (records-cut site from refl e (omega (arith, z))) (of-chosen (eqb 0 line) from found ∙ ap (λ (x : List ℕ). cond (eqb 0 line) x (record_from site found)) (length-zero r e)))

  pub start-finds : length site ≤ no_start → record_from site (start_of line (records_of site)) ≡ coupler_of line (records_of site)
  unfolding start_of coupler_of
  start-finds h = found-by (length site) 0 no_start (omega arith) ∙ ap (λ (x : List ℕ). coupler_in line x (records_of site)) (no_record site no_start h)

pub survey-notes : {given : LentStores} {octets : Bor (List ℕ)} {answer : Result Surveyed Refusal} → DidSurvey given octets answer → Octets octets.now
    → {s : Surveyed} → answer ≡ Ok s → Noted s.records.now s.starts
survey-notes {given} {octets} w o {s} f =
    let st = stores_in given in
    let site = octets.now in
    let found = w.found s f in
    let fine = sym w.judged ∙ ap verdict_of f in
    let most = (site-most st site o ((passed-iff (site_tests st site)).0 fine)).1 in
    rw found.read (record { each = λ line h. ap (record_from site) (found.each line h) ∙ start-finds site line (omega (arith, most)) })

module _ {site starts : List ℕ} (w : Noted site starts) (st : Stores) (kind destination : ℕ) where
  pub noted-passage : (direction line count : ℕ) → line < 256
      → passage_by st kind destination direction count (coupler_from site starts line) ≡ passage_at st kind destination (records_of site) direction line count
  unfolding passage_at
  noted-passage direction line count h = ap (passage_by st kind destination direction count) (w.each line h)

  noted-lets : (direction line : ℕ) → line < 256
      → line_lets_pass_by st kind destination site starts direction line ≡ line_lets_pass st kind destination (records_of site) direction line
  unfolding line_lets_pass line_lets_pass_by
  noted-lets direction line h = ap (lets_pass st kind destination direction) (w.each line h)

  pub noted-letting : {marks : List (List Bool)} → MarksBothWays (line_lets_pass_by st kind destination site starts) marks → MarksBothWays (line_lets_pass st kind destination (records_of site)) marks
  noted-letting m = record { size = m.size; each = λ line h. m.each line h ∙ two-marks (noted-lets 0 line h) (noted-lets 1 line h) }
