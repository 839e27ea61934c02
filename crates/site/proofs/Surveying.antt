-- The walk over the records: those before an index draw no refusal, and `starts` notes for each of their lines where its record starts; so
-- what is left decides.
use Rattle.std.specs.Prelude.{Result, Ok, Err}
use Prim.Native.Nat.{ℕ, suc, ◌+◌, ◌*◌, ◌≤◌, ◌<◌}
use mathlib.Core.Bool.{Bool, not, cond}
use mathlib.Core.List.{List, [], ◌∷◌, ◌++◌}
use mathlib.Core.Path.{◌≡◌, refl, sym, ap, ◌∙◌}
use native.Mathlib.Omega.{arith}
use lib.Dec.{eqb}
use lib.ListN.{length, get_or, drop, set, length-set, replicate, get_or-replicate}
use lib.Seq.{get_or-set_same, get_or-set_other, ext_get_or}
use borrow.Author.Tests.{eq-eqb, ne_eqb}
use Rattle.frame.proofs.Apart.{ok-err, err-ok, ok-one, err-one}
use Rattle.frame.proofs.Order.{first-passed, first-refused, passed-iff}
use Rattle.frame.specs.Order.{Test, first_of}
use Rattle.frame.specs.declared.Refusal.TheVariants.{WrongRecord}
use Rattle.frame.specs.declared.Refusal.{Refusal}
use Rattle.site.proofs.RecordCount.{Counted, counted_none, counted-more, counted-most}
use Rattle.site.proofs.RecordLaws.{records-end, records-more, records-cut, record-next, record-none, by_equal}
use Rattle.site.specs.Records.{records_of, is_marked, line_of}
use Rattle.site.specs.Starts.{no_start, start_in, start_of, verdict_of, Starts, DidSurveyBy}
use Rattle.site.specs.Stores.{Stores}
use Rattle.site.specs.declared.stores.Stores.{Stores as LentStores}
use Rattle.std.specs.Borrow.{Bor}
use Rattle.site.specs.WellFormed.{is_among, record_tests, records_tests}
use Rattle.site.specs.declared.Surveyed.{Surveyed}

-- the records before an index have each a line of its own, and of these lines and no others a start is noted
pub record Apart (starts : List ℕ) (from : ℕ) : Type 0 where
  pub lines : List ℕ
  pub count : ℕ
  pub counted : Counted lines count
  pub few : from ≤ 12 * count
  pub size : length starts ≡ 256
  pub seen : (n : ℕ) → n < 256 → not (eqb (get_or starts n 0) no_start) ≡ is_among n lines

noted-none : (starts : List ℕ) → starts ≡ replicate 256 no_start → (n : ℕ) → n < 256 → get_or starts n 0 ≡ no_start
noted-none starts e n h = ap (λ (l : List ℕ). get_or l n 0) e ∙ get_or-replicate 256 n no_start 0 h

pub apart_none : (starts : List ℕ) → starts ≡ replicate 256 no_start → Apart starts 0
apart_none starts e = record {
  lines = [];
  count = 0;
  counted = counted_none;
  few = omega arith;
  size = ap length e;
  seen = λ n h. rw (noted-none starts e n h) refl;
}

-- so no record starts behind 3,060 octets
pub apart-few : {starts : List ℕ} {from : ℕ} → Apart starts from → from ≤ 3060
apart-few w = omega (arith, w.few, counted-most w.counted)

-- one record behind those of these lines
abbrev tests_behind : Stores → List ℕ → List ℕ → List Test
tests_behind st lines r = record_tests st (is_among (line_of r) lines) r

module _ {starts : List ℕ} {from : ℕ} (w : Apart starts from) (st : Stores) (octets : List ℕ) {line : ℕ} (l : line ≡ line_of octets) (b : line < 256)
    {judged : Result (Unit {0}) Refusal} (j : judged ≡ first_of (record_tests st (not (eqb (get_or starts line 0) no_start)) octets)) where
  by_lines : judged ≡ first_of (tests_behind st w.lines octets)
  by_lines = j ∙ ap (λ (t : Bool). first_of (record_tests st t octets)) (w.seen line b ∙ ap (λ (n : ℕ). is_among n w.lines) l)

  -- whatever start is noted
  pub apart_more : judged ≡ Ok tt → (start : ℕ) → (start ≡ no_start → ⊥) → Apart (set starts line start) (from + 12)
  apart_more f start some =
      let none = (passed-iff (tests_behind st w.lines octets)).0 (sym by_lines ∙ f) in
      record {
        lines = line_of octets ∷ w.lines;
        count = suc w.count;
        counted = counted-more w.counted octets (rw (← l) b) none.1.0 none.1.1.1.0;
        few = omega (arith, w.few);
        size = length-set starts line start ∙ w.size;
        seen = λ n hn. by_equal line n
            (λ e. rw (← l, eq-eqb line n e, ← e, get_or-set_same starts line start 0 (omega (arith, w.size)), ne_eqb start no_start some) refl)
            (λ e. rw (← l, ne_eqb line n e, get_or-set_other starts line n start 0 (λ y. e (sym y))) (w.seen n hn));
      }

-- .. each where its record starts; and they draw no refusal
pub record Surveying (st : Stores) (site starts : List ℕ) (from : ℕ) : Type 0 where
  pub apart : Apart starts from
  pub noted : (n : ℕ) → n < 256 → start_of n (records_of site) ≡ start_in n from (get_or starts n 0) (records_of (drop from site))
  pub left : first_of (records_tests st [] (records_of site)) ≡ first_of (records_tests st apart.lines (records_of (drop from site)))

pub surveying-none : (st : Stores) (site starts : List ℕ) → starts ≡ replicate 256 no_start → Surveying st site starts 0
unfolding start_of apart_none
surveying-none st site starts e = record { apart = apart_none starts e; noted = λ n h. rw (noted-none starts e n h) refl; left = refl }

pub surveying-all : {st : Stores} {site starts : List ℕ} {from : ℕ} → Surveying st site starts from → length site ≤ from
    → (first_of (records_tests st [] (records_of site)) ≡ Ok tt) × ((n : ℕ) → n < 256 → get_or starts n 0 ≡ start_of n (records_of site))
surveying-all {site = site} {from = from} w h =
    let e = records-end site from h in
    (rw e at w.left, λ n hn. sym (rw e at (w.noted n hn)))

module _ {given : LentStores} {octets : Bor (List ℕ)} {records : List (List ℕ)} where
  -- a site that draws no refusal, with what was noted
  pub surveyed-by : {tests : List Test} {s : Surveyed} → first_of tests ≡ Ok tt → Starts given octets records s → DidSurveyBy tests given octets records (Ok s)
  surveyed-by f w = record { judged = sym f; found = λ t e. rw (← ok-one e) w }

  -- a site that is refused, by whatever tests
  pub refused-by : {q : Refusal} {answer : Result Surveyed Refusal} (tests : List Test) → first_of tests ≡ Err q → answer ≡ Err q → DidSurveyBy tests given octets records answer
  refused-by tests f a = record { judged = ap verdict_of a ∙ sym f; found = λ s e. err-ok (sym a ∙ e) }

  -- where neither the stores nor the length is refused, the records decide
  pub records-decide : {ts us : List Test} {answer : Result Surveyed Refusal} → first_of us ≡ first_of ts → DidSurveyBy ts given octets records answer → DidSurveyBy us given octets records answer
  records-decide e w = record { judged = w.judged ∙ sym e; found = w.found }

-- octets are left over
pub surveying-cut : {st : Stores} {site starts : List ℕ} {from : ℕ} → Surveying st site starts from → length (drop from site) < 12 → from < length site
    → first_of (records_tests st [] (records_of site)) ≡ Err WrongRecord
unfolding is_marked
surveying-cut {st} {site} {from = from} w fewer h =
    w.left ∙ ap (λ (rs : List (List ℕ)). first_of (records_tests st w.apart.lines rs)) (records-cut site from refl (record-none site from fewer) h)

module _ {st : Stores} {site starts : List ℕ} {from : ℕ} (w : Surveying st site starts from)
    (octets behind : List ℕ) (e : drop from site ≡ octets ++ behind) (h : length octets ≡ 12) {line : ℕ} (l : line ≡ line_of octets) (b : line < 256)
    {judged : Result (Unit {0}) Refusal} (j : judged ≡ first_of (record_tests st (not (eqb (get_or starts line 0) no_start)) octets)) where
  abbrev here : List Test
  here = tests_behind st w.apart.lines octets

  abbrev rest : List (List ℕ)
  rest = records_of (drop (from + 12) site)

  abbrev later : List Test
  later = records_tests st (line_of octets ∷ w.apart.lines) rest

  split : records_of (drop from site) ≡ octets ∷ rest
  split = rw h at (records-more site from (record-next site from octets behind e h) (omega (arith, h)))

  unrolled : first_of (records_tests st [] (records_of site)) ≡ first_of (here ++ later)
  unrolled = w.left ∙ ap (λ (rs : List (List ℕ)). first_of (records_tests st w.apart.lines rs)) split

  pub surveying-refused : (refusal : Refusal) → judged ≡ Err refusal → first_of (records_tests st [] (records_of site)) ≡ Err refusal
  surveying-refused refusal f = unrolled ∙ first-refused here later refusal (sym (by_lines w.apart st octets l b j) ∙ f)

  pub surveying-more : judged ≡ Ok tt → Surveying st site (set starts line from) (from + 12)
  unfolding apart_more
  surveying-more f = record {
    apart = apart_more w.apart st octets l b j f from (λ e. omega (arith, apart-few w.apart, e));
    noted = λ n hn.
        let noted : cond (eqb (line_of octets) n) from (get_or starts n 0) ≡ get_or (set starts line from) n 0 = by_equal line n
        (λ e. rw (← l, eq-eqb line n e, ← e, get_or-set_same starts line from 0 (omega (arith, w.apart.size))) refl)
        (λ e. rw (← l, ne_eqb line n e, get_or-set_other starts line n from 0 (λ y. e (sym y))) refl) in
        w.noted n hn ∙ ap (start_in n from (get_or starts n 0)) split
        ∙ ap (λ (size : ℕ). start_in n (from + size) (cond (eqb (line_of octets) n) from (get_or starts n 0)) rest) h ∙ ap (λ (found : ℕ). start_in n (from + 12) found rest) noted;
    left = unrolled ∙ first-passed here later (sym (by_lines w.apart st octets l b j) ∙ f);
  }

-- what a survey answers is determined
starts-one : {given : LentStores} {octets : Bor (List ℕ)} {records : List (List ℕ)} {a b : Surveyed} → Starts given octets records a → Starts given octets records b → a ≡ b
starts-one {a = a} {b = b} x y =
    let r : a.records ≡ b.records = x.read ∙ sym y.read in
    let l : a.stores ≡ b.stores = x.lent ∙ sym y.lent in
    let s : a.starts ≡ b.starts = ext_get_or 0 a.starts b.starts (x.size ∙ sym y.size) (λ i h. let k : i < 256 = omega (arith, x.size) in x.each i k ∙ sym (y.each i k)) in
    λ i. record { records = r i; stores = l i; starts = s i }

pub survey-one : {tests : List Test} {given : LentStores} {octets : Bor (List ℕ)} {records : List (List ℕ)} {a b : Result Surveyed Refusal}
    → DidSurveyBy tests given octets records a → DidSurveyBy tests given octets records b → a ≡ b
survey-one {a = Ok s} {b = Ok t} x y = ap Ok (starts-one (x.found s refl) (y.found t refl))
survey-one {a = Ok s} {b = Err r} x y = ok-err (x.judged ∙ sym y.judged)
survey-one {a = Err q} {b = Ok t} x y = err-ok (x.judged ∙ sym y.judged)
survey-one {a = Err q} {b = Err r} x y = ap Err (err-one (x.judged ∙ sym y.judged))
