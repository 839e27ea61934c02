-- The marks of a telegram, line by line, and what the coupler of a line makes of it.
use Prim.Native.Nat.{ℕ, ◌+◌, ◌≤◌, ◌<◌}
use mathlib.Core.Bool.{Bool, true, false, not, cond, ◌&&◌}
use mathlib.Core.List.{List, [], ◌∷◌}
use mathlib.Core.Path.{◌≡◌, refl, sym, ◌∙◌}
use native.Mathlib.Omega.{arith}
use lib.Dec.{eqb}
use lib.ListN.{length, get_or, set, length-set}
use lib.Seq.{get_or-set_same, get_or-set_other, ext_get_or}
use Rattle.passing.proofs.PassingLaws.{passes-iff}
use borrow.Author.Tests.{ne_eqb}
use Rattle.passing.specs.Settings.{class_of}
use Rattle.passing.specs.Passing.{is_ruled, may_pass, passage_of, does_pass}
use Rattle.passing.specs.declared.Passage.TheVariants.{NotFitted}
use Rattle.passing.specs.declared.Passage.{Passage}
use Rattle.site.proofs.RecordLaws.{by_equal}
use Rattle.site.specs.Letting.{record_passes, lets_pass, line_lets_pass, MarksBothWays, passage_by, passage_at}
use Rattle.site.specs.Records.{line_of, codes_of, table_number, coupler_of, is_fitted}
use Rattle.passing.specs.declared.Filter.{Filter}
use Rattle.site.specs.Stages.{record_both_ways, IsFilterOf}
use Rattle.site.specs.Stores.{Stores, table_of}

-- the marks of the lines below one
pub record MarkedBelow (holds : ℕ → ℕ → Bool) (marks : List (List Bool)) (line : ℕ) : Type 0 where
  pub size : length marks ≡ 256
  pub each : (n : ℕ) → n < line → get_or marks n [] ≡ holds 0 n ∷ holds 1 n ∷ []

pub marked-none : (holds : ℕ → ℕ → Bool) (marks : List (List Bool)) → length marks ≡ 256 → MarkedBelow holds marks 0
marked-none holds marks e = record { size = e; each = λ n h. absurd (omega arith) }

pub marked-more : {holds : ℕ → ℕ → Bool} {marks : List (List Bool)} {line : ℕ} → MarkedBelow holds marks line → line < 256
    → {passes : List Bool} → passes ≡ (holds 0 line ∷ holds 1 line ∷ []) → MarkedBelow holds (set marks line passes) (line + 1)
marked-more {holds} {marks} {line} w h {passes} m = record {
  size = length-set marks line passes ∙ w.size;
  each = λ n hn. by_equal line n
      (λ e. rw (← e) (get_or-set_same marks line passes [] (omega (arith, w.size)) ∙ m))
      (λ e. get_or-set_other marks line n passes [] (λ y. e (sym y)) ∙ w.each n (omega (arith, e)));
}

pub marked-all : {holds : ℕ → ℕ → Bool} {marks : List (List Bool)} {line : ℕ} → MarkedBelow holds marks line → 256 ≤ line → MarksBothWays holds marks
marked-all w h = record { size = w.size; each = λ n hn. w.each n (omega arith) }

pub two-marks : {a a' b b' : Bool} → a ≡ a' → b ≡ b' → (a ∷ b ∷ []) ≡ (a' ∷ b' ∷ [])
two-marks x y = rw (x, y) refl

-- the coupler's own test, with what the record says
pub asked : (st : Stores) (kind destination direction : ℕ) (octets : List ℕ) {f : Filter} {mark : Bool} → IsFilterOf st octets f
    → mark ≡ may_pass f.line f.codes f.table.now direction kind destination → mark ≡ record_passes st kind destination direction octets
unfolding record_passes
asked st kind destination direction octets w m = m ∙ rw (w.line, w.codes, w.table) refl

-- .. which of an individual address asks no table
pub bare-asked : (st : Stores) (kind destination direction : ℕ) (octets : List ℕ) {line : ℕ} {codes : List (List ℕ)} (table : List ℕ) {mark : Bool}
    → (kind ≡ 1 → ⊥) → line ≡ line_of octets → codes ≡ codes_of octets → mark ≡ may_pass line codes table direction kind destination
    → mark ≡ record_passes st kind destination direction octets
unfolding record_passes may_pass is_ruled class_of
bare-asked st kind destination direction octets table g l k m = m ∙ rw (l, k, ne_eqb kind 1 g) refl

-- .. both ways, where a coupler is fitted
pub fitted-both : (st : Stores) (kind destination : ℕ) (octets : List ℕ) {a b : Bool} → eqb (length octets) 0 ≡ false
    → a ≡ record_passes st kind destination 0 octets → b ≡ record_passes st kind destination 1 octets → (a ∷ b ∷ []) ≡ record_both_ways st kind destination octets
fitted-both st kind destination octets n x y = rw n (two-marks x y)

-- what it makes of a telegram: no coupler, or its own reasons
module _ (st : Stores) (kind destination direction count : ℕ) (octets : List ℕ) where
  pub passage-none : eqb (length octets) 0 ≡ true → NotFitted ≡ passage_by st kind destination direction count octets
  unfolding passage_by
  passage-none e = rw e refl

  pub passage-asked : {f : Filter} {passage : Passage} → eqb (length octets) 0 ≡ false → IsFilterOf st octets f
      → passage ≡ passage_of f.line f.codes f.table.now direction kind destination count → passage ≡ passage_by st kind destination direction count octets
  unfolding passage_by
  passage-asked n w m = m ∙ rw (n, w.line, w.codes, w.table) refl

-- a coupler makes nothing of a telegram to stop it exactly if it is fitted, lets it pass, and the count is not used up
pub passage-lets : (st : Stores) (kind destination : ℕ) (records : List (List ℕ)) (direction line count : ℕ)
    → does_pass (passage_at st kind destination records direction line count) ≡ line_lets_pass st kind destination records direction line && not (eqb count 0)
unfolding passage_at passage_by line_lets_pass record_passes
passage-lets st kind destination records direction line count = pick (coupler_of line records)
  where
    by-fitted : (b : Bool) (p : Passage) (m n : Bool) → does_pass p ≡ m && n → does_pass (cond b p NotFitted) ≡ (b && m) && n
    by-fitted true p m n e = e
    by-fitted false p m n e = refl

    pick : (r : List ℕ) → does_pass (passage_by st kind destination direction count r) ≡ lets_pass st kind destination direction r && not (eqb count 0)
    pick r =
        let table = table_of (table_number r) st in
        by-fitted (is_fitted r) (passage_of (line_of r) (codes_of r) table direction kind destination count) (may_pass (line_of r) (codes_of r) table direction kind destination) (not (eqb count 0))
        (passes-iff (line_of r) (codes_of r) table direction kind destination count)

-- the marks are determined
pub both-ways-one : {f : ℕ → ℕ → Bool} {a b : List (List Bool)} → MarksBothWays f a → MarksBothWays f b → a ≡ b
both-ways-one {a = a} {b = b} x y =
    ext_get_or [] a b (x.size ∙ sym y.size) (λ i h. let k : i < 256 = omega (arith, x.size) in x.each i k ∙ sym (y.each i k))
