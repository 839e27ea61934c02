-- A telegram followed over a path: one coupler, and a path in two pieces.
use Rattle.std.specs.Prelude.{Result, Ok, Err, Option}
use Rattle.std.specs.Result.{result_err}
use Prim.Native.Nat.{ℕ}
use mathlib.Core.Bool.{Bool, true, false}
use mathlib.Core.List.{List, [], ◌∷◌, ◌++◌}
use mathlib.Core.Path.{◌≡◌, refl, sym, ap, ◌∙◌}
use native.Mathlib.Omega.{arith}
use Rattle.passing.specs.Passing.{does_pass}
use denote.Enum.Bare.{sameb}
use Rattle.passing.specs.contracts.Passage.{the_type}
use Rattle.passing.specs.declared.Passage.{Passage}
use Rattle.passing.specs.declared.Passage.TheVariants.{Passes, NotFitted, OwnAddress, Closed, NotBelow, NotAbove, NotInTable, UsedUp}
use Rattle.frame.proofs.Order.{first-passed, first-refused}
use Rattle.frame.specs.Order.{first_of, answer_by}
use Rattle.frame.specs.declared.Refusal.{Refusal}
use Rattle.site.specs.Letting.{passage_at}
use Rattle.site.specs.Records.{records_of}
use Rattle.site.specs.Starts.{verdict_of}
use Rattle.site.specs.Stores.{Stores}
use Rattle.site.specs.WellFormed.{is_among, site_tests}
use Rattle.site.specs.declared.Surveyed.{Surveyed}
use Rattle.tracer.proofs.Paths.{on-zero, before_on, before-off}
use Rattle.tracer.specs.Lines.{main_side, main_sides, before_common, Crossing, up, down, up_over, down_over, path}
use Rattle.tracer.specs.Query.{hopped_in}
use Rattle.tracer.specs.declared.Query.{Query}
use Rattle.tracer.specs.Tracing.{asking_tests}
use Rattle.tracer.specs.Why.{handed_on, walked, why_by, why_of, why_tests, answer_why}
use Rattle.tracer.specs.declared.Stop.{Stop}

-- a line that is not on the way to 00h is not 00h
pub not-zero : (n m : ℕ) → is_among n (main_sides m) ≡ false → n ≡ 0 → ⊥
not-zero n m e z =
    let f : true ≡ false = sym (on-zero m) ∙ (rw z at e) in
    let y : ◌≡◌ {A = ℕ} 0 1 = cc in
    omega arith

-- being the same as the first of them is letting it pass
pub same-passes : (p : Passage) → sameb the_type p Passes ≡ does_pass p
same-passes Passes = refl
same-passes NotFitted = refl
same-passes OwnAddress = refl
same-passes Closed = refl
same-passes NotBelow = refl
same-passes NotAbove = refl
same-passes NotInTable = refl
same-passes UsedUp = refl

module _ (st : Stores) (site : List ℕ) (q : Query) where
  pub hand-stopped : {w : Result ℕ Stop} (x : Crossing) (stop : Stop) → w ≡ Err stop → Err stop ≡ handed_on st site q w x
  hand-stopped x stop e = rw e refl

  module _ {w : Result ℕ Stop} (x : Crossing) (count : ℕ) (e : w ≡ Ok count) {p : Passage} (reason : p ≡ passage_at st q.kind q.destination (records_of site) x.direction x.line count) {b : Bool} (d : b ≡ does_pass p) where
    pub hand-goes : {n : ℕ} → b ≡ true → n ≡ hopped_in q count → Ok n ≡ handed_on st site q w x
    hand-goes t h = rw (e, ← reason, ← d, t) (ap Ok h)

    pub hand-stops : b ≡ false → Err (record { coupler = x.line; direction = x.direction; reason = p }) ≡ handed_on st site q w x
    hand-stops f = rw (e, ← reason, ← d, f) refl

  pub walked-append : (w : Result ℕ Stop) (xs ys : List Crossing) → walked st site q w (xs ++ ys) ≡ walked st site q (walked st site q w xs) ys
  walked-append w [] ys = refl
  walked-append w (x ∷ xs) ys = walked-append (handed_on st site q w x) xs ys

  -- up to the first line in common, and down from it: a line that the other's main sides have too ends the way, any other is one coupler
  pub up-joined : (w : Result ℕ Stop) (from to : ℕ) {b : Bool} → b ≡ is_among from (main_sides to) → b ≡ true → w ≡ walked st site q w (up_over (before_common (main_sides from) (main_sides to)))
  up-joined w from to e t = rw (before_on from (main_sides to) (sym e ∙ t)) refl

  pub up_more : (w : Result ℕ Stop) {next r : Result ℕ Stop} {main : ℕ} (from to : ℕ) {b : Bool} → b ≡ is_among from (main_sides to) → b ≡ false → next ≡ handed_on st site q w (up from) → main ≡ main_side from
      → r ≡ walked st site q next (up_over (before_common (main_sides main) (main_sides to))) → r ≡ walked st site q w (up_over (before_common (main_sides from) (main_sides to)))
  up_more w {main = main} from to e f n m r =
      r
      ∙ ap (λ (v : Result ℕ Stop). walked st site q v (up_over (before_common (main_sides main) (main_sides to)))) n
      ∙ ap (λ (k : ℕ). walked st site q (handed_on st site q w (up from)) (up_over (before_common (main_sides k) (main_sides to)))) m
      ∙ ap (λ (l : List ℕ). walked st site q w (up_over l)) (sym (before-off from (main_sides to) (not-zero from to (sym e ∙ f)) (sym e ∙ f)))

  pub down-joined : (w : Result ℕ Stop) (from to : ℕ) {b : Bool} → b ≡ is_among to (main_sides from) → b ≡ true → w ≡ walked st site q w (down_over (before_common (main_sides to) (main_sides from)))
  down-joined w from to e t = rw (before_on to (main_sides from) (sym e ∙ t)) refl

  pub down-more : (w : Result ℕ Stop) {there r : Result ℕ Stop} {main : ℕ} (from to : ℕ) {b : Bool} → b ≡ is_among to (main_sides from) → b ≡ false → main ≡ main_side to
      → there ≡ walked st site q w (down_over (before_common (main_sides main) (main_sides from))) → r ≡ handed_on st site q there (down to)
      → r ≡ walked st site q w (down_over (before_common (main_sides to) (main_sides from)))
  down-more w {main = main} from to e f m t r =
      rw (before-off to (main_sides from) (not-zero to from (sym e ∙ f)) (sym e ∙ f), ← m)
      (r ∙ rw t (sym (walked-append w (down_over (before_common (main_sides main) (main_sides from))) (down to ∷ []))))

told : (walk : Result ℕ Stop) → Ok (result_err walk) ≡ why_by walk
told (Ok count) = refl
told (Err stop) = refl

-- the walk over the path, up and then down
module _ (st : Stores) (site : List ℕ) (q : Query) (line : ℕ) {joined walk : Result ℕ Stop}
    (u : joined ≡ walked st site q (Ok q.count) (up_over (before_common (main_sides q.start) (main_sides line))))
    (d : walk ≡ walked st site q joined (down_over (before_common (main_sides line) (main_sides q.start)))) where
  pub explained : Ok (result_err walk) ≡ why_of st site q line
  unfolding why_of path
  explained =
      let way = up_over (before_common (main_sides q.start) (main_sides line)) in
      let back = down_over (before_common (main_sides line) (main_sides q.start)) in
      told walk ∙ sym (ap why_by (walked-append st site q (Ok q.count) way back ∙ ap (λ (w : Result ℕ Stop). walked st site q w back) (sym u) ∙ sym d))

-- the whole explanation: refused as the trace with room enough is, or the walk
module _ (st : Stores) (site : List ℕ) (q : Query) (line : ℕ) where
  answer-by : {answer : Result (Option Stop) Refusal} (v : Result (Unit {0}) Refusal) → first_of (why_tests st site q) ≡ v → answer ≡ answer_by Err (why_of st site q line) v → answer ≡ answer_why st site q line
  unfolding answer_why
  answer-by v e a = a ∙ ap (answer_by Err (why_of st site q line)) (sym e)

  pub why-asked : {r : Refusal} → first_of (asking_tests q 768) ≡ Err r → Err r ≡ answer_why st site q line
  why-asked {r} e = answer-by (Err r) (first-refused (asking_tests q 768) (site_tests st site) r e) refl

  module _ (e : first_of (asking_tests q 768) ≡ Ok tt) (survey : Result Surveyed Refusal) (s : verdict_of survey ≡ first_of (site_tests st site)) where
    surveyed : first_of (why_tests st site q) ≡ verdict_of survey
    surveyed = first-passed (asking_tests q 768) (site_tests st site) e ∙ sym s

    pub why-refused : {r : Refusal} → survey ≡ Err r → Err r ≡ answer_why st site q line
    why-refused {r} f = answer-by (Err r) (surveyed ∙ ap verdict_of f) refl

    pub why-explained : {answer : Result (Option Stop) Refusal} → {t : Surveyed} → survey ≡ Ok t → answer ≡ why_of st site q line → answer ≡ answer_why st site q line
    why-explained f a = answer-by (Ok tt) (surveyed ∙ ap verdict_of f) a
