-- The explanation by its number and values: frame's law, cited. That a line is reached has no values, and a stop has three: so the two are
-- told apart whatever the reason's number is. And no explanation that is given names a stop for the reason 0, that the telegram passes.
use Rattle.std.specs.Prelude.{Result, Ok, Err, Option, Some, None}
use Prim.Native.Nat.{ℕ, ◌≤◌}
use mathlib.Core.Bool.{Bool, true, false}
use mathlib.Core.List.{List, [], ◌∷◌}
use mathlib.Core.Path.{◌≡◌, refl, ap, ◌∙◌}
use native.Mathlib.Omega.{arith}
use lib.ListN.{length, get_or}
use borrow.Author.Tests.{leb-true, eqb-false}
use Rattle.passing.proofs.Answers.{passage-apart, passage-zero, passage-most}
use Rattle.passing.specs.Answers.{passage_number}
use Rattle.passing.specs.Passing.{does_pass}
use Rattle.passing.specs.declared.Passage.{Passage}
use Rattle.frame.proofs.Answers.{Split, Tells, answers, refuses, tells}
use Rattle.frame.specs.Answers.{accepted}
use Rattle.frame.specs.Order.{first_of, answer_by}
use Rattle.site.specs.Letting.{passage_at}
use Rattle.site.specs.Records.{records_of}
use Rattle.site.specs.Stores.{Stores}
use Rattle.tracer.specs.Answers.{explanation_numbered}
use Rattle.tracer.specs.Lines.{Crossing, path}
use Rattle.tracer.specs.declared.Query.{Query}
use Rattle.tracer.specs.Why.{goes_by, walked, why_by, why_of, why_tests, answer_why}
use Rattle.tracer.specs.declared.Stop.{Stop}
use Rattle.frame.specs.declared.Refusal.{Refusal}

-- an explanation that is no refusal, and its values
data Told : Type 0 where
  reached : Told
  stopped : Stop → Told

abbrev telling : Told → Result (Option Stop) Refusal
telling reached = Ok None
telling (stopped stop) = Ok (Some stop)

abbrev told_values : Told → List ℕ
told_values reached = []
told_values (stopped stop) = passage_number stop.reason ∷ stop.coupler ∷ stop.direction ∷ []

told-apart : (v w : Told) → told_values v ≡ told_values w → v ≡ w
told-apart reached reached e = refl
told-apart reached (stopped w) e = let z : ◌≡◌ {A = ℕ} 0 3 = ap length e in absurd (omega arith)
told-apart (stopped v) reached e = let z : ◌≡◌ {A = ℕ} 3 0 = ap length e in absurd (omega arith)
told-apart (stopped v) (stopped w) e =
    let at : (k : ℕ) → get_or (told_values (stopped v)) k 0 ≡ get_or (told_values (stopped w)) k 0 = λ k. ap (λ (l : List ℕ). get_or l k 0) e in
    let reason : v.reason ≡ w.reason = passage-apart _ _ (at 0) in
    λ i. stopped (record { coupler = at 1 i; direction = at 2 i; reason = reason i })

split : (x : Result (Option Stop) Refusal) → Split telling Err x
split (Ok None) = answers reached refl
split (Ok (Some stop)) = answers (stopped stop) refl
split (Err r) = refuses r refl

told-numbered : (v : Told) → explanation_numbered (telling v) ≡ accepted (told_values v)
told-numbered reached = refl
told-numbered (stopped stop) = refl

pub explanation-tells : Tells Err explanation_numbered
explanation-tells = tells telling Err told_values explanation_numbered split told-numbered (λ r. refl) told-apart

-- a walk over a path is no refusal
pub why-answers : (st : Stores) (site : List ℕ) (q : Query) (line : ℕ) → explanation_numbered (why_of st site q line) ≡ accepted (explanation_numbered (why_of st site q line)).values
unfolding why_of
why-answers st site q line = go (walked st site q (Ok q.count) (path q.start line))
  where
    go : (w : Result ℕ Stop) → explanation_numbered (why_by w) ≡ accepted (explanation_numbered (why_by w)).values
    go (Ok count) = refl
    go (Err stop) = refl

-- where a walk stopped, there was a reason
abbrev Reasoned : Result ℕ Stop → Type 0
Reasoned (Ok count) = Unit {0}
Reasoned (Err stop) = does_pass stop.reason ≡ false

goes-reasoned : (q : Query) (count : ℕ) (x : Crossing) (p : Passage) → Reasoned (goes_by q count x p)
goes-reasoned q count x p = go (does_pass p) refl
  where
    go : (b : Bool) → does_pass p ≡ b → Reasoned (goes_by q count x p)
    go true e = rw e tt
    go false e = rw e e

module _ (st : Stores) (site : List ℕ) (q : Query) where
  walked-reasoned : (w : Result ℕ Stop) (xs : List Crossing) → Reasoned w → Reasoned (walked st site q w xs)
  walked-reasoned w [] h = h
  walked-reasoned (Ok count) (x ∷ xs) h =
      let p = passage_at st q.kind q.destination (records_of site) x.direction x.line count in
      walked-reasoned (goes_by q count x p) xs (goes-reasoned q count x p)
  walked-reasoned (Err stop) (x ∷ xs) h = walked-reasoned (Err stop) xs h

-- the first of three values is a reason's number, 1 to 7
reason-by : (w : Result ℕ Stop) → Reasoned w → (n coupler direction : ℕ) → (explanation_numbered (why_by w)).values ≡ n ∷ coupler ∷ direction ∷ [] → (1 ≤ n) × (n ≤ 7)
reason-by (Ok count) h n coupler direction e = let z : ◌≡◌ {A = ℕ} 0 3 = ap length e in absurd (omega arith)
reason-by (Err stop) h n coupler direction e =
    let k : passage_number stop.reason ≡ n = ap (λ (l : List ℕ). get_or l 0 0) e in
    let some : passage_number stop.reason ≡ 0 → ⊥ = eqb-false (passage_number stop.reason) 0 (passage-zero stop.reason ∙ h) in
    let most : passage_number stop.reason ≤ 7 = leb-true (passage_number stop.reason) 7 (passage-most stop.reason) in
    rw (← k) (omega (arith, some), most)

pub why-reason : (st : Stores) (site : List ℕ) (q : Query) (line n coupler direction : ℕ) → (explanation_numbered (answer_why st site q line)).values ≡ n ∷ coupler ∷ direction ∷ [] → (1 ≤ n) × (n ≤ 7)
unfolding answer_why why_of
why-reason st site q line n coupler direction = go (first_of (why_tests st site q))
  where
    w : Result ℕ Stop
    w = walked st site q (Ok q.count) (path q.start line)

    go : (v : Result (Unit {0}) Refusal) → (explanation_numbered (answer_by Err (why_by w) v)).values ≡ n ∷ coupler ∷ direction ∷ [] → (1 ≤ n) × (n ≤ 7)
    go (Ok _) e = reason-by w (walked-reasoned st site q (Ok q.count) (path q.start line) tt) n coupler direction e
    go (Err r) e = let z : ◌≡◌ {A = ℕ} 0 3 = ap length e in absurd (omega arith)
