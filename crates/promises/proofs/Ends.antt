-- How a call ends by its order of refusals: for the statements of demand 1.
use Rattle.std.specs.Prelude.{Result, Ok, Err}
use Prim.Native.Nat.{ℕ}
use mathlib.Core.List.{List}
use mathlib.Core.Path.{◌≡◌, refl, sym, ap, ◌∙◌}
use Rattle.frame.proofs.Order.{passed-iff, refused-iff}
use Rattle.frame.specs.Answers.{Numbered, accepted, refused}
use Rattle.frame.specs.Order.{Test, first_of, answer_by, NoneOf, FirstIs}
use Rattle.frame.specs.declared.Refusal.{Refusal}

-- an answer where no test of the order is true; otherwise the refusal of the first one that is
pub data Ends {A : Type 0} (refusal : Refusal → A) (answer : A) (ts : List Test) (given : A) : Type 0 where
  answers : NoneOf ts → given ≡ answer → Ends refusal answer ts given
  refuses : (r : Refusal) → FirstIs ts r → given ≡ refusal r → Ends refusal answer ts given

-- the same by numbers: 0 and these values where no test is true; otherwise the number of the first refusal whose test is true, and no values
abbrev pub EndsNumbered : List ℕ → List Test → Numbered → Type 0
EndsNumbered values ts given = Ends refused (accepted values) ts given

module _ {A : Type 0} (refusal : Refusal → A) (answer : A) where
  -- an answer that the verdict of the order chooses
  pub ends_by : (by : Result (Unit {0}) Refusal → A) → by (Ok tt) ≡ answer → ((r : Refusal) → by (Err r) ≡ refusal r) → (ts : List Test) → Ends refusal answer ts (by (first_of ts))
  ends_by by p q ts = go (first_of ts) refl
    where
      go : (v : Result (Unit {0}) Refusal) → first_of ts ≡ v → Ends refusal answer ts (by (first_of ts))
      go (Ok _) e = answers ((passed-iff ts).0 e) (ap by e ∙ p)
      go (Err r) e = refuses r ((refused-iff ts r).0 e) (ap by e ∙ q r)

  -- "the one": an order leaves one end
  pub ends-one : (ts : List Test) (a b : A) → Ends refusal answer ts a → Ends refusal answer ts b → a ≡ b
  ends-one ts a b x y = is a x ∙ sym (is b y)
    where
      is : (c : A) → Ends refusal answer ts c → c ≡ answer_by refusal answer (first_of ts)
      is c (answers n e) = e ∙ sym (ap (answer_by refusal answer) ((passed-iff ts).1 n))
      is c (refuses r f e) = e ∙ sym (ap (answer_by refusal answer) ((refused-iff ts r).1 f))
