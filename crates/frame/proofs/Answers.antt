-- An answer's number and values lose nothing. The law is said once, of any enum that is an answer with values or a refusal; each crate's
-- `proofs/Answers.antt` cites it.
use Rattle.std.specs.Prelude.{Result, Ok, Err}
use Prim.Native.Nat.{ℕ, ◌≤◌}
use mathlib.Core.Bool.{Bool, true, false}
use mathlib.Core.List.{List, [], ◌∷◌}
use mathlib.Core.Logic.{◌↔◌}
use mathlib.Core.Path.{◌≡◌, refl, sym, ap, ◌∙◌}
use native.Mathlib.Omega.{arith}
use lib.ListN.{get_or}
use Rattle.frame.proofs.Numbers.{number-listed, number-apart}
use Rattle.frame.specs.Answers.{Numbered, accepted, refused, meaning_values, written_numbered, verdict_numbered}
use Rattle.frame.specs.Refusals.{number, last_number}
use Rattle.frame.specs.declared.Meaning.{Meaning}
use Rattle.frame.specs.declared.Refusal.{Refusal}
use Rattle.octets.specs.Octets.{weigh}

-- an answer carries values or is a refusal
pub data Split {A Given : Type 0} (answer : Given → A) (refusal : Refusal → A) (a : A) : Type 0 where
  answers : (v : Given) → a ≡ answer v → Split answer refusal a
  refuses : (r : Refusal) → a ≡ refusal r → Split answer refusal a

-- what the numbers of an enum have to tell
pub record Tells {A : Type 0} (refusal : Refusal → A) (numbered : A → Numbered) : Type 0 where
  -- no two answers have one number and the same values
  pub apart : (a b : A) → numbered a ≡ numbered b → a ≡ b
  -- 0 exactly if the answer is no refusal
  pub zero : (a : A) → (numbered a).number ≡ 0 ↔ ((r : Refusal) → a ≡ refusal r → ⊥)
  -- a refusal's number is one of the table's, and there are no values
  pub listed : (r : Refusal) → (1 ≤ (numbered (refusal r)).number) × ((numbered (refusal r)).number ≤ last_number)
  pub none : (r : Refusal) → (numbered (refusal r)).values ≡ []

module _ {A Given : Type 0} (answer : Given → A) (refusal : Refusal → A) (values : Given → List ℕ) (numbered : A → Numbered)
    (split : (a : A) → Split answer refusal a)
    (answered : (v : Given) → numbered (answer v) ≡ accepted (values v))
    (refusing : (r : Refusal) → numbered (refusal r) ≡ refused r)
    (one : (v w : Given) → values v ≡ values w → v ≡ w) where
  answer-refusal : {B : Type 0} (v : Given) (r : Refusal) → numbered (answer v) ≡ numbered (refusal r) → B
  answer-refusal v r e =
      let z : 0 ≡ number r = ap (λ (n : Numbered). n.number) (sym (answered v) ∙ e ∙ refusing r) in
      absurd (omega (arith, (number-listed r).0))

  apart_by : (a b : A) → Split answer refusal a → Split answer refusal b → numbered a ≡ numbered b → a ≡ b
  apart_by a b (answers v p) (answers w q) e =
      let z : numbered (answer v) ≡ numbered (answer w) = ap numbered (sym p) ∙ e ∙ ap numbered q in
      p ∙ ap answer (one v w (ap (λ (n : Numbered). n.values) (sym (answered v) ∙ z ∙ answered w))) ∙ sym q
  apart_by a b (answers v p) (refuses r q) e = answer-refusal v r (ap numbered (sym p) ∙ e ∙ ap numbered q)
  apart_by a b (refuses r p) (answers w q) e = answer-refusal w r (ap numbered (sym q) ∙ sym e ∙ ap numbered p)
  apart_by a b (refuses q p) (refuses r s) e =
      let z : numbered (refusal q) ≡ numbered (refusal r) = ap numbered (sym p) ∙ e ∙ ap numbered s in
      p ∙ ap refusal (number-apart q r (ap (λ (n : Numbered). n.number) (sym (refusing q) ∙ z ∙ refusing r))) ∙ sym s

  zero-by : (a : A) → Split answer refusal a → (numbered a).number ≡ 0 ↔ ((r : Refusal) → a ≡ refusal r → ⊥)
  zero-by a (answers v p) = (
    (λ e r q. answer-refusal v r (ap numbered (sym p ∙ q))),
    (λ n. ap (λ (n : Numbered). n.number) (ap numbered p ∙ answered v)),
  )
  zero-by a (refuses r p) = (
    (λ e q s. let z : number r ≡ 0 = sym (ap (λ (n : Numbered). n.number) (ap numbered p ∙ refusing r)) ∙ e in absurd (omega (arith, (number-listed r).0))),
    (λ n. absurd (n r p)),
  )

  pub tells : Tells refusal numbered
  tells = record {
    apart = λ a b. apart_by a b (split a) (split b);
    zero = λ a. zero-by a (split a);
    listed = λ r. rw (refusing r) (number-listed r);
    none = λ r. ap (λ (n : Numbered). n.values) (refusing r);
  }

-- a meaning's values tell it from every other
pub weigh-apart : (a b : Bool) → weigh a 1 ≡ weigh b 1 → a ≡ b
weigh-apart true true e = refl
weigh-apart true false e = absurd (omega arith)
weigh-apart false true e = absurd (omega arith)
weigh-apart false false e = refl

pub meaning-apart : (m n : Meaning) → meaning_values m ≡ meaning_values n → m ≡ n
meaning-apart m n e =
    let at : (k : ℕ) → get_or (meaning_values m) k 0 ≡ get_or (meaning_values n) k 0 = λ k. ap (λ (l : List ℕ). get_or l k 0) e in
    let extended : m.extended ≡ n.extended = weigh-apart _ _ (at 0) in
    let first : m.first ≡ n.first = weigh-apart _ _ (at 1) in
    let group : m.group ≡ n.group = weigh-apart _ _ (at 4) in
    λ i. record { extended = extended i; first = first i; priority = at 2 i; source = at 3 i; group = group i; destination = at 5 i; count = at 6 i }

-- a writer's answer
written-split : (w : Result ℕ Refusal) → Split Ok Err w
written-split (Ok n) = answers n refl
written-split (Err r) = refuses r refl

pub written-tells : Tells Err written_numbered
written-tells = tells Ok Err (λ n. n ∷ []) written_numbered written-split (λ n. refl) (λ r. refl) (λ a b e. ap (λ (l : List ℕ). get_or l 0 0) e)

-- a verdict: where nothing is refused there are no values
abbrev fine : Unit {0} → Result (Unit {0}) Refusal
fine u = Ok tt

verdict-split : (v : Result (Unit {0}) Refusal) → Split fine Err v
verdict-split (Ok _) = answers tt refl
verdict-split (Err r) = refuses r refl

pub verdict-tells : Tells Err verdict_numbered
verdict-tells = tells fine Err (λ u. []) verdict_numbered verdict-split (λ u. refl) (λ r. refl) (λ u v e. refl)
