-- What every answer of the surface says of refusals: its number alone, which is in the table, or no refusal and bits 0 to 7 at 0.
use Prim.Native.Nat.{ℕ, ◌^◌, ◌<◌}
use mathlib.Core.List.{List}
use mathlib.Core.Path.{◌≡◌, sym, ap, ◌∙◌, subst}
use native.Mathlib.Omega.{arith}
use Rattle.frame.proofs.Numbers.{number-listed, number-some, number-apart}
use Rattle.frame.specs.Answers.{Numbered}
use Rattle.frame.specs.Refusals.{number, last_number}
use Rattle.frame.specs.declared.Refusal.{Refusal}
use Rattle.klumdray.specs.Decoding.{number_in, numbered_by, Tells}

pub number-alone : (r : Refusal) → number_in (number r) ≡ number r
number-alone r = omega (arith, (number-listed r).1)

pub accepted-values : (n : ℕ) (values : List ℕ) → number_in n ≡ 0 → (numbered_by n values).values ≡ values
accepted-values n values z = rw z

-- an answer that tells a refusal, and one that tells none
module _ {width : ℕ} {from : ℕ → Numbered} {answer : ℕ} {inner : Numbered} {Refusing : Refusal → Type 0} where
  pub tells-refused : (q : Refusal) → answer ≡ number q → Refusing q → ((r : Refusal) → Refusing r → q ≡ r) → last_number < 2 ^ width → from (number q) ≡ inner → Tells width from answer inner Refusing
  tells-refused q e h one w d = record {
    fits = omega (arith, (number-listed q).1);
    decoded = ap from e ∙ d;
    refused = λ r. ((λ f. subst Refusing (number-apart q r (sym e ∙ f)) h), (λ f. e ∙ ap number (one r f)));
    accepted = ((λ z. absurd (number-some q (sym (number-alone q) ∙ ap number_in (sym e) ∙ z))), (λ n. absurd (n q h)));
    alone = λ n. e ∙ sym (number-alone q) ∙ ap number_in (sym e);
  }

  pub tells-accepted : number_in answer ≡ 0 → ((r : Refusal) → Refusing r → ⊥) → answer < 2 ^ width → from answer ≡ inner → Tells width from answer inner Refusing
  tells-accepted z none w d = record {
    fits = w;
    decoded = d;
    refused = λ r. ((λ e. absurd (number-some r (sym (number-alone r) ∙ ap number_in (sym e) ∙ z))), (λ f. absurd (none r f)));
    accepted = ((λ e. none), (λ n. z));
    alone = λ n. absurd (n z);
  }

-- two different answers never give the same number
pub tells-one : {v w : ℕ} {from : ℕ → Numbered} {a b : ℕ} {i j : Numbered} {P Q : Refusal → Type 0} → Tells v from a i P → Tells w from b j Q → a ≡ b → i ≡ j
tells-one {from = from} x y e = sym x.decoded ∙ ap from e ∙ y.decoded
