-- The two answers by their numbers and values: frame's law, cited.
use Rattle.std.specs.Prelude.{Result, Ok, Err}
use Prim.Native.Nat.{ℕ}
use mathlib.Core.Bool.{Bool, true, false}
use mathlib.Core.List.{List, [], ◌∷◌}
use mathlib.Core.Path.{◌≡◌, refl, ap}
use native.Mathlib.Omega.{arith}
use lib.ListN.{length, get_or}
use Rattle.octets.specs.Octets.{weigh}
use Rattle.frame.proofs.Answers.{Split, Tells, answers, refuses, tells, weigh-apart}
use Rattle.tunnelling.proofs.Answers.{request-apart}
use Rattle.tunnelling.specs.Answers.{request_values}
use Rattle.tunnelling.specs.declared.Request.{Request}
use Rattle.exchange.specs.Answers.{received_numbered, confirmed_numbered}
use Rattle.exchange.specs.declared.Confirmed.TheVariants.{Raised, Kept}
use Rattle.exchange.specs.declared.Confirmed.{Confirmed}
use Rattle.exchange.specs.declared.Received.TheVariants.{Delivered, Again}
use Rattle.exchange.specs.declared.Received.{Received}
use Rattle.frame.specs.declared.Refusal.{Refusal}

-- what comes of a request that is not refused
data Taking : Type 0 where
  given : Request → Taking
  again : Taking

abbrev answer_of : Taking → Result Received Refusal
answer_of (given x) = Ok (Delivered x)
answer_of again = Ok Again

abbrev values_of : Taking → List ℕ
values_of (given x) = request_values x
values_of again = []

one : (v w : Taking) → values_of v ≡ values_of w → v ≡ w
one (given x) (given y) e = ap given (request-apart x y e)
one (given x) again e = let z = ap length e in absurd (omega arith)
one again (given y) e = let z = ap length e in absurd (omega arith)
one again again e = refl

received-split : (a : Result Received Refusal) → Split answer_of Err a
received-split (Ok (Delivered x)) = answers (given x) refl
received-split (Ok Again) = answers again refl
received-split (Err r) = refuses r refl

numbered-as : (v : Taking) → received_numbered (answer_of v) ≡ record { number = 0; values = values_of v }
numbered-as (given x) = refl
numbered-as again = refl

pub received-tells : Tells Err received_numbered
received-tells = tells answer_of Err values_of received_numbered received-split numbered-as (λ r. refl) one

-- an acknowledgement raises the counter or leaves it
abbrev outcome_of : Bool → Result Confirmed Refusal
outcome_of true = Ok Raised
outcome_of false = Ok Kept

confirmed-split : (a : Result Confirmed Refusal) → Split outcome_of Err a
confirmed-split (Ok Raised) = answers true refl
confirmed-split (Ok Kept) = answers false refl
confirmed-split (Err r) = refuses r refl

counted-as : (b : Bool) → confirmed_numbered (outcome_of b) ≡ record { number = 0; values = weigh b 1 ∷ [] }
counted-as true = refl
counted-as false = refl

pub confirmed-tells : Tells Err confirmed_numbered
confirmed-tells = tells outcome_of Err (λ b. weigh b 1 ∷ []) confirmed_numbered confirmed-split counted-as (λ r. refl) (λ a b e. weigh-apart a b (ap (λ (l : List ℕ). get_or l 0 0) e))
