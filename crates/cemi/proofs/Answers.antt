-- The reader's answer by its number and values: frame's law, cited.
use Rattle.std.specs.Prelude.{Result, Ok, Err}
use Prim.Native.Nat.{ℕ}
use mathlib.Core.List.{List}
use mathlib.Core.Path.{◌≡◌, refl, ap}
use lib.ListN.{get_or, drop}
use Rattle.cemi.specs.Answers.{message_values, cemi_numbered}
use Rattle.cemi.specs.declared.Message.{Message}
use Rattle.frame.proofs.Answers.{Split, Tells, answers, refuses, tells, weigh-apart, meaning-apart}
use Rattle.frame.specs.declared.Refusal.{Refusal}

-- a message's values tell it from every other
pub message-apart : (x y : Message) → message_values x ≡ message_values y → x ≡ y
message-apart x y e =
    let code : x.code ≡ y.code = ap (λ (l : List ℕ). get_or l 0 0) e in
    let error : x.error ≡ y.error = weigh-apart _ _ (ap (λ (l : List ℕ). get_or l 1 0) e) in
    let meaning : x.meaning ≡ y.meaning = meaning-apart _ _ (ap (drop 2) e) in
    λ i. record { code = code i; error = error i; meaning = meaning i }

split : (a : Result Message Refusal) → Split Ok Err a
split (Ok x) = answers x refl
split (Err r) = refuses r refl

pub cemi-tells : Tells Err cemi_numbered
cemi-tells = tells Ok Err message_values cemi_numbered split (λ x. refl) (λ r. refl) message-apart
