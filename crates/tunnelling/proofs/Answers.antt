-- The two readers' answers by their numbers and values: frame's law, cited.
use Rattle.std.specs.Prelude.{Result, Ok, Err}
use Prim.Native.Nat.{ℕ}
use mathlib.Core.List.{List}
use mathlib.Core.Path.{◌≡◌, refl, ap}
use lib.ListN.{get_or, drop}
use Rattle.cemi.proofs.Answers.{message-apart}
use Rattle.frame.proofs.Answers.{Split, Tells, answers, refuses, tells}
use Rattle.tunnelling.specs.Answers.{request_values, request_numbered, acknowledgement_values, acknowledgement_numbered}
use Rattle.tunnelling.specs.declared.Acknowledgement.{Acknowledgement}
use Rattle.tunnelling.specs.declared.Request.{Request}
use Rattle.frame.specs.declared.Refusal.{Refusal}

-- a request's values tell it from every other
pub request-apart : (x y : Request) → request_values x ≡ request_values y → x ≡ y
request-apart x y e =
    let channel : x.channel ≡ y.channel = ap (λ (l : List ℕ). get_or l 0 0) e in
    let counter : x.counter ≡ y.counter = ap (λ (l : List ℕ). get_or l 1 0) e in
    let message : x.message ≡ y.message = message-apart _ _ (ap (drop 2) e) in
    λ i. record { channel = channel i; counter = counter i; message = message i }

request-split : (a : Result Request Refusal) → Split Ok Err a
request-split (Ok x) = answers x refl
request-split (Err r) = refuses r refl

pub request-tells : Tells Err request_numbered
request-tells = tells Ok Err request_values request_numbered request-split (λ x. refl) (λ r. refl) request-apart

-- and an acknowledgement's
pub acknowledgement-apart : (x y : Acknowledgement) → acknowledgement_values x ≡ acknowledgement_values y → x ≡ y
acknowledgement-apart x y e =
    let at : (k : ℕ) → get_or (acknowledgement_values x) k 0 ≡ get_or (acknowledgement_values y) k 0 = λ k. ap (λ (l : List ℕ). get_or l k 0) e in
    λ i. record { channel = at 0 i; counter = at 1 i; status = at 2 i }

acknowledgement-split : (a : Result Acknowledgement Refusal) → Split Ok Err a
acknowledgement-split (Ok x) = answers x refl
acknowledgement-split (Err r) = refuses r refl

pub acknowledgement-tells : Tells Err acknowledgement_numbered
acknowledgement-tells = tells Ok Err acknowledgement_values acknowledgement_numbered acknowledgement-split (λ x. refl) (λ r. refl) acknowledgement-apart
