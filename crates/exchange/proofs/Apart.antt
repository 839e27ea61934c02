-- The constructors of the two answers differ.
use Rattle.std.specs.Prelude.{Result, Ok}
use Prim.Native.Nat.{ℕ}
use mathlib.Core.Path.{◌≡◌}
use native.Mathlib.Omega.{arith}
use Rattle.frame.specs.declared.Refusal.{Refusal}
use Rattle.tunnelling.specs.declared.Request.{Request}
use Rattle.exchange.specs.declared.Confirmed.TheVariants.{Raised, Kept}
use Rattle.exchange.specs.declared.Confirmed.{Confirmed}
use Rattle.exchange.specs.declared.Received.TheVariants.{Delivered, Again}
use Rattle.exchange.specs.declared.Received.{Received}

pub delivered-again : {A : Type 0} {x : Request} → ◌≡◌ {A = Result Received Refusal} (Ok (Delivered x)) (Ok Again) → A
delivered-again e = let z : ◌≡◌ {A = ℕ} 0 1 = cc in absurd (omega arith)

pub delivered-one : {x y : Request} → ◌≡◌ {A = Result Received Refusal} (Ok (Delivered x)) (Ok (Delivered y)) → x ≡ y
delivered-one e = cc

pub raised-kept : {A : Type 0} → ◌≡◌ {A = Result Confirmed Refusal} (Ok Raised) (Ok Kept) → A
raised-kept e = let z : ◌≡◌ {A = ℕ} 0 1 = cc in absurd (omega arith)
