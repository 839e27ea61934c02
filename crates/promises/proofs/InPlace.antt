-- The step lent its memory: its claim written out here, shown to be the whole `ensures` of the source, and determining outcome, memory and
-- room. Nothing is asked of the caller: its `requires` is the empty one. The claim that the toolchain reads off its source has its law in
-- Determined.
use mathlib.Core.Path.{◌≡◌, refl}
use contract.Lifetimes.{Lfts}
use contract.Monad.{fact}
use base.Logic.{emp}
use denote.Triple.Clauses.{AtExit, Lasts, at_exit}
use borrow.Fn.World.{World, ArgsD, ResD}
use Rattle.coupler.specs.Step.{coupler_by, Did}
use Rattle.coupler.proofs.StepLaws.{did-one}
use Rattle.coupler.specs.contracts.Coupler.step_in_place as in_place

abbrev pub Claim : (κs : Lfts 5) → ArgsD in_place.signature κs → ResD in_place.signature κs → AtExit in_place.ended κs → Type 0
Claim κs a r e =
    Did (coupler_by a.0.now.setting a.0.now.codes a.0.now.table.now)
    a.1.0.now a.1.1.0.now a.1.1.1.0.now r e.1.0.now e.1.1.1.0.now

pub whole : (κs : Lfts 5) (a : ArgsD in_place.signature κs) (r : ResD in_place.signature κs) (e : AtExit in_place.ended κs) (w : World)
    → (in_place.clauses w.𝓛 w.𝓜.mem w.𝓡.returns κs a).ensures tt r e ≡ fact w.𝓤 (Claim κs a r e)
whole κs a r e w = refl

pub determines : (κs : Lfts 5) (a : ArgsD in_place.signature κs) (r₁ r₂ : ResD in_place.signature κs) (w₁ w₂ : Lasts in_place.ended κs a)
    → Claim κs a r₁ (at_exit in_place.ended κs a w₁) → Claim κs a r₂ (at_exit in_place.ended κs a w₂) → (r₁ ≡ r₂) × (w₁ ≡ w₂)
determines κs a r₁ r₂ w₁ w₂ x y =
    let e = did-one x y in
    (e.0, λ i. (tt, (e.1.0 i, (tt, (e.1.1 i, tt)))))

-- nothing is asked of the caller
pub free : (κs : Lfts 5) (a : ArgsD in_place.signature κs) (w : World) → (in_place.clauses w.𝓛 w.𝓜.mem w.𝓡.returns κs a).requires tt ≡ emp w.𝓤
free κs a w = refl
