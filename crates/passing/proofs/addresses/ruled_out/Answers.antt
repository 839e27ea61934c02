-- The definition's three cases.
use mathlib.Core.Logic.{⊎_elim}
use mathlib.Core.Path.{refl}
use borrow.Author.Tests.{eq-eqb, ne_eqb}
use Rattle.passing.specs.Passing.{ruled_out}
use Rattle.passing.proofs.addresses.ruled_out.Goals as goal

pub returns-then-direction-eq0 : goal.returns-then-direction-eq0
unfolding ruled_out
returns-then-direction-eq0 c = rw (c.in-Individual.is, eq-eqb _ _ c.if-direction-eq0.true) refl

pub returns-else-direction-eq0 : goal.returns-else-direction-eq0
unfolding ruled_out
returns-else-direction-eq0 c = rw (c.in-Individual.is, ne_eqb _ _ c.if-direction-eq0.false) refl

pub returns-in-Broadcast : goal.returns-in-Broadcast
unfolding ruled_out
returns-in-Broadcast c = ⊎_elim (λ e. rw e refl) (⊎_elim (λ e. rw e refl) (λ e. rw e refl)) c.in-Broadcast.is
