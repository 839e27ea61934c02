-- Each arm settles the side.
use mathlib.Core.Path.{refl}
use native.Mathlib.Omega.{arith}
use borrow.Author.Tests.{eq-eqb, ne_eqb}
use Rattle.klumdray.proofs.block.start_of.Goals as goal

pub returns-then-side-eq0 : goal.returns-then-side-eq0
returns-then-side-eq0 c = rw (eq-eqb _ _ c.if-side-eq0.true) (refl, omega arith)

pub returns-else-side-eq0 : goal.returns-else-side-eq0
returns-else-side-eq0 c = rw (ne_eqb _ _ c.if-side-eq0.false) (refl, omega arith)
