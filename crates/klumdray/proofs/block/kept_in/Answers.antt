-- Each arm settles the test of the size.
use mathlib.Core.Path.{refl}
use native.Mathlib.Omega.{arith}
use borrow.Author.Tests.{le-leb, lt-leb}
use Rattle.klumdray.proofs.block.kept_in.Goals as goal

pub returns-then-size-le263 : goal.returns-then-size-le263
returns-then-size-le263 c = rw (← c.word_at-size.ensures, le-leb _ _ c.if-size-le263.true) (refl, c.if-size-le263.true)

pub returns-else-size-le263 : goal.returns-else-size-le263
returns-else-size-le263 c = rw (← c.word_at-size.ensures, lt-leb _ _ c.if-size-le263.false) (refl, omega arith)
