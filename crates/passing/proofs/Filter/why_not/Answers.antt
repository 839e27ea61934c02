-- Each return is the definition's first cause that is true, by the tests that led there.
use mathlib.Core.Path.{refl, sym, ◌∙◌}
use borrow.Author.Tests.{eq-eqb, ne_eqb}
use Rattle.passing.specs.Passing.{passage_of}
use Rattle.passing.proofs.Filter.why_not.Goals as goal

pub returns-then-is_own : goal.returns-then-is_own
unfolding passage_of
returns-then-is_own c = rw (sym c.is_own.ensures ∙ c.if-is_own.true) refl

pub returns-then-code-is_ruled : goal.returns-then-code-is_ruled
unfolding passage_of
returns-then-code-is_ruled c =
    rw (sym c.is_own.ensures ∙ c.if-is_own.false, ← c.class_of-class.ensures, ← c.code_in-code.ensures, c.if-not-named.false, ← c.is_ruled.ensures, c.if-code-is_ruled.true) c.ruled_out.ensures

pub returns-then-count-eq0 : goal.returns-then-count-eq0
unfolding passage_of
returns-then-count-eq0 c =
    rw (sym c.is_own.ensures ∙ c.if-is_own.false, ← c.class_of-class.ensures, ← c.code_in-code.ensures, c.if-not-named.false, ← c.is_ruled.ensures, c.if-code-is_ruled.false, eq-eqb _ _ c.if-count-eq0.true) refl

pub returns-else-count-eq0 : goal.returns-else-count-eq0
unfolding passage_of
returns-else-count-eq0 c =
    rw (sym c.is_own.ensures ∙ c.if-is_own.false, ← c.class_of-class.ensures, ← c.code_in-code.ensures, c.if-not-named.false, ← c.is_ruled.ensures, c.if-code-is_ruled.false, ne_eqb _ _ c.if-count-eq0.false) refl

pub returns-then-not-named : goal.returns-then-not-named
unfolding passage_of
returns-then-not-named c =
    rw (sym c.is_own.ensures ∙ c.if-is_own.false, ← c.class_of-class.ensures, ← c.code_in-code.ensures, c.if-not-named.true) refl
