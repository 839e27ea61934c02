-- Each arm settles the tests of the definition that led there.
use mathlib.Core.Path.{refl}
use borrow.Author.Tests.{lt-ltb, le-ltb, eq-eqb, ne_eqb}
use Rattle.passing.specs.Settings.{class_of}
use Rattle.passing.proofs.addresses.class_of.Goals as goal

pub returns-then-destination-eq0 : goal.returns-then-destination-eq0
unfolding class_of
returns-then-destination-eq0 c = rw (eq-eqb _ _ c.if-kind-eq1.true, eq-eqb _ _ c.if-destination-eq0.true) refl

pub returns-then-destination-lt28672 : goal.returns-then-destination-lt28672
unfolding class_of
returns-then-destination-lt28672 c =
    rw (eq-eqb _ _ c.if-kind-eq1.true, ne_eqb _ _ c.if-destination-eq0.false, lt-ltb _ _ c.if-destination-lt28672.true) refl

pub returns-else-destination-lt28672 : goal.returns-else-destination-lt28672
unfolding class_of
returns-else-destination-lt28672 c =
    rw (eq-eqb _ _ c.if-kind-eq1.true, ne_eqb _ _ c.if-destination-eq0.false, le-ltb _ _ c.if-destination-lt28672.false) refl

pub returns-else-kind-eq1 : goal.returns-else-kind-eq1
unfolding class_of
returns-else-kind-eq1 c = rw (ne_eqb _ _ c.if-kind-eq1.false) refl
