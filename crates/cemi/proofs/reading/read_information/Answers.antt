-- Octets that end within the additional information have no body, which is the body's first test; the other returns rewrite by what led there.
use Prim.Native.Nat.{◌+◌}
use native.Mathlib.Omega.{arith}
use borrow.Author.Tests.{lt-ltb, le-ltb, eq-eqb, ne_eqb}
use Rattle.cemi.proofs.Body.{no_body}
use Rattle.cemi.specs.Reading.{body}
use Rattle.cemi.specs.Stages.{read_body, read_information}
use Rattle.octets.proofs.Split.{rest-is}
use Rattle.octets.specs.Octets.{octet_at}
use Rattle.cemi.proofs.reading.read_information.Goals as goal

pub overflow_cast-start : goal.overflow_cast-start
overflow_cast-start c = omega (arith, c.type_inv.octets 1)

pub overflow_add-start : goal.overflow_add-start
overflow_add-start c = omega (arith, c.type_inv.octets 1)

pub returns-then-octets-lt2 : goal.returns-then-octets-lt2
unfolding read_information
returns-then-octets-lt2 c = rw (lt-ltb _ _ c.if-octets-lt2.true)

pub returns-then-information : goal.returns-then-information
unfolding read_information
returns-then-information c = rw (le-ltb _ _ c.if-octets-lt2.false, eq-eqb _ _ c.if-information.true)

pub returns-then-octets-start : goal.returns-then-octets-start
unfolding read_information
returns-then-octets-start c =
    rw (le-ltb _ _ c.if-octets-lt2.false, ne_eqb _ _ c.if-information.false, no_body c.args.octets.now c.if-octets-start.true)

pub returns-else-octets-start : goal.returns-else-octets-start
unfolding read_information read_body body
returns-else-octets-start c =
    let a = c.args in
    rw (le-ltb _ _ c.if-octets-lt2.false, ne_eqb _ _ c.if-information.false) (rw (rest-is (2 + octet_at a.octets.now 1) a.octets.now) at c.read_body.ensures)
