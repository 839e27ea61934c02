-- The message's own part, six octets further on; a datagram of fewer has no message.
use mathlib.Core.List.{[]}
use mathlib.Core.Path.{◌≡◌, refl}
use native.Mathlib.Nat.{le_of_lt}
use native.Mathlib.Omega.{arith}
use lib.ListN.{length, drop, drop_of_length-le}
use borrow.Author.Tests.{le-leb, lt-leb}
use Rattle.octets.proofs.Split.{rest-is}
use Rattle.routing.proofs.PartLaws.{no-information}
use Rattle.routing.proofs.information.Goals as goal

pub returns-then-octets-lt6 : goal.returns-then-octets-lt6
returns-then-octets-lt6 c =
    let a = c.args in
    let e : drop 6 a.octets.now ≡ [] = drop_of_length-le a.octets.now (le_of_lt c.if-octets-lt6.true) in
    rw (lt-leb 6 (length a.octets.now) c.if-octets-lt6.true, e, no-information a.answer) (record { holds = refl; block = refl; offset = omega arith })

pub returns : goal.returns
returns c =
    let a = c.args in
    rw (le-leb 6 (length a.octets.now) c.if-octets-lt6.false, ← rest-is 6 a.octets.now) (record { holds = c.information.ensures.holds; block = c.information.ensures.block; offset = omega (arith, c.information.ensures.offset) })
