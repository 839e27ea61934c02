-- All the record's octets, or none.
use mathlib.Core.Path.{refl}
use native.Mathlib.Nat.{add-sub_cancel_left}
use native.Mathlib.Omega.{arith}
use lib.ListN.{length, drop, length-drop}
use borrow.Author.Tests.{le-leb, lt-leb}
use Rattle.site.specs.Records.{record_size, first_record}
use Rattle.site.specs.Starts.{record_from}
use Rattle.site.proofs.records.record_from.Goals as goal

pub returns-then-to-site : goal.returns-then-to-site
unfolding record_from first_record record_size
returns-then-to-site c =
    let asked = c.args in
    let left = length-drop asked.start asked.site.now in
    rw (le-leb 12 (length (drop asked.start asked.site.now)) (omega (arith, left)), add-sub_cancel_left) refl

pub returns-else-to-site : goal.returns-else-to-site
unfolding record_from first_record record_size
returns-else-to-site c =
    let asked = c.args in
    let left = length-drop asked.start asked.site.now in
    rw (lt-leb 12 (length (drop asked.start asked.site.now)) (omega (arith, left))) refl
