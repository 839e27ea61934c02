-- Frames of one length agree if their control octets do but for the repeat bit, and what is between these and the check octets is the same.
use native.Mathlib.Omega.{arith}
use Rattle.coupler.proofs.Repetition.{agree-length, agree-short, agree-told}
use Rattle.coupler.proofs.repeating.agree.Goals as goal

pub returns-then-before-octets : goal.returns-then-before-octets
returns-then-before-octets c =
    let args = c.args in
    agree-length args.before.now args.octets.now (omega arith)

pub returns-then-octets-lt2 : goal.returns-then-octets-lt2
returns-then-octets-lt2 c =
    let args = c.args in
    rw (c.unmarked.ensures, c.octet-2.ensures, c.unmarked-control.ensures, c.octet.ensures)
    (agree-short args.before.now args.octets.now (omega arith) (omega arith))

pub returns : goal.returns
returns c =
    let args = c.args in
    rw (c.unmarked.ensures, c.octet-2.ensures, c.unmarked-control.ensures, c.octet.ensures)
    (agree-told args.before.now args.octets.now c.are_same.result (omega arith) c.are_same.ensures)
