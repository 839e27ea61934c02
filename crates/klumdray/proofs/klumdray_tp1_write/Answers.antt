-- The inner writer of what the numbers give; numbers that give nothing are refused before it.
use Rattle.klumdray.proofs.Surface.{sized, given-fits, given-none, wrote-number, unfit-refused}
use mathlib.Core.Bool.{true}
use Rattle.klumdray.proofs.WriterNumbers.{tp1-most}
use Rattle.klumdray.proofs.klumdray_tp1_write.Goals as goal

pub of_written-requires : goal.of_written-requires
of_written-requires c = sized _ c.write-written.ensures (tp1-most true _ _)

pub returns-in_default : goal.returns-in_default
returns-in_default c = rw c.number.ensures (unfit-refused _ _ _ _ (given-none _ _ c.meaning_given.ensures c.in_default.is))

pub returns : goal.returns
returns c =
    let fit = given-fits _ c.meaning_given.ensures c.in-Some.is in
    wrote-number _ fit.0 (rw fit.1 at c.write-written.ensures) c.of_written.ensures
