-- The room has any refusal's line.
use Rattle.std.proofs.Common.{rules}
use native.Mathlib.Omega.{arith}
use Rattle.frame.proofs.Numbers.{number-listed}
use Rattle.report.proofs.Puts.{made-has, made-puts}
use Rattle.report.proofs.ReportLaws.{refused-fits}
use Rattle.report.proofs.put_refused.Goals as goal

pub put_told_line-requires : goal.put_told_line-requires
put_told_line-requires c =
    let w = c.new-writer.ensures in
    rw c.number.ensures (made-has c.new-writer.result w.at w.same _ (refused-fits _ c.args.room.now (omega (arith, (number-listed c.args.refusal).1)) c.requires))

pub returns : goal.returns
returns c = made-puts c.new-writer.result c.new-writer.ensures.at c.new-writer.ensures.same (rw c.number.ensures at c.put_told_line.ensures) (search rules)
