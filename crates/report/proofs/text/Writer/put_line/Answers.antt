-- The pieces from left to right, each behind those before it.
use Rattle.report.proofs.Line.{has-area, has-point, has_count, has-crossed, wrote-line}
use Rattle.report.proofs.text.Writer.put_line.Goals as goal

pub put_decimal-requires : goal.put_decimal-requires
put_decimal-requires c = has-area _ _ _ c.args.self.now c.requires

pub put_told-requires : goal.put_told-requires
put_told-requires c = has-point _ _ _ _ c.requires c.put_decimal.ensures

pub put_told-requires-2 : goal.put_told-requires-2
put_told-requires-2 c = has_count _ _ _ _ c.requires c.put_decimal.ensures c.put_told.ensures

pub put_told_line-requires : goal.put_told_line-requires
put_told_line-requires c = has-crossed _ _ _ _ c.requires c.put_decimal.ensures c.put_told.ensures c.put_told-2.ensures

pub returns : goal.returns
returns c = wrote-line _ _ _ _ c.requires c.put_decimal.ensures c.put_told.ensures c.put_told-2.ensures c.put_told_line.ensures
