-- The word, and the number's digits behind it.
use Rattle.report.proofs.Puts.{has-first, has-then, wrote-then}
use Rattle.report.specs.Text.{decimal, told}
use Rattle.report.proofs.text.Writer.put_told.Goals as goal

pub put-requires : goal.put-requires
unfolding told
put-requires c = has-first c.args.word.now (decimal c.args.number) c.args.self.now c.requires

pub put_decimal-requires : goal.put_decimal-requires
unfolding told
put_decimal-requires c = has-then c.args.word.now (decimal c.args.number) c.args.self.now c.requires c.put.ensures

pub returns : goal.returns
unfolding told
returns c = wrote-then _ _ _ c.requires c.put.ensures c.put_decimal.ensures
