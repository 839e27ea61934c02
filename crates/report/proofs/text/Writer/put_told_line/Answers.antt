-- The word with its number, and the end of the line behind it.
use Rattle.report.proofs.Puts.{has-first, has-then, wrote-then}
use Rattle.report.specs.Ascii.{ascii}
use Rattle.report.specs.Text.{told, told_line}
use Rattle.report.proofs.text.Writer.put_told_line.Goals as goal

pub put_told-requires : goal.put_told-requires
unfolding told_line
put_told-requires c = has-first (told c.args.word.now c.args.number) (ascii "\n") c.args.self.now c.requires

pub put-requires : goal.put-requires
unfolding told_line
put-requires c = has-then (told c.args.word.now c.args.number) (ascii "\n") c.args.self.now c.requires c.put_told.ensures

pub returns : goal.returns
unfolding told_line
returns c = wrote-then _ _ _ c.requires c.put_told.ensures c.put.ensures
