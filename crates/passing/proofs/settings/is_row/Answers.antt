-- The four codes of the row, as the calls ensure them.
use Rattle.passing.specs.Settings.{is_row}
use Rattle.passing.proofs.settings.is_row.Goals as goal

pub returns : goal.returns
unfolding is_row
returns c =
    rw (c.is_code.ensures, c.code_in.ensures, c.is_code-2.ensures, c.code_in-2.ensures, c.is_code-3.ensures, c.code_in-3.ensures, c.is_code-4.ensures, c.code_in-4.ensures)
