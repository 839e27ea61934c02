-- Both rows, as the calls ensure them.
use Rattle.passing.specs.Settings.{are_codes}
use Rattle.passing.proofs.settings.are_codes.Goals as goal

pub returns : goal.returns
unfolding are_codes
returns c = rw (c.is_row.ensures, c.is_row-2.ensures)
