-- The octet of the table, as `octet` hands it out; a shift is a division.
use Rattle.passing.specs.Passing.{is_in_table}
use Rattle.passing.proofs.addresses.is_in_table.Goals as goal

pub returns : goal.returns
unfolding is_in_table
returns c = rw c.octet-octet.ensures
