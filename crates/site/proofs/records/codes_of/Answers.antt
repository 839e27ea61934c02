-- The eight octets from the record's fourth on.
use Rattle.site.specs.Records.{codes_of}
use Rattle.site.proofs.records.codes_of.Goals as goal

pub returns : goal.returns
unfolding codes_of
returns c = c.codes_from.ensures
