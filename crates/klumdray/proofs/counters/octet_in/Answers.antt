-- Behind the test of the number the place is the definition's.
use mathlib.Core.Path.{◌∙◌}
use Rattle.klumdray.proofs.ChannelLaws.{octet-place}
use Rattle.klumdray.proofs.counters.octet_in.Goals as goal

pub returns : goal.returns
returns c = c.octet.ensures ∙ octet-place _ _ _ c.if-number-eq0.false
