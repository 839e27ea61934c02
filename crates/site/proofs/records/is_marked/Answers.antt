-- Both octets of the mark.
use mathlib.Core.Path.{refl}
use Rattle.site.specs.Records.{is_marked}
use Rattle.site.proofs.records.is_marked.Goals as goal

pub returns : goal.returns
unfolding is_marked
returns c = rw (c.octet-first.ensures, c.octet-second.ensures) refl
