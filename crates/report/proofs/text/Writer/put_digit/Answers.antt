-- One octet, and the next place.
use mathlib.Core.Path.{refl}
use Rattle.report.proofs.Puts.{set-laid}
use Rattle.report.proofs.text.Writer.put_digit.Goals as goal

pub returns : goal.returns
returns c = record { lent = refl; put = record { fits = c.requires; ends = refl; put = set-laid c.args.self.now.room.now _ _ c.requires } }
