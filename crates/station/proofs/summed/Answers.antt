-- Each arm knows its case of the sum; the total is taken back from its bits.
use mathlib.Core.Path.{◌≡◌, sym, ◌∙◌}
use mir.Syntax.{w64}
use mir.Val.{SFits}
use mir.Facts.{to_z-of_z}
use borrow.Author.Rules.{rules}
use Rattle.leak.specs.Total.{add_to}
use Rattle.station.specs.Taking.{summed_by}
use Rattle.station.proofs.summed.Goals as goal

pub returns-in-Ok : goal.returns-in-Ok
unfolding summed_by
returns-in-Ok c =
    let told : add_to c.args.total c.args.code ≡ _ = sym (rw (to_z-of_z c.ranges.total) at c.add.ensures) ∙ c.in-Ok.is in
    let fits : SFits w64 c.in-Ok.sum = search rules in
    rw (told, to_z-of_z fits)

pub returns-in-Err : goal.returns-in-Err
unfolding summed_by
returns-in-Err c =
    let told : add_to c.args.total c.args.code ≡ _ = sym (rw (to_z-of_z c.ranges.total) at c.add.ensures) ∙ c.in-Err.is in
    rw (told, to_z-of_z c.ranges.total)
