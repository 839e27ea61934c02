-- The loop's law `MarkedBelow`: the lines below the one at hand are marked, each by its record.
use mathlib.Core.Path.{refl, ap, ◌∙◌}
use native.Mathlib.Omega.{arith}
use Rattle.site.proofs.LettingLaws.{marked-none, marked-more, marked-all}
use Rattle.site.specs.Letting.{line_lets_pass_by}
use Rattle.site.specs.Stages.{record_both_ways}
use Rattle.site.proofs.Surveyed.letting.Goals as goal

pub loop-line-init : goal.loop-line-init
loop-line-init c = marked-none _ _ refl

pub loop-line-preserved : goal.loop-line-preserved
unfolding line_lets_pass_by
loop-line-preserved c =
    marked-more c.loop-line.invariant (omega arith) (c.lets_pass.ensures ∙ ap (record_both_ways _ _ _) c.record_from-octets.ensures)

pub returns : goal.returns
returns c = marked-all c.loop-line.invariant (omega arith)
