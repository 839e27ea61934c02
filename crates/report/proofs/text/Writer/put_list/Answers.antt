-- Each turn puts the next entry's line; when fewer than three octets are left, no text is.
use mathlib.Core.Path.{◌∙◌}
use native.Mathlib.Omega.{arith}
use Rattle.report.proofs.List.{rest_more, rest_all}
use Rattle.report.proofs.text.Writer.put_list.Goals as goal

pub loop-entry-preserved : goal.loop-entry-preserved
loop-entry-preserved c =
    let left = c.loop-entry.invariant.1.1 in
    let cut = c.in-Some.ensures.steps in
    let size = cut.0 ∙ left.0 in
    (omega (arith, size), (tt, (size, rest_more left.1 c.in-Some.entry.now _ cut.1.0 (cut.1.1 ∙ left.0) c.put_line.ensures)))

pub returns : goal.returns
returns c =
    let left = c.loop-entry.invariant.1.1 in
    rest_all left.1 c.requires (omega (arith, c.in-None.ensures.steps.1.0, left.0))
