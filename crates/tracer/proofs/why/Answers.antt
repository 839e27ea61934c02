-- Refused as the trace is, which has room enough; otherwise the explanation.
use mathlib.Core.Path.{sym, ◌∙◌}
use Rattle.frame.proofs.HandedOn.{handed-on}
use Rattle.site.proofs.StartLaws.{survey-notes}
use Rattle.tracer.proofs.WalkingLaws.{why-asked, why-refused, why-explained}
use Rattle.tracer.proofs.why.Goals as goal

pub returns-in_err-judge : goal.returns-in_err-judge
returns-in_err-judge c =
    handed-on c.from_residual.result c.from_residual.ensures.1 ∙ why-asked _ _ _ _ (sym c.judge.ensures ∙ c.in_err-judge.was)

pub returns-in_err-surveyed : goal.returns-in_err-surveyed
returns-in_err-surveyed c =
    handed-on c.from_residual-in_err-surveyed.result c.from_residual-in_err-surveyed.ensures.1 ∙ why-refused _ _ _ _ (sym c.judge.ensures ∙ c.in_ok-judge.was) _ c.survey.ensures.judged c.in_err-surveyed.was

pub invariant_of-asked : goal.invariant_of-asked
invariant_of-asked c = record { noted = survey-notes c.survey.ensures (λ i. (c.type_inv.site i).fits) c.in_ok-surveyed.was }

pub returns : goal.returns
returns c =
    let survey = c.survey.ensures in
    let found = survey.found _ c.in_ok-surveyed.was in
    why-explained _ _ _ _ (sym c.judge.ensures ∙ c.in_ok-judge.was) _ survey.judged c.in_ok-surveyed.was (rw (found.lent, found.read) at c.explain.ensures)
