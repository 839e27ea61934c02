-- Each return is one of the definition's tests.
use mathlib.Core.Path.{sym}
use Rattle.report.proofs.ReportLaws.{report-few, report-many, report-traced, puts-as}
use Rattle.report.proofs.put_report.Goals as goal

pub returns-then-input-lt5 : goal.returns-then-input-lt5
returns-then-input-lt5 c = puts-as (sym (report-few _ c.if-input-lt5.true)) c.put_refused.ensures

pub returns-then-input-gt3065 : goal.returns-then-input-gt3065
returns-then-input-gt3065 c = puts-as (sym (report-many _ c.if-input-gt3065.true)) c.put_refused-then-input-gt3065.ensures

pub returns : goal.returns
returns c =
    puts-as (sym (report-traced _ c.if-input-lt5.false c.if-input-gt3065.false)) c.put_trace.ensures
