-- The tracer's own contract, of the query and the site that were read.
use mathlib.Core.Path.{sym}
use native.Mathlib.Omega.{arith}
use lib.Seq.{length-take-le}
use Rattle.report.proofs.ReportLaws.{traced-refused, traced-listed, puts-as}
use Rattle.report.proofs.put_trace.Goals as goal

pub returns-in-Err : goal.returns-in-Err
returns-in-Err c =
    puts-as (traced-refused _ c.query_in-query.ensures c.trace.ensures c.in-Err.is) c.put_refused.ensures

pub overflow_mul-list : goal.overflow_mul-list
overflow_mul-list c =
    omega (arith, (traced-listed _ c.query_in-query.ensures c.trace.ensures c.in-Ok.is c.trace.auto.room).within, c.trace.auto.room)

pub slice_bounds-list-end : goal.slice_bounds-list-end
slice_bounds-list-end c = (traced-listed _ c.query_in-query.ensures c.trace.ensures c.in-Ok.is c.trace.auto.room).within

pub slice_bounds-put_listed-end : goal.slice_bounds-put_listed-end
slice_bounds-put_listed-end c =
    sym (length-take-le _ _ (traced-listed _ c.query_in-query.ensures c.trace.ensures c.in-Ok.is c.trace.auto.room).within)

pub returns-in-Ok : goal.returns-in-Ok
returns-in-Ok c =
    puts-as (traced-listed _ c.query_in-query.ensures c.trace.ensures c.in-Ok.is c.trace.auto.room).told c.put_listed.ensures
