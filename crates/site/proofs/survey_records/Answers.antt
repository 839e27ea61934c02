-- The walk's law `Surveying`: a record that is fine moves the index on, one that is not decides.
use mathlib.Core.Path.{refl, sym, ap, ◌∙◌}
use native.Mathlib.Omega.{arith}
use lib.ListN.{length}
use borrow.Author.Rules.{rules}
use Rattle.frame.proofs.HandedOn.{handed-on}
use Rattle.site.proofs.RecordLaws.{record-behind}
use Rattle.site.proofs.Surveying.{apart-few, surveying-none, surveying-all, surveying-cut, surveying-refused, surveying-more, surveyed-by, refused-by}
use Rattle.std.specs.Slice.Iter.{chunks_exact_rest, chunks_exact_size}
use Rattle.site.proofs.survey_records.Goals as goal

pub loop-octets-init : goal.loop-octets-init
loop-octets-init c =
    let same = c.into_iter-octets-iterator.ensures.into_iter_gives in
    let size = ap chunks_exact_size same ∙ c.chunks_exact-octets-items.ensures.size in
    (omega (arith, size), (tt, (size, (ap chunks_exact_rest same ∙ c.chunks_exact-octets-items.ensures.rest, surveying-none _ _ _ refl))))

pub returns-in_err-judge_record : goal.returns-in_err-judge_record
returns-in_err-judge_record c =
    let left = c.loop-octets.invariant.1.1 in
    let cut = c.in-Some.ensures.steps in
    let first = surveying-refused left.1.1 _ _ (sym left.1.0 ∙ cut.1.0) (cut.1.1 ∙ left.0) (c.from-line.ensures ∙ c.line_of.ensures) (search rules) c.judge_record.ensures _ c.in_err-judge_record.was in
    refused-by _ first (handed-on c.from_residual.result c.from_residual.ensures.1)

pub overflow_add-from : goal.overflow_add-from
overflow_add-from c = omega (arith, apart-few c.loop-octets.invariant.1.1.1.1.apart)

pub loop-octets-preserved : goal.loop-octets-preserved
loop-octets-preserved c =
    let left = c.loop-octets.invariant.1.1 in
    let cut = c.in-Some.ensures.steps in
    let here = sym left.1.0 ∙ cut.1.0 in
    let size = cut.1.1 ∙ left.0 in (
      omega (arith, cut.0, left.0),
      (
        tt,
        (
          cut.0 ∙ left.0,
          (
            record-behind c.args.records.now c.loop-octets.from _ _ here size,
            surveying-more left.1.1 _ _ here size (c.from-line.ensures ∙ c.line_of.ensures) (search rules) c.judge_record.ensures c.in_ok-judge_record.was,
          ),
        ),
      ),
    )

pub returns-then-from-records : goal.returns-then-from-records
returns-then-from-records c =
    let left = c.loop-octets.invariant.1.1 in
    refused-by _ (surveying-cut left.1.1 (omega (arith, ap length left.1.0, left.0, c.in-None.ensures.steps.1.0)) (omega (arith, c.from.ensures, c.if-from-records.true))) refl

pub returns : goal.returns
returns c =
    let walk = c.loop-octets.invariant.1.1.1.1 in
    let all = surveying-all walk (omega (arith, c.from.ensures)) in
    surveyed-by all.0 (record { lent = refl; read = refl; size = walk.apart.size; each = all.1 })
