-- Store sizes, then the length, then the records.
use mathlib.Core.Path.{refl, sym, ◌∙◌}
use borrow.Author.Tests.{eq-eqb, ne_eqb}
use Rattle.site.proofs.Surveying.{refused-by, records-decide}
use Rattle.site.specs.WellFormed.{site_tests}
use Rattle.site.proofs.survey.Goals as goal

pub returns-then-records-eq0 : goal.returns-then-records-eq0
unfolding site_tests
returns-then-records-eq0 c =
    records-decide (rw (sym c.are_stores.ensures ∙ c.if-are_stores.true, eq-eqb _ _ c.if-records-eq0.true) refl) c.survey_records.ensures

pub returns-else-records-eq0 : goal.returns-else-records-eq0
unfolding site_tests
returns-else-records-eq0 c =
    refused-by _ (rw (sym c.are_stores.ensures ∙ c.if-are_stores.true, ne_eqb _ _ c.if-records-eq0.false) refl) c.refused.ensures

pub returns-else-are_stores : goal.returns-else-are_stores
unfolding site_tests
returns-else-are_stores c =
    refused-by _ (rw (sym c.are_stores.ensures ∙ c.if-are_stores.false) refl) c.refused-else-are_stores.ensures
