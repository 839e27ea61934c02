-- The test says that each number fits.
use mathlib.Core.Path.{sym, ◌∙◌}
use Rattle.klumdray.proofs.Surface.{query-fit}
use Rattle.klumdray.proofs.traces.query_given.Goals as goal

pub overflow_cast-result : goal.overflow_cast-result
overflow_cast-result c = record { fits = (query-fit _ _ _ _ (sym c.query_fits.ensures ∙ c.if-query_fits.true)).0 }

pub overflow_cast-result-then-query_fits : goal.overflow_cast-result-then-query_fits
overflow_cast-result-then-query_fits c = record { fits = (query-fit _ _ _ _ (sym c.query_fits.ensures ∙ c.if-query_fits.true)).1.0 }

pub overflow_cast-result-then-query_fits-2 : goal.overflow_cast-result-then-query_fits-2
overflow_cast-result-then-query_fits-2 c = record { fits = (query-fit _ _ _ _ (sym c.query_fits.ensures ∙ c.if-query_fits.true)).1.1.0 }

pub overflow_cast-result-then-query_fits-3 : goal.overflow_cast-result-then-query_fits-3
overflow_cast-result-then-query_fits-3 c = record { fits = (query-fit _ _ _ _ (sym c.query_fits.ensures ∙ c.if-query_fits.true)).1.1.1 }
