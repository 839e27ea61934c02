-- The test that is required says that the three fit an octet each.
use native.Mathlib.Omega.{arith}
use Rattle.klumdray.proofs.Surface.{connected-fit}
use Rattle.klumdray.proofs.numbers.acknowledgement_from.Goals as goal

pub overflow_cast-result : goal.overflow_cast-result
overflow_cast-result c = let fit = connected-fit _ _ _ c.requires in record { fits = omega (arith, fit.0, fit.1.0, fit.1.1) }

pub overflow_cast-result-2 : goal.overflow_cast-result-2
overflow_cast-result-2 c = let fit = connected-fit _ _ _ c.requires in record { fits = omega (arith, fit.0, fit.1.0, fit.1.1) }

pub overflow_cast-result-3 : goal.overflow_cast-result-3
overflow_cast-result-3 c = let fit = connected-fit _ _ _ c.requires in record { fits = omega (arith, fit.0, fit.1.0, fit.1.1) }
