-- An octet each, or refused before the inner writer.
use native.Mathlib.Omega.{arith}
use mathlib.Core.Path.{sym, ◌∙◌}
use Rattle.klumdray.proofs.Surface.{octets-fit, unfit-wrote}
use Rattle.klumdray.proofs.numbers.write_request.Goals as goal

pub returns-then-not-are_octets : goal.returns-then-not-are_octets
returns-then-not-are_octets c = unfit-wrote _ _ _ _ (sym c.are_octets.ensures ∙ c.if-not-are_octets.true)

pub overflow_cast-number : goal.overflow_cast-number
overflow_cast-number c = let fit = octets-fit _ _ (sym c.are_octets.ensures ∙ c.if-not-are_octets.false) in record { fits = omega (arith, fit.0, fit.1) }

pub overflow_cast-counted : goal.overflow_cast-counted
overflow_cast-counted c = let fit = octets-fit _ _ (sym c.are_octets.ensures ∙ c.if-not-are_octets.false) in record { fits = omega (arith, fit.0, fit.1) }
