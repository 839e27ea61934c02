-- The tests say that each number fits.
use mathlib.Core.Path.{sym, ◌∙◌}
use Rattle.octets.proofs.Truth.{and-true}
use Rattle.klumdray.proofs.Surface.{octets-fit, words-fit}
use Rattle.klumdray.proofs.numbers.meaning_given.Goals as goal

pub overflow_cast-result : goal.overflow_cast-result
overflow_cast-result c =
    let both = and-true _ _ c.if-flags-octets.true in
    record { fits = (octets-fit _ _ (sym c.are_octets-octets.ensures ∙ (and-true _ _ both.0).1)).0 }

pub overflow_cast-result-then-flags-octets : goal.overflow_cast-result-then-flags-octets
overflow_cast-result-then-flags-octets c =
    let both = and-true _ _ c.if-flags-octets.true in
    record { fits = (words-fit _ _ (sym c.are_words-words.ensures ∙ both.1)).0 }

pub overflow_cast-result-then-flags-octets-2 : goal.overflow_cast-result-then-flags-octets-2
overflow_cast-result-then-flags-octets-2 c =
    let both = and-true _ _ c.if-flags-octets.true in
    record { fits = (words-fit _ _ (sym c.are_words-words.ensures ∙ both.1)).1 }

pub overflow_cast-result-then-flags-octets-3 : goal.overflow_cast-result-then-flags-octets-3
overflow_cast-result-then-flags-octets-3 c =
    let both = and-true _ _ c.if-flags-octets.true in
    record { fits = (octets-fit _ _ (sym c.are_octets-octets.ensures ∙ (and-true _ _ both.0).1)).1 }
