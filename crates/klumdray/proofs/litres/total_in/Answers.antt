-- The four fields, as `word_at` gives them; the number is taken back from its bits.
use mathlib.Core.Path.{◌∙◌}
use mir.Facts.{to_z-of_z}
use mir.Syntax.{w64}
use Rattle.klumdray.specs.Litres.{total_in}
use Rattle.klumdray.proofs.litres.total_in.Goals as goal

pub returns : goal.returns
unfolding total_in
returns c =
    rw (← c.word_at-first.ensures, ← c.word_at-second.ensures, ← c.word_at-third.ensures, ← c.word_at-fourth.ensures)
    (to_z-of_z {w = w64} {z = c.signed_of.result} (record { sfits = c.signed_of.type_inv }) ∙ c.signed_of.ensures)
