-- The definition's tests, class by class.
use mathlib.Core.Logic.{⊎_elim}
use mathlib.Core.Path.{refl, sym}
use lib.Dec.{leb}
use Rattle.octets.proofs.Truth.{and_yes}
use Rattle.passing.specs.Settings.{is_code}
use Rattle.passing.proofs.settings.is_code.Goals as goal

pub returns-in-Broadcast : goal.returns-in-Broadcast
unfolding is_code
returns-in-Broadcast c = rw c.in-Broadcast.is refl

pub returns-in-Individual : goal.returns-in-Individual
unfolding is_code
returns-in-Individual c =
    let two = sym (and_yes (leb c.args.code 2)) in
    ⊎_elim (λ e. rw e two) (⊎_elim (λ e. rw e two) (λ e. rw e two)) c.in-Individual.is
