-- Each arm settles the class.
use mathlib.Core.Logic.{⊎_elim}
use mathlib.Core.Path.{refl}
use Rattle.passing.specs.Passing.{is_ruled}
use Rattle.passing.proofs.addresses.is_ruled.Goals as goal

pub returns-in-Individual : goal.returns-in-Individual
unfolding is_ruled
returns-in-Individual c = rw c.in-Individual.is c.is_onward.ensures

pub returns-in-Broadcast : goal.returns-in-Broadcast
unfolding is_ruled
returns-in-Broadcast c = rw c.in-Broadcast.is refl

pub returns-in-Lower : goal.returns-in-Lower
unfolding is_ruled
returns-in-Lower c = ⊎_elim (λ e. rw e c.is_in_table.ensures) (λ e. rw e c.is_in_table.ensures) c.in-Lower.is
