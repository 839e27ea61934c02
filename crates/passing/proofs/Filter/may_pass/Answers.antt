-- One code, chosen by the direction and the address's class, decides; the parts are as the calls ensure them.
use Rattle.passing.specs.Passing.{may_pass}
use Rattle.passing.proofs.Filter.may_pass.Goals as goal

pub returns : goal.returns
unfolding may_pass
returns c =
    rw (← c.class_of-class.ensures, ← c.code_in-code.ensures, ← c.is_own-own.ensures, ← c.is_ruled-ruled.ensures)
