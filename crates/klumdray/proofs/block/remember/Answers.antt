-- Size and frame laid one behind the other, as the definition has it.
use Rattle.klumdray.specs.Stages.{remembered_at}
use Rattle.klumdray.proofs.block.remember.Goals as goal

pub returns : goal.returns
unfolding remembered_at
returns c =
    rw (← c.high_octet.ensures, ← c.low_octet.ensures, ← c.lay.ensures) c.lay-2.ensures
