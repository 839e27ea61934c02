-- Each arm settles whether the frame was accepted.
use Rattle.klumdray.proofs.block.remember_if.Goals as goal

pub returns-then-accepted : goal.returns-then-accepted
returns-then-accepted c = rw c.if-accepted.true c.remember.ensures

pub returns-else-accepted : goal.returns-else-accepted
returns-else-accepted c = rw c.if-accepted.false
