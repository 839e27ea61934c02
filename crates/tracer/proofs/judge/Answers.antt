-- Kind and count, then the room.
use mathlib.Core.Path.{refl}
use borrow.Author.Tests.{lt-ltb, le-ltb}
use Rattle.tracer.proofs.judge.Goals as goal

pub returns-then-room-lt768 : goal.returns-then-room-lt768
returns-then-room-lt768 c = rw (c.if-asked.true, lt-ltb _ _ c.if-room-lt768.true) refl

pub returns-else-room-lt768 : goal.returns-else-room-lt768
returns-else-room-lt768 c = rw (c.if-asked.true, le-ltb _ _ c.if-room-lt768.false) refl

pub returns-else-asked : goal.returns-else-asked
returns-else-asked c = rw c.if-asked.false refl
