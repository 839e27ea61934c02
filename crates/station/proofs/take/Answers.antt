-- What was recognised, case by case; an increment by `summed`. The total is taken back from its bits.
use mir.Facts.{to_z-of_z}
use Rattle.station.specs.Taking.{taken_by}
use Rattle.station.proofs.take.Goals as goal

pub returns-in-Ok-Increment : goal.returns-in-Ok-Increment
unfolding taken_by
returns-in-Ok-Increment c =
    rw (← c.recognise-telegram.ensures, c.in-Ok-Increment.is, rw c.in-Ok-Increment.is at c.in-Ok-Increment.field-0-is) (rw (to_z-of_z c.ranges.total) at c.summed.ensures)

pub returns-in-Ok-Repetition : goal.returns-in-Ok-Repetition
unfolding taken_by
returns-in-Ok-Repetition c =
    rw (← c.recognise-telegram.ensures, c.in-Ok-Repetition.is, rw c.in-Ok-Repetition.is at c.in-Ok-Repetition.field-0-is, to_z-of_z c.ranges.total)

pub returns-in-Ok-OtherGroup : goal.returns-in-Ok-OtherGroup
unfolding taken_by
returns-in-Ok-OtherGroup c =
    rw (← c.recognise-telegram.ensures, c.in-Ok-OtherGroup.is, rw c.in-Ok-OtherGroup.is at c.in-Ok-OtherGroup.field-0-is, to_z-of_z c.ranges.total)

pub returns-in-Ok-NoIncrement : goal.returns-in-Ok-NoIncrement
unfolding taken_by
returns-in-Ok-NoIncrement c =
    rw (← c.recognise-telegram.ensures, c.in-Ok-NoIncrement.is, rw c.in-Ok-NoIncrement.is at c.in-Ok-NoIncrement.field-0-is, to_z-of_z c.ranges.total)

pub returns-in-Err : goal.returns-in-Err
unfolding taken_by
returns-in-Err c =
    rw (← c.recognise-telegram.ensures, c.in-Err.is, to_z-of_z c.ranges.total)
