-- The room is looked at first; a room of 8,192 octets has every text.
use Rattle.report.proofs.ReportLaws.{unroomed, roomed}
use Rattle.report.proofs.report.Goals as goal

pub returns-then-room-lt8192 : goal.returns-then-room-lt8192
returns-then-room-lt8192 c =
    let a = c.args in
    unroomed a.input.now a.room.now c.if-room-lt8192.true

pub returns : goal.returns
returns c =
    let a = c.args in
    roomed a.input.now a.room.now c.if-room-lt8192.false c.put_report.ensures
