-- A line not reached has no octets; of one that is reached the entry holds the definition's three.
use Rattle.tracer.proofs.RoomLaws.{line-none, line-laid}
use Rattle.tracer.proofs.listing.list_line.Goals as goal

pub returns-then-reached-eq0 : goal.returns-then-reached-eq0
returns-then-reached-eq0 c =
    let a = c.args in
    line-none a.query a.line a.listed a.lines.now a.room.now c.if-reached-eq0.true

pub returns : goal.returns
returns c =
    let on-arrival = c.on_arrival in
    let if1 = c.if-reached-eq0 in
    let a = c.args in
    line-laid a.query a.line a.listed a.lines.now a.room.now if1.false on-arrival.ensures c.lay.ensures
