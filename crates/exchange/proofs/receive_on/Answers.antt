-- The answer, and its acknowledgement laid over the room.
use Rattle.exchange.proofs.ReceivingLaws.{received-on}
use Rattle.exchange.proofs.receive_on.Goals as goal

pub returns : goal.returns
returns c =
    let a = c.args in
    received-on a.channel a.octets.now a.room.now c.received-answer.ensures c.send_back.ensures
