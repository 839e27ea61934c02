-- The two octets of the request; what the writer leaves is its octets laid over the room.
use Rattle.frame.proofs.Writing.{wrote-laid}
use Rattle.exchange.proofs.receiving.acknowledge.Goals as goal

pub returns : goal.returns
returns c =
    rw (← c.octet.ensures, ← c.octet-2.ensures) (wrote-laid c.write_acknowledgement.ensures)
