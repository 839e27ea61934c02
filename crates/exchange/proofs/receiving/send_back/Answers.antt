-- Nothing laid over the room is the room.
use mathlib.Core.List.{[]}
use mathlib.Core.Path.{sym}
use native.Mathlib.Omega.{arith}
use Rattle.octets.proofs.Room.{laid-front}
use Rattle.exchange.proofs.receiving.send_back.Goals as goal

pub returns-in-Err : goal.returns-in-Err
returns-in-Err c = rw c.in-Err.is (sym (laid-front [] c.args.room.now (omega arith)))
