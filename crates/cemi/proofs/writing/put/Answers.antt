-- Head and payload, laid one behind the other: `plain-room`, whose hypotheses are what the two calls ensure.
use native.Mathlib.Omega.{arith}
use Rattle.cemi.proofs.LayoutLaws.{plain-room}
use Rattle.frame.proofs.Valid.{ranges-of, most-payload}
use Rattle.cemi.proofs.writing.put.Goals as goal

pub overflow_sub-payload : goal.overflow_sub-payload
overflow_sub-payload c =
    (ranges-of c.args.message.meaning _ c.requires.0).some

pub overflow_cast-payload : goal.overflow_cast-payload
overflow_cast-payload c =
    omega (arith, most-payload c.args.message.meaning _ c.requires.0)

pub returns : goal.returns
returns c =
    let a = c.args in
    plain-room a.message a.payload.now a.room.now c.requires.1 c.put_head.ensures c.lay.ensures
