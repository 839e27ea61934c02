-- Head, payload and check octet, laid one behind the other: `frame-room`, whose hypotheses are what the three calls ensure.
use native.Mathlib.Omega.{arith}
use Rattle.frame.proofs.Valid.{ranges-of, most-payload}
use Rattle.tp1.proofs.LayoutLaws.{head-least, frame-room}
use Rattle.tp1.proofs.writing.put.Goals as goal

pub overflow_sub-lg : goal.overflow_sub-lg
overflow_sub-lg c =
    (ranges-of c.args.meaning _ c.requires.0).some

pub overflow_cast-lg : goal.overflow_cast-lg
overflow_cast-lg c =
    omega (arith, most-payload c.args.meaning _ c.requires.0)

pub put_head-front-requires : goal.put_head-front-requires
put_head-front-requires c =
    omega (arith, head-least c.args.meaning.extended, (ranges-of c.args.meaning _ c.requires.0).some)

pub returns : goal.returns
returns c =
    let a = c.args in
    let front = c.put_head-front in
    frame-room a.meaning a.payload.now a.room.now c.head_of-start.result front.result c.head_of-start.ensures c.requires.1 front.ensures.0 front.ensures.1 c.lay.ensures
    c.seal.ensures
