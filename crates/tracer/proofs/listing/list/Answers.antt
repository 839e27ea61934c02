-- What stands at the front of the room are the entries of the lines so far.
use native.Mathlib.Omega.{arith}
use Rattle.tracer.proofs.RoomLaws.{listing_none, listing-more, listing-all}
use Rattle.tracer.proofs.listing.list.Goals as goal

pub loop-line-init : goal.loop-line-init
loop-line-init c = listing_none c.args.query c.args.lines.now c.args.room.now

pub list_line-listed-requires : goal.list_line-listed-requires
list_line-listed-requires c =
    let at-loop = c.loop-line in
    omega (arith, at-loop.invariant.few, at-loop.invariant.same, c.requires)

pub loop-line-preserved : goal.loop-line-preserved
loop-line-preserved c =
    let put = c.list_line-listed in
    listing-more c.requires c.loop-line.invariant c.loop-line-test.true put.ensures.0 put.ensures.1 put.auto.room

pub shape_of-room : goal.shape_of-room
shape_of-room c = c.loop-line.invariant.same

pub returns : goal.returns
returns c = listing-all c.loop-line.invariant c.loop-line-test.false
