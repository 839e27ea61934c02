-- What stands at the front of the room are the entries of the lines so far.
use Rattle.tracer.proofs.RoomLaws.{Listing}
use Rattle.tracer.proofs.listing.list.Given as goal

abbrev pub invariant-loop-line : goal.invariant-loop-line
invariant-loop-line l = Listing l.query l.lines l.initial.room l.room l.listed l.line
