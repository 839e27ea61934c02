-- The three tests are the definition's own.
use native.Mathlib.Omega.{arith}
use Rattle.tracer.specs.Listing.{lasts}
use Rattle.tracer.specs.Reaching.{handed}
use Rattle.tracer.proofs.reaching.hand.Goals as goal

pub returns-then-handed : goal.returns-then-handed
unfolding handed lasts
returns-then-handed c = rw c.if-handed.true (omega arith)

pub returns-else-handed : goal.returns-else-handed
unfolding handed lasts
returns-else-handed c = rw c.if-handed.false
