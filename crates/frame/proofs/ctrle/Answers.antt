-- The bit's weight is at most 128, the count's at most 112 and the rest at most 15: the sum is an octet.
use native.Mathlib.Omega.{arith}
use Rattle.frame.specs.Fields.{ctrle_of}
use Rattle.octets.proofs.Weigh.{weigh-most}
use Rattle.frame.proofs.ctrle.Goals as goal

pub overflow_add-result : goal.overflow_add-result
overflow_add-result c = omega (arith, c.flag.ensures, weigh-most c.args.meaning.group 128)

pub overflow_add-result-2 : goal.overflow_add-result-2
overflow_add-result-2 c = omega (arith, c.flag.ensures, weigh-most c.args.meaning.group 128)

pub returns : goal.returns
unfolding ctrle_of
returns c = rw c.flag.ensures
