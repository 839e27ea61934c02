-- The bits' weights are at most 128 and 32, bit 4's is 16 and the priority's at most 12: the sum is an octet.
use mathlib.Core.Bool.{not}
use native.Mathlib.Omega.{arith}
use Rattle.frame.specs.Fields.{control_of}
use Rattle.octets.proofs.Weigh.{weigh-most}
use Rattle.frame.proofs.control.Goals as goal

pub overflow_add-result : goal.overflow_add-result
overflow_add-result c =
    let a = c.args in
    omega (arith, c.flag.ensures, c.flag-2.ensures, weigh-most (not a.meaning.extended) 128, weigh-most a.meaning.first 32)

pub overflow_add-result-2 : goal.overflow_add-result-2
overflow_add-result-2 c =
    let a = c.args in
    omega (arith, c.flag.ensures, c.flag-2.ensures, weigh-most (not a.meaning.extended) 128, weigh-most a.meaning.first 32)

pub overflow_add-result-3 : goal.overflow_add-result-3
overflow_add-result-3 c =
    let a = c.args in
    omega (arith, c.flag.ensures, c.flag-2.ensures, weigh-most (not a.meaning.extended) 128, weigh-most a.meaning.first 32)

pub returns : goal.returns
unfolding control_of
returns c = rw (c.flag.ensures, c.flag-2.ensures)
