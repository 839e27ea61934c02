-- Code and mark are below 8, and a meaning's number is below 2 to the 56.
use native.Mathlib.Omega.{arith}
use Rattle.klumdray.proofs.Surface.{code-most, meaning-below}
use Rattle.klumdray.specs.Numbers.{message_number}
use Rattle.octets.proofs.Weigh.{weigh-most}
use Rattle.klumdray.proofs.numbers.of_message.Goals as goal

pub overflow_add-marks : goal.overflow_add-marks
overflow_add-marks c =
    let a = c.args in
    omega (arith, c.of_code.ensures, code-most a.message.code, c.flag.ensures, weigh-most a.message.error 4)

pub overflow_mul-result : goal.overflow_mul-result
overflow_mul-result c =
    let a = c.args in
    omega (arith, c.of_code.ensures, code-most a.message.code, c.flag.ensures, weigh-most a.message.error 4)

pub overflow_add-result : goal.overflow_add-result
overflow_add-result c =
    let a = c.args in
    let below = meaning-below a.message.meaning a.payload (omega arith) (omega arith) in
    omega (arith, c.of_code.ensures, code-most a.message.code, c.flag.ensures, weigh-most a.message.error 4, c.of_meaning.ensures, below)

pub returns : goal.returns
unfolding message_number
returns c = rw (c.of_code.ensures, c.flag.ensures, c.of_meaning.ensures)
