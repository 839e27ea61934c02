-- A code of 16 bits is the number given.
use mathlib.Core.Path.{ap, ◌∙◌}
use native.Mathlib.Omega.{arith}
use borrow.Author.Tests.{lt-ltb, le-ltb}
use Rattle.leak.specs.Reading.{read_code}
use Rattle.klumdray.specs.Litres.{value_number, value_given}
use Rattle.klumdray.proofs.klumdray_float_value.Goals as goal

pub returns-in-Ok : goal.returns-in-Ok
unfolding value_given
returns-in-Ok c =
    rw (lt-ltb c.args.code 65536 c.in-Ok.ensures.0) (c.of_value.ensures ∙ ap value_number (c.read.ensures ∙ ap read_code c.in-Ok.ensures.1))

pub returns-in-Err : goal.returns-in-Err
unfolding value_given
returns-in-Err c = rw (c.number.ensures, le-ltb c.args.code 65536 (omega (arith, c.in-Err.ensures)))
