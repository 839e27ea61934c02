-- The control octet and bit 0: its other bits are those of the plain form.
use mathlib.Core.Bool.{◌&&◌}
use native.Mathlib.Omega.{arith}
use Rattle.cemi.proofs.LayoutLaws.{plain-ctrl1}
use Rattle.cemi.specs.Codes.{is_confirmation}
use Rattle.frame.proofs.Fields.{control-most}
use Rattle.octets.proofs.Weigh.{weigh-most}
use Rattle.cemi.proofs.writing.ctrl1.Goals as goal

pub overflow_add-result : goal.overflow_add-result
overflow_add-result c =
    let a = c.args in
    omega (arith, c.control.ensures, control-most a.message.meaning, c.flag.ensures, weigh-most (is_confirmation a.message.code && a.message.error) 1)

pub returns : goal.returns
returns c = plain-ctrl1 c.args.message c.control.ensures c.flag.ensures
