-- A number below 10 is one digit; otherwise the digits of its tenth are put first, and the tenth is less.
use Prim.Native.Nat.{◌/◌, ◌%◌}
use mathlib.Core.Path.{sym}
use native.Mathlib.Omega.{arith}
use Rattle.report.proofs.Decimal.{decimal-one, decimal-more}
use Rattle.report.proofs.Puts.{has-first, has-then, has-as, wrote-then, wrote-as}
use Rattle.report.specs.Text.{digit, decimal}
use Rattle.report.proofs.text.Writer.+put_decimal.Goals as goal
use Rattle.report.proofs.text.Writer.+put_decimal.Goals.{then-number-ge10, else-number-ge10}

pub put_decimal-requires : goal.put_decimal-requires
put_decimal-requires t c =
    let n = c.args.number in
    (omega (arith, c.decreases), has-first (decimal (n / 10)) (digit (n % 10)) c.args.self.now (has-as c.args.self.now (decimal-more n c.if-number-ge10.true) c.requires))

pub put_digit-requires : goal.put_digit-requires
put_digit-requires t c =
    let n = c.args.number in
    elim c.if-number-ge10.branch [
      | then-number-ge10 w ↦
          rw w.self-is (has-then (decimal (n / 10)) (digit (n % 10)) c.args.self.now (has-as c.args.self.now (decimal-more n w.if-number-ge10.true) c.requires) w.put_decimal.ensures)
      | else-number-ge10 w ↦ rw w.self-is (has-as c.args.self.now (decimal-one n w.if-number-ge10.false) c.requires)
    ]

pub returns : goal.returns
returns t c =
    let n = c.args.number in
    elim c.if-number-ge10.branch [
      | then-number-ge10 w ↦
          let more = decimal-more n w.if-number-ge10.true in
          wrote-as (sym more) (wrote-then _ _ _ (has-as c.args.self.now more c.requires) w.put_decimal.ensures (rw w.self-is at c.put_digit.ensures))
      | else-number-ge10 w ↦ wrote-as (sym (decimal-one n w.if-number-ge10.false)) (rw w.self-is at c.put_digit.ensures)
    ]
