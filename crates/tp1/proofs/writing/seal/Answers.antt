-- The head's octets are known by their exclusive or: the check octet behind them, stored behind them and the payload.
use Prim.Native.Nat.{◌-◌}
use mathlib.Core.Path.{◌≡◌, refl, ap, ◌∙◌}
use native.Mathlib.Omega.{arith}
use lib.Bits.{bit_xor}
use Rattle.octets.specs.Check.{xor_from}
use Rattle.octets.proofs.ExclusiveOr.{check-behind}
use Rattle.tp1.proofs.writing.seal.Goals as goal

pub returns : goal.returns
returns c =
    let args = c.args in
    let p = args.payload.now in
    let check : bit_xor args.front c.check_octet.result ≡ 255 - xor_from args.front p =
    ap (bit_xor args.front) c.check_octet.ensures ∙ check-behind args.front p (omega arith) (λ i. (c.type_inv.payload i).fits) in
    rw check refl
