-- The eight octets of the bits, laid at the front of the block.
use mir.Facts.{to_z-of_z}
use Rattle.klumdray.specs.Litres.{total_octets}
use Rattle.klumdray.proofs.SignedBits.{be_octets}
use Rattle.klumdray.proofs.litres.put_total.Goals as goal

pub returns : goal.returns
unfolding total_octets
returns c =
    let bits = rw (to_z-of_z c.ranges.total) at c.bits_of.ensures in
    rw (← bits, ← be_octets c.bits_of.result c.bits_of.type_inv, ← c.to_be_bytes-octets.ensures) c.lay.ensures
