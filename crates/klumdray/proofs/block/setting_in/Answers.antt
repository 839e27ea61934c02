-- The two octets, as `octet` hands them out.
use Rattle.klumdray.proofs.block.setting_in.Goals as goal

pub returns : goal.returns
returns c = rw (c.octet.ensures, c.octet-2.ensures)
