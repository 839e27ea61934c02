-- The three octets, as `octet_in` hands them out.
use Rattle.klumdray.proofs.counters.channel_in.Goals as goal

pub returns : goal.returns
returns c = rw (c.octet_in.ensures, c.octet_in-2.ensures, c.octet_in-3.ensures)
