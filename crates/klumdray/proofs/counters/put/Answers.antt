-- Behind the test of the number the place is the definition's; past the end nothing is stored, as in the definition.
use mathlib.Core.Path.{sym}
use Rattle.klumdray.proofs.ChannelLaws.{with-place, with_none}
use Rattle.klumdray.proofs.counters.put.Goals as goal

pub returns-then-at-block : goal.returns-then-at-block
returns-then-at-block c = with-place _ _ _ _ c.if-number-eq0.false

pub returns-else-at-block : goal.returns-else-at-block
returns-else-at-block c =
    let a = c.args in
    sym (with_none a.block.now a.number a.place a.octet c.if-number-eq0.false c.if-at-block.false)
