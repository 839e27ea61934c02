-- Each return rewrites the last three tests by what led there.
use mathlib.Core.Path.{sym, ◌∙◌}
use native.Mathlib.Omega.{arith}
use borrow.Author.Tests.{lt-ltb, le-ltb}
use Rattle.tp1.proofs.Size.{size-least}
use Rattle.tp1.specs.Stages.{read_from}
use Rattle.tp1.proofs.reading.read_end.Goals as goal

pub is_checked-requires : goal.is_checked-requires
is_checked-requires c =
    omega (arith, c.frame_size-size.ensures, size-least c.args.octets.now)

pub returns-then-octets-size : goal.returns-then-octets-size
unfolding read_from
returns-then-octets-size c = rw (← c.frame_size-size.ensures, lt-ltb _ _ c.if-octets-size.true)

pub returns-then-size-octets : goal.returns-then-size-octets
unfolding read_from
returns-then-size-octets c = rw (← c.frame_size-size.ensures, le-ltb _ _ c.if-octets-size.false, lt-ltb _ _ c.if-size-octets.true)

pub returns-then-is_checked : goal.returns-then-is_checked
unfolding read_from
returns-then-is_checked c =
    rw (← c.frame_size-size.ensures, le-ltb _ _ c.if-octets-size.false, le-ltb _ _ c.if-size-octets.false, sym c.is_checked.ensures ∙ c.if-is_checked.true, c.meaning_in.ensures)

pub returns-else-is_checked : goal.returns-else-is_checked
unfolding read_from
returns-else-is_checked c =
    rw (← c.frame_size-size.ensures, le-ltb _ _ c.if-octets-size.false, le-ltb _ _ c.if-size-octets.false, sym c.is_checked.ensures ∙ c.if-is_checked.false)
