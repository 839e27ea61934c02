-- The number chooses the store; the part of it is the callee's.
use mathlib.Core.Path.{refl}
use native.Mathlib.Omega.{arith}
use borrow.Author.Tests.{lt-ltb, le-ltb}
use Rattle.site.specs.Stores.{table_of}
use Rattle.site.proofs.stores.Stores.table_of.Goals as goal

pub returns-then-number-lt128 : goal.returns-then-number-lt128
unfolding table_of
returns-then-number-lt128 c = record { table = rw (lt-ltb _ _ c.if-number-lt128.true) c.table_at.ensures }

pub returns-then-number-lt255 : goal.returns-then-number-lt255
unfolding table_of
returns-then-number-lt255 c = record { table = rw (le-ltb _ _ c.if-number-lt128.false, lt-ltb _ _ c.if-number-lt255.true) c.table_at-then-number-lt255.ensures }

pub returns-else-number-lt255 : goal.returns-else-number-lt255
unfolding table_of
returns-else-number-lt255 c =
    record { table = rw (le-ltb _ _ c.if-number-lt128.false, le-ltb _ _ c.if-number-lt255.false) (record { holds = refl; block = refl; offset = omega arith }) }
