-- The part is the table where the store has it, and empty where it has not.
use mathlib.Core.Path.{refl}
use native.Mathlib.Nat.{add-sub_cancel_left}
use native.Mathlib.Omega.{arith}
use borrow.Author.Tests.{le-leb, lt-leb}
use Rattle.site.specs.Stores.{is_stored, table_at, start_at}
use Rattle.site.proofs.stores.table_at.Goals as goal

pub returns-then-to-store : goal.returns-then-to-store
unfolding table_at start_at is_stored
returns-then-to-store c = rw (← c.from-from.ensures, le-leb _ _ c.if-to-store.true, add-sub_cancel_left) (record { holds = refl; block = refl; offset = omega arith })

pub returns-else-to-store : goal.returns-else-to-store
unfolding table_at start_at is_stored
returns-else-to-store c = rw (← c.from-from.ensures, lt-leb _ _ c.if-to-store.false) (record { holds = refl; block = refl; offset = omega arith })
