-- What the verdict on header and connection header says of their tests.
use Rattle.std.specs.Prelude.{Result, Ok, Err}
use Prim.Native.Nat.{ℕ, ◌≤◌}
use mathlib.Core.List.{List, ◌++◌}
use mathlib.Core.Path.{◌≡◌}
use lib.ListN.{length}
use borrow.Author.Tests.{ltb-false}
use Rattle.frame.proofs.Order.{passed-iff, first-passed, first-refused}
use Rattle.frame.specs.Order.{Test, first_of}
use Rattle.tunnelling.specs.Reading.{connected_tests, read_connection}
use Rattle.frame.specs.declared.Refusal.{Refusal}

module _ (service : ℕ) (s : List ℕ) where
  pub connection-verdict : {v : Result (Unit {0}) Refusal} → read_connection service s ≡ v → first_of (connected_tests service s) ≡ v
  unfolding read_connection
  connection-verdict e = e

  -- tests behind them are asked exactly where it is fine
  pub connection-refused : (us : List Test) {r : Refusal} → read_connection service s ≡ Err r → first_of (connected_tests service s ++ us) ≡ Err r
  connection-refused us {r} e = first-refused (connected_tests service s) us r (connection-verdict e)

  pub connection-passed : (us : List Test) → read_connection service s ≡ Ok tt → first_of (connected_tests service s ++ us) ≡ first_of us
  connection-passed us e = first-passed (connected_tests service s) us (connection-verdict e)

  pub connection-least : read_connection service s ≡ Ok tt → 10 ≤ length s
  connection-least e = ltb-false _ _ ((passed-iff (connected_tests service s)).0 (connection-verdict e)).1.1.1.1.0
