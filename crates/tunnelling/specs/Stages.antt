-- What a private function answers: the tests of the connection header alone.
use Rattle.std.specs.Prelude.{ℕ, List, Result}
use Rattle.frame.specs.Order.{first_of}
use Rattle.tunnelling.specs.Reading.{connection_tests}
use Rattle.frame.specs.declared.Refusal.{Refusal}

unfoldable pub judge_connection : List ℕ → Result (Unit {0}) Refusal
judge_connection s = first_of (connection_tests s)
