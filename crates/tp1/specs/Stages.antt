-- A frame read in stages: for the contracts of private functions. No public contract rests on this definition.
use Rattle.std.specs.Prelude.{ℕ, List, drop, Result, Ok, Err}
use Rattle.frame.specs.Order.{first_of, answer_by}
use Rattle.tp1.specs.Reading.{meaning_in, tp1_tests}
use Rattle.frame.specs.declared.Refusal.{Refusal}
use Rattle.frame.specs.declared.Meaning.{Meaning}

-- what the octets are read as by the tests from the k-th on
unfoldable pub read_from : ℕ → List ℕ → Result Meaning Refusal
read_from k s = answer_by Err (Ok (meaning_in s)) (first_of (drop k (tp1_tests s)))
