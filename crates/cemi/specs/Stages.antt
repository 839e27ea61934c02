-- A message read and written in stages: for the contracts of private functions. No public contract rests on these definitions.
use Rattle.std.specs.Prelude.{ℕ, List, ◌∷◌, drop, Result, Ok, Err}
use Rattle.octets.specs.Octets.{octet_at}
use Rattle.frame.specs.Order.{first_of, answer_by}
use Rattle.frame.specs.Fields.{fields_of}
use Rattle.cemi.specs.declared.Message.{Message}
use Rattle.cemi.specs.Layout.{plain_bits, ctrl1_of}
use Rattle.cemi.specs.Reading.{body, message_in, body_tests, information_tests}
use Rattle.frame.specs.declared.Refusal.{Refusal}

-- what stands before TPCI in the plain form
abbrev pub plain_head : Message → ℕ → List ℕ
plain_head x lg = x.code ∷ 0 ∷ ctrl1_of plain_bits x ∷ fields_of x.meaning lg

-- what a body is read as by the tests from the k-th on, under a message code
unfoldable pub read_body : ℕ → ℕ → List ℕ → Result Message Refusal
read_body k code b = answer_by Err (Ok (message_in code b)) (first_of (drop k (body_tests b)))

-- what octets with a code that is read are read as
unfoldable pub read_information : List ℕ → Result Message Refusal
read_information s = answer_by Err (Ok (message_in (octet_at s 0) (body s))) (first_of (information_tests s))
