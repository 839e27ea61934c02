-- The answer of cEMI's and routing's readers as document 01's number and values: "for cEMI also message code and error mark".
use Rattle.std.specs.Prelude.{ℕ, List, ◌∷◌, Result, Ok, Err}
use Rattle.octets.specs.Octets.{weigh}
use Rattle.frame.specs.Answers.{Numbered, accepted, refused, meaning_values}
use Rattle.cemi.specs.declared.Message.{Message}
use Rattle.frame.specs.declared.Refusal.{Refusal}

abbrev pub message_values : Message → List ℕ
message_values x = x.code ∷ weigh x.error 1 ∷ meaning_values x.meaning

abbrev pub cemi_numbered : Result Message Refusal → Numbered
cemi_numbered (Ok x) = accepted (message_values x)
cemi_numbered (Err r) = refused r
