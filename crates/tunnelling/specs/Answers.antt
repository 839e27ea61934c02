-- The answers of the two readers as the paper's number and values.
use Rattle.std.specs.Prelude.{ℕ, List, [], ◌∷◌, Result, Ok, Err}
use Rattle.cemi.specs.Answers.{message_values}
use Rattle.frame.specs.Answers.{Numbered, accepted, refused}
use Rattle.tunnelling.specs.declared.Acknowledgement.{Acknowledgement}
use Rattle.tunnelling.specs.declared.Request.{Request}
use Rattle.frame.specs.declared.Refusal.{Refusal}

-- channel and counter before the message's
abbrev pub request_values : Request → List ℕ
request_values x = x.channel ∷ x.counter ∷ message_values x.message

abbrev pub request_numbered : Result Request Refusal → Numbered
request_numbered (Ok x) = accepted (request_values x)
request_numbered (Err r) = refused r

abbrev pub acknowledgement_values : Acknowledgement → List ℕ
acknowledgement_values a = a.channel ∷ a.counter ∷ a.status ∷ []

abbrev pub acknowledgement_numbered : Result Acknowledgement Refusal → Numbered
acknowledgement_numbered (Ok a) = accepted (acknowledgement_values a)
acknowledgement_numbered (Err r) = refused r
