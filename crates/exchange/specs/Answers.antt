-- The answers of receiving a request and of receiving an acknowledgement as the paper's number and values.
use Rattle.std.specs.Prelude.{[], ◌∷◌, Result, Ok, Err}
use Rattle.frame.specs.Answers.{Numbered, accepted, refused}
use Rattle.tunnelling.specs.Answers.{request_values}
use Rattle.exchange.specs.declared.Confirmed.{Confirmed}
use Rattle.exchange.specs.declared.Confirmed.TheVariants.{Raised, Kept}
use Rattle.exchange.specs.declared.Received.{Received}
use Rattle.exchange.specs.declared.Received.TheVariants.{Delivered, Again}
use Rattle.frame.specs.declared.Refusal.{Refusal}

-- what is delivered is the request; acknowledged again, nothing is
abbrev pub received_numbered : Result Received Refusal → Numbered
received_numbered (Ok (Delivered x)) = accepted (request_values x)
received_numbered (Ok Again) = accepted []
received_numbered (Err r) = refused r

-- 1 if the send counter is raised, 0 if it is kept
abbrev pub confirmed_numbered : Result Confirmed Refusal → Numbered
confirmed_numbered (Ok Raised) = accepted (1 ∷ [])
confirmed_numbered (Ok Kept) = accepted (0 ∷ [])
confirmed_numbered (Err r) = refused r
