-- Meaning and payload of a frame that was heard, apart: for the contracts of private functions, on the way to `read_by`. No public contract
-- rests on these definitions.
use Rattle.std.specs.Prelude.{ℕ, List, Bool, true, false, Result, Ok, Err}
use Rattle.frame.specs.declared.Meaning.{Meaning}
use Rattle.tp1.specs.Reading.{read_tp1, payload_in}
use Rattle.routing.specs.Reading.{read_routing, routed_payload}
use Rattle.coupler.specs.Step.{indication}
use Rattle.frame.specs.declared.Refusal.{Refusal}
use Rattle.cemi.specs.declared.Message.{Message}

-- a message without its code and error mark
abbrev pub meaning_only : Result Message Refusal → Result Meaning Refusal
meaning_only (Ok x) = Ok x.meaning
meaning_only (Err r) = Err r

-- what octets mean that came from IP, or from TP1
abbrev pub answer_on : Bool → List ℕ → Result Meaning Refusal
answer_on true s = meaning_only (read_routing s)
answer_on false s = read_tp1 s

abbrev pub payload_on : Bool → Meaning → List ℕ → List ℕ
payload_on true m s = routed_payload (Ok (indication m)) s
payload_on false m s = payload_in (Ok m) s
