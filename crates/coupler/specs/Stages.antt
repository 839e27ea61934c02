-- A step in stages: for the contracts of private functions. No public contract rests on these definitions.
use Rattle.std.specs.Prelude.{ℕ, ◌≡◌, List, Bool, cond, length}
use Rattle.octets.specs.Room.{over}
use Rattle.frame.specs.declared.Meaning.{Meaning}
use Rattle.coupler.specs.declared.Memory.{Memory}
use Rattle.coupler.specs.declared.Outcome.{Outcome}
use Rattle.coupler.specs.Memory.{remembered_on}
use Rattle.coupler.specs.Step.{Coupler, Heard, sent_of, accepted_outcome, outcome_by, sent_by}

-- "Afterwards the accepted frame is the remembered one."; the other side's is as it was
unfoldable pub remembered_if : Bool → Memory → ℕ → List ℕ → Memory
remembered_if accepted m side frame = cond accepted (remembered_on m side frame) m

-- octets that were sent: how many, and the room with them at its front
pub record Sent (octets room : List ℕ) (size : ℕ) (room' : List ℕ) : Type 0 where
  pub count : size ≡ length octets
  pub left : room' ≡ over octets room

-- what becomes of an accepted frame, and of the room
pub record PassedOn (k : Coupler) (repetition : Bool) (m : Meaning) (p room : List ℕ) (o : Outcome) (room' : List ℕ) : Type 0 where
  pub outcome : o ≡ accepted_outcome k repetition m p
  pub left : room' ≡ over (sent_of k repetition m p) room

-- what becomes of octets received as which this was heard, and of the room
pub record HandedBy (k : Coupler) (remembered s : List ℕ) (h : Heard) (room : List ℕ) (o : Outcome) (room' : List ℕ) : Type 0 where
  pub outcome : o ≡ outcome_by k remembered s h
  pub left : room' ≡ over (sent_by k remembered s h) room
