-- A series of frames: the step as a fold over a list of inputs, the memory handed on from each to the next.
use Rattle.std.specs.Prelude.{Bool, cond, not, ◌&&◌, List, [], ◌∷◌, ℕ, eqb, length, is_none}
use Rattle.octets.specs.Room.{over}
use Rattle.coupler.specs.declared.Outcome.{Outcome}
use Rattle.coupler.specs.declared.Memory.{Memory}
use Rattle.coupler.specs.Memory.{recalled, side_of}
use Rattle.coupler.specs.Step.{Coupler, from_ip, Did, heard, outcome_of, sent, memory_after}

pub record Input : Type 0 where
  pub coupler : Coupler
  pub octets : List ℕ
  pub room : List ℕ

-- what a step leaves: its outcome, the memory and the room
pub record Done : Type 0 where
  pub outcome : Outcome
  pub memory : Memory
  pub room : List ℕ

abbrev pub done_by : Memory → Input → Done
done_by m i =
    let k = i.coupler in
    let remembered = recalled (side_of m k.setting.side) in
    record {
      outcome = outcome_of k remembered i.octets (length i.room);
      memory = memory_after k m i.octets (heard k i.octets (length i.room));
      room = over (sent k remembered i.octets (length i.room)) i.room;
    }

abbrev pub series : Memory → List Input → List Done
series m [] = []
series m (i ∷ is) = done_by m i ∷ series (done_by m i).memory is

-- each element is what a step, by value or in place, may leave: both have the one contract `Did`
abbrev pub Follows : Memory → List Input → List Done → Type 0
Follows m [] [] = Unit {0}
Follows m [] (d ∷ ds) = ⊥
Follows m (i ∷ is) [] = ⊥
Follows m (i ∷ is) (d ∷ ds) = Did i.coupler m i.octets i.room d.outcome d.memory d.room × Follows d.memory is ds

-- "the last accepted frame that was received from it", as inputs and answers tell it: a step has accepted a frame from a TP1 side if it has
-- no refusal, and it came by TP1 and from that side
abbrev pub is_accepted_from : ℕ → Input → Done → Bool
is_accepted_from side i d = is_none d.outcome.refusal && (not (from_ip i.coupler) && eqb i.coupler.setting.side side)

-- the last of a series, or what there was before it
abbrev pub last_accepted : ℕ → List ℕ → List Input → List Done → List ℕ
last_accepted side before [] ds = before
last_accepted side before (i ∷ is) [] = before
last_accepted side before (i ∷ is) (d ∷ ds) = last_accepted side (cond (is_accepted_from side i d) i.octets before) is ds
