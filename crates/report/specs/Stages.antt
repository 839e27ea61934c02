-- Text put into a room piece by piece: for the contracts of private functions. No public contract rests on these definitions.
use Rattle.std.specs.Prelude.{ℕ, ◌+◌, ◌≤◌, ◌≡◌, List, length}
use Rattle.octets.specs.Room.{laid}
use Rattle.report.specs.declared.text.Writer.{Writer}

abbrev pub Fits : List ℕ → ℕ → List ℕ → Type 0
Fits text at room = at + length text ≤ length room

-- text put into a room from an index on, whole, and the index behind it
pub record Puts (text : List ℕ) (at : ℕ) (room : List ℕ) (behind : ℕ) (after : List ℕ) : Type 0 where
  pub fits : Fits text at room
  pub ends : behind ≡ at + length text
  pub put : after ≡ laid text at room

-- the same of a writer's room and index; the room stays the one that was lent
abbrev pub HasPlace : Writer → List ℕ → Type 0
HasPlace w text = Fits text w.at w.room.now

pub record Wrote (w : Writer) (text : List ℕ) (w' : Writer) : Type 0 where
  pub lent : w'.room.ghost_name ≡ w.room.ghost_name
  pub put : Puts text w.at w.room.now w'.at w'.room.now
