-- Document 01: "Between frames each TP1 side remembers the last accepted frame that was received from it, at the start none."
use Rattle.std.specs.Prelude.{ℕ, ◌-◌, ◌*◌, ◌/◌, ◌%◌, List, [], ◌∷◌, Bool, true, false, cond, not, ◌&&◌, length, take, replicate, leb, eqb}
use Rattle.octets.specs.Room.{laid}
use Rattle.tp1.specs.Reading.{meaning_in}
use Rattle.coupler.specs.declared.Remembered.{Remembered}
use Rattle.coupler.specs.declared.Memory.{Memory}

-- the frame that is remembered; no octets, none
unfoldable pub kept : Remembered → ℕ
kept r = cond (leb r.size 263) r.size 0

unfoldable pub recalled : Remembered → List ℕ
recalled r = take (kept r) r.octets

-- "at the start none"
unfoldable pub zeros : List ℕ
zeros = replicate 263 0

abbrev pub no_frame : Remembered
no_frame = record { size = 0; octets = zeros }

abbrev pub no_memory : Memory
no_memory = record { main = no_frame; sub = no_frame }

-- a frame put in the place of the one before
unfoldable pub remembering : Remembered → List ℕ → Remembered
remembering r frame = record { size = length frame; octets = laid frame 0 r.octets }

-- the main side is 0, the sub side 1
abbrev pub side_of : Memory → ℕ → Remembered
side_of m side = cond (eqb side 0) m.main m.sub

unfoldable pub remembered_on : Memory → ℕ → List ℕ → Memory
remembered_on m side frame =
    cond (eqb side 0)
    record { main = remembering m.main frame; sub = m.sub }
    record { main = m.main; sub = remembering m.sub frame }

-- Document 01 as R-2 amends it: "An accepted frame marked repeated is a repetition if" the remembered frame has the same octets: "all octets
-- must agree except the repeat bit and the check octet".

-- a control octet without the repeat bit, which is bit 5
unfoldable pub unmarked : ℕ → ℕ
unmarked control = control - control / 32 % 2 * 32

-- the octets that must agree: the control octet but for the repeat bit, and those behind it but for the check octet, which is the last
abbrev pub compared : List ℕ → List ℕ
compared [] = []
compared (control ∷ behind) = unmarked control ∷ take (length behind - 1) behind

abbrev pub same : List ℕ → List ℕ → Bool
same [] [] = true
same [] (o ∷ os) = false
same (o ∷ os) [] = false
same (o ∷ os) (p ∷ ps) = eqb o p && same os ps

-- they agree, and there are as many of them
unfoldable pub agree : List ℕ → List ℕ → Bool
agree before s = eqb (length before) (length s) && same (compared before) (compared s)

-- the remembered frame, and the octets received
unfoldable pub is_repetition : List ℕ → List ℕ → Bool
is_repetition before s = not (meaning_in s).first && agree before s
