-- The lent blocks of the surface. A coupler's settings: ten octets, own line, four codes main to sub, four codes sub to main, main medium.
-- A coupler's memory: 530 octets, for the main side two octets of size and 263 octets, then the same for the sub side. include/klumdray.h
-- says the same in its words.
use Rattle.std.specs.Prelude.{ℕ, ◌+◌, ◌*◌, ◌%◌, ◌^◌, ◌≡◌, List, [], ◌∷◌, ◌++◌, Bool, cond, ◌&&◌, length, take, drop, eqb}
use Rattle.octets.specs.Octets.{octet_at, weigh}
use Rattle.octets.specs.Word.{high, low, word_at}
use Rattle.octets.specs.Room.{over}
use Rattle.frame.specs.Answers.{refusal_number}
use Rattle.frame.specs.declared.Refusal.TheVariants.{OutOfRange}
use Rattle.coupler.specs.declared.Outcome.{Outcome}
use Rattle.coupler.specs.declared.Remembered.{Remembered}
use Rattle.coupler.specs.declared.Memory.{Memory}
use Rattle.coupler.specs.Memory.{recalled, side_of}
use Rattle.coupler.specs.Setting.{setting_of}
use Rattle.coupler.specs.Step.{Coupler, coupler_by, Heard, nothing, heard, outcome_by, sent_by, memory_after, acknowledgement_number}
use Rattle.coupler.specs.declared.Setting.{Setting}

-- the frame that one side's 265 octets hold
abbrev pub remembered_in : List ℕ → Remembered
remembered_in half = record { size = word_at half 0; octets = take 263 (drop 2 half) }

abbrev pub memory_in : List ℕ → Memory
memory_in block = record { main = remembered_in (take 265 block); sub = remembered_in (drop 265 block) }

abbrev pub half_of : Remembered → List ℕ
half_of r = high r.size ∷ low r.size ∷ r.octets

unfoldable pub block_of : Memory → List ℕ
block_of m = half_of m.main ++ half_of m.sub

-- a block of settings, with the side that a frame is received from
abbrev pub setting_in : List ℕ → ℕ → Setting
setting_in settings side = setting_of (octet_at settings 0) side (octet_at settings 9)

abbrev pub codes_in : List ℕ → List (List ℕ)
codes_in settings =
    (octet_at settings 1 ∷ octet_at settings 2 ∷ octet_at settings 3 ∷ octet_at settings 4 ∷ [])
    ∷ (octet_at settings 5 ∷ octet_at settings 6 ∷ octet_at settings 7 ∷ octet_at settings 8 ∷ [])
    ∷ []

abbrev pub coupler_set : List ℕ → ℕ → List ℕ → Coupler
coupler_set settings side table = coupler_by (setting_in settings side) (codes_in settings) table

-- bits 0 to 7 the number, 8 to 15 the acknowledgement, 16 for itself, 32 to 47 the octets forwarded (no step sends more than 270)
unfoldable pub outcome_number : Outcome → ℕ
outcome_number o = refusal_number o.refusal + acknowledgement_number o.acknowledgement * 2 ^ 8 + weigh o.own 1 * 2 ^ 16 + o.forwarded % 65536 * 2 ^ 32

-- a block of settings by its size
abbrev pub are_settings : List ℕ → Bool
are_settings settings = eqb (length settings) 10

-- settings or a memory of another size are refused by 14, before any other refusal (docs/DECISIONS.md)
abbrev pub lent_right : List ℕ → List ℕ → Bool
lent_right settings block = are_settings settings && eqb (length block) 530

unfoldable pub heard_through : Bool → Coupler → List ℕ → ℕ → Heard
heard_through right k s room = cond right (heard k s room) (nothing OutOfRange)

-- a step through the surface: what the step inside does, its answer as a number and its memory in the block
pub record SteppedThrough (right : Bool) (k : Coupler) (block s room : List ℕ) (answer : ℕ) (block' room' : List ℕ) : Type 0 where
  pub answered : answer ≡ outcome_number (outcome_by k (recalled (side_of (memory_in block) k.setting.side)) s (heard_through right k s (length room)))
  pub left : room' ≡ over (sent_by k (recalled (side_of (memory_in block) k.setting.side)) s (heard_through right k s (length room))) room
  pub memory : block' ≡ cond right (block_of (memory_after k (memory_in block) s (heard_through right k s (length room)))) block
