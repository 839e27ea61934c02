-- Document 01: "For an answer that is an enum, a definition gives this paper's number and values for each of its cases. The promises use
-- this definition." Each enum's stands in `specs/Answers.antt` of its own crate.
use Rattle.std.specs.Prelude.{ℕ, ◌-◌, cond, eqb, get_or, List, [], ◌∷◌, Result, Ok, Err, Option, Some, None}
use Rattle.octets.specs.Octets.{weigh}
use Rattle.frame.specs.Refusals.{number}
use Rattle.frame.specs.declared.Meaning.{Meaning}
use Rattle.frame.specs.declared.Refusal.{Refusal}
use Rattle.frame.specs.declared.Refusal.TheVariants.{TooFew, NotData, OtherFormat, Escape, LeftOver, WrongCheck, OtherCode, InformationEscape, LongStandard, OtherHeader, OtherService, OtherLength, SmallRoom, OutOfRange, WrongSetting, WrongRecord, LineTwice, NoTable, OtherConnection, NotOpen, OtherCounter, Invalid, PastTotal}

-- an answer as its number and its values
pub record Numbered : Type 0 where
  pub number : ℕ
  pub values : List ℕ

-- 0 is "not a refusal"
abbrev pub accepted : List ℕ → Numbered
accepted values = record { number = 0; values = values }

-- "A refusal returns its number and no frame"
abbrev pub refused : Refusal → Numbered
refused r = record { number = number r; values = [] }

-- a refusal or none, as the number of one or 0; and back
abbrev pub refusal_number : Option Refusal → ℕ
refusal_number (Some r) = number r
refusal_number None = 0

-- the refusals in the table's order, and the one that has a number; 22 is no row's, so any stands in its place
abbrev pub rows : List Refusal
rows =
    TooFew
    ∷ NotData
    ∷ OtherFormat
    ∷ Escape
    ∷ LeftOver
    ∷ WrongCheck
    ∷ OtherCode
    ∷ InformationEscape
    ∷ LongStandard
    ∷ OtherHeader
    ∷ OtherService
    ∷ OtherLength
    ∷ SmallRoom
    ∷ OutOfRange
    ∷ WrongSetting
    ∷ WrongRecord
    ∷ LineTwice
    ∷ NoTable
    ∷ OtherConnection
    ∷ NotOpen
    ∷ OtherCounter
    ∷ OtherCounter
    ∷ Invalid
    ∷ PastTotal
    ∷ []

abbrev pub refusal_of : ℕ → Refusal
refusal_of n = get_or rows (n - 1) TooFew

abbrev pub refusal_in : ℕ → Option Refusal
refusal_in n = cond (eqb n 0) None (Some (refusal_of n))

-- "A frame's meaning: format, repeat flag, priority, source, AT, destination, hop count, ..": format 0 standard, 1 extended; the repeat flag
-- as its bit stands
abbrev pub meaning_values : Meaning → List ℕ
meaning_values m =
    weigh m.extended 1
    ∷ weigh m.first 1
    ∷ m.priority
    ∷ m.source
    ∷ weigh m.group 1
    ∷ m.destination
    ∷ m.count
    ∷ []

-- a writer's: how many octets of the room are the frame's
abbrev pub written_numbered : Result ℕ Refusal → Numbered
written_numbered (Ok n) = accepted (n ∷ [])
written_numbered (Err r) = refused r

-- a header, settings, or a site with its stores: nothing is refused, or the first refusal's number
abbrev pub verdict_numbered : Result (Unit {0}) Refusal → Numbered
verdict_numbered (Ok _) = accepted []
verdict_numbered (Err r) = refused r
