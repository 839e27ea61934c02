-- One coupler step: document 01, "The coupler".
use Rattle.std.specs.Prelude.{ℕ, ◌≡◌, List, [], ◌∷◌, ◌++◌, Bool, true, false, cond, not, ◌&&◌, ◌||◌, length, ltb, eqb, Result, Ok, Err, Some, None}
use Rattle.octets.specs.Octets.{weigh}
use Rattle.octets.specs.Room.{over}
use Rattle.frame.specs.declared.Meaning.{Meaning}
use Rattle.frame.specs.declared.Refusal.{Refusal}
use Rattle.frame.specs.declared.Refusal.TheVariants.{WrongSetting, NoTable, OutOfRange, SmallRoom}
use Rattle.frame.specs.Order.{Test, ◌gives◌, first_of}
use Rattle.tp1.specs.Layout.{tp1_octets}
use Rattle.tp1.specs.Reading.{tp1_tests, read_tp1, payload_in}
use Rattle.cemi.specs.declared.Message.{Message}
use Rattle.routing.specs.Layout.{routing_octets}
use Rattle.routing.specs.Reading.{routing_tests, read_routing, routed_payload}
use Rattle.coupler.specs.declared.Coupler.{Coupler as Lent}
use Rattle.coupler.specs.declared.Acknowledgement.{Acknowledgement}
use Rattle.coupler.specs.declared.Acknowledgement.TheVariants.{Silence, Acknowledged}
use Rattle.coupler.specs.declared.Outcome.{Outcome}
use Rattle.coupler.specs.declared.Memory.{Memory}
use Rattle.coupler.specs.declared.Setting.{Setting}
use Rattle.coupler.specs.Setting.{hopped_by}
use Rattle.coupler.specs.Memory.{recalled, side_of, remembered_on, is_repetition}
use Rattle.passing.specs.Settings.{are_codes, table_fits}
use Rattle.passing.specs.Passing.{is_own, may_pass}

-- a coupler: its numbers, its codes, its filter table
pub record Coupler : Type 0 where
  pub setting : Setting
  pub codes : List (List ℕ)
  pub table : List ℕ

abbrev pub coupler_by : Setting → List (List ℕ) → List ℕ → Coupler
coupler_by setting codes table = record { setting = setting; codes = codes; table = table }

-- the coupler that a call is lent
abbrev pub coupler_in : Lent → Coupler
coupler_in k = coupler_by k.setting k.codes k.table.now

-- "Order: 15, 18 (table length not 8,192, or 0 allowed if no group code is 1), 14 (receiving side 0 main, 1 sub; main medium 0 TP1, 1 IP),
-- 13 (room below 272), then the reader's."
abbrev pub setting_tests : Coupler → ℕ → List Test
setting_tests k room =
    (eqb k.setting.line 0 || not (are_codes k.codes)) gives WrongSetting
    ∷ not (table_fits k.codes (length k.table)) gives NoTable
    ∷ not (ltb k.setting.side 2 && ltb k.setting.medium 2) gives OutOfRange
    ∷ ltb room 272 gives SmallRoom
    ∷ []

-- "The main side is TP1 or IP; the sub side is TP1."
abbrev pub from_ip : Coupler → Bool
from_ip k = eqb k.setting.side 0 && eqb k.setting.medium 1

abbrev pub to_ip : Coupler → Bool
to_ip k = eqb k.setting.side 1 && eqb k.setting.medium 1

-- what a frame says, whichever medium it came by
pub data Heard : Type 0 where
  frame : Meaning → List ℕ → Heard
  nothing : Refusal → Heard

abbrev pub heard_tp1 : Result Meaning Refusal → List ℕ → Heard
heard_tp1 (Ok m) s = frame m (payload_in (Ok m) s)
heard_tp1 (Err r) s = nothing r

abbrev pub heard_ip : Result Message Refusal → List ℕ → Heard
heard_ip (Ok x) s = frame x.meaning (routed_payload (Ok x) s)
heard_ip (Err r) s = nothing r

abbrev pub read_by : Bool → List ℕ → Heard
read_by true s = heard_ip (read_routing s) s
read_by false s = heard_tp1 (read_tp1 s) s

-- the reader's order, whichever medium octets came by
abbrev pub reader_tests : Bool → List ℕ → List Test
reader_tests true s = routing_tests s
reader_tests false s = tp1_tests s

-- the whole order of a step: the settings' tests, "then the reader's"
abbrev pub step_tests : Coupler → List ℕ → ℕ → List Test
step_tests k s room = setting_tests k room ++ reader_tests (from_ip k) s

-- the settings' refusals, "then the reader's"
abbrev pub after : Result (Unit {0}) Refusal → Heard → Heard
after (Ok _) h = h
after (Err r) h = nothing r

unfoldable pub heard : Coupler → List ℕ → ℕ → Heard
heard k s room = after (first_of (setting_tests k room)) (read_by (from_ip k) s)

-- the kind of a frame's destination: "AT 1 means a group address"
abbrev pub kind_of : Meaning → ℕ
kind_of m = weigh m.group 1

-- the frame is for the coupler itself
abbrev pub is_for_itself : Coupler → Meaning → Bool
is_for_itself k m = is_own k.setting.line (kind_of m) m.destination

-- address and codes let the frame pass, in the direction of travel: from the main side 0 main to sub, from the sub side 1 sub to main
abbrev pub is_let_through : Coupler → Meaning → Bool
is_let_through k m = may_pass k.setting.line k.codes k.table k.setting.side (kind_of m) m.destination

-- address, codes and count allow forwarding: "Count 0 is never forwarded."
abbrev pub is_allowed : Coupler → Meaning → Bool
is_allowed k m = is_let_through k m && not (eqb m.count 0)

-- octets received are a repetition of the frame that their side remembers: "IP has neither memory nor acknowledgement"
abbrev pub repeats : Coupler → List ℕ → List ℕ → Bool
repeats k remembered s = not (from_ip k) && is_repetition remembered s

-- "A repetition isn't forwarded."
abbrev pub is_forwarded : Coupler → Bool → Meaning → Bool
is_forwarded k repetition m = is_allowed k m && not repetition

-- "A TP1 frame gets CCh exactly if it is for the coupler itself or, repetition or not, its address, codes and count allow forwarding"
unfoldable pub acknowledgement_by : Bool → Bool → Bool → Acknowledgement
acknowledgement_by ip own allowed = cond (not ip && (own || allowed)) Acknowledged Silence

-- as a number: CCh, or 0 for none
abbrev pub acknowledgement_number : Acknowledgement → ℕ
acknowledgement_number Silence = 0
acknowledgement_number Acknowledged = 0xCC

abbrev pub acknowledgement_of : Coupler → Meaning → Acknowledgement
acknowledgement_of k m = acknowledgement_by (from_ip k) (is_for_itself k m) (is_allowed k m)

-- "A forwarded frame keeps format, priority, addresses and payload; its repeat flag says first sending; its count follows the rule"
abbrev pub forwarded_meaning : Setting → Meaning → Meaning
forwarded_meaning k m = record {
  extended = m.extended;
  first = true;
  priority = m.priority;
  source = m.source;
  group = m.group;
  destination = m.destination;
  count = hopped_by k m.count;
}

-- "on IP it is a plain indication in a routing datagram"
abbrev pub indication : Meaning → Message
indication m = record { code = 0x29; error = false; meaning = m }

unfoldable pub form_of : Bool → Setting → Meaning → List ℕ → List ℕ
form_of ip k m p = cond ip (routing_octets (indication (forwarded_meaning k m)) p) (tp1_octets (forwarded_meaning k m) p)

abbrev pub forwarded_octets : Coupler → Meaning → List ℕ → List ℕ
forwarded_octets k m p = form_of (to_ip k) k.setting m p

-- "octets forwarded (0 if none)"
abbrev pub sent_of : Coupler → Bool → Meaning → List ℕ → List ℕ
sent_of k repetition m p = cond (is_forwarded k repetition m) (forwarded_octets k m p) []

-- "The step's result: number, acknowledgement or none, for itself or not, octets forwarded (0 if none)."
abbrev pub accepted_outcome : Coupler → Bool → Meaning → List ℕ → Outcome
accepted_outcome k repetition m p = record {
  refusal = None;
  acknowledgement = acknowledgement_of k m;
  own = is_for_itself k m;
  forwarded = length (sent_of k repetition m p);
}

-- "On a refusal: its number, none, not, 0.", whatever octets were received
abbrev pub refused_outcome : Coupler → List ℕ → Refusal → Outcome
refused_outcome k s r = record { refusal = Some r; acknowledgement = Silence; own = false; forwarded = 0 }

-- the outcome and the octets sent, of octets received as which this was heard
abbrev pub outcome_by : Coupler → List ℕ → List ℕ → Heard → Outcome
outcome_by k remembered s (frame m p) = accepted_outcome k (repeats k remembered s) m p
outcome_by k remembered s (nothing r) = refused_outcome k s r

abbrev pub sent_by : Coupler → List ℕ → List ℕ → Heard → List ℕ
sent_by k remembered s (frame m p) = sent_of k (repeats k remembered s) m p
sent_by k remembered s (nothing r) = []

-- coupler, remembered frame, octets received, octets of room
abbrev pub outcome_of : Coupler → List ℕ → List ℕ → ℕ → Outcome
outcome_of k remembered s room = outcome_by k remembered s (heard k s room)

abbrev pub sent : Coupler → List ℕ → List ℕ → ℕ → List ℕ
sent k remembered s room = sent_by k remembered s (heard k s room)

-- "Forwarded octets are the first of the lent room; those behind them stay."
pub record HandedOn (k : Coupler) (remembered s room : List ℕ) (o : Outcome) (room' : List ℕ) : Type 0 where
  pub outcome : o ≡ outcome_of k remembered s (length room)
  pub left : room' ≡ over (sent k remembered s (length room)) room

-- "Afterwards the accepted frame is the remembered one."; "IP has neither memory nor acknowledgement"; on a refusal "nothing remembered changes"
abbrev pub memory_after : Coupler → Memory → List ℕ → Heard → Memory
memory_after k m s (frame x p) = cond (from_ip k) m (remembered_on m k.setting.side s)
memory_after k m s (nothing r) = m

-- the whole step: outcome, memory and room
pub record Did (k : Coupler) (m : Memory) (s room : List ℕ) (o : Outcome) (m' : Memory) (room' : List ℕ) : Type 0 where
  pub handed : HandedOn k (recalled (side_of m k.setting.side)) s room o room'
  pub memory : m' ≡ memory_after k m s (heard k s (length room))
