-- The C surface. Each sentence of include/klumdray.h about a number that a call answers, a part of the caller's octets, the list in a room or
-- the memory in a block, as a theorem of every answer that the call's contract allows. A decoder is what the header's helpers work out
-- (klumdray Decoding, specs). Premises are what the parameters' types give: octets are below 256. Given has what becomes
-- of numbers outside their ranges.
use Rattle.std.specs.Prelude.{Result, Ok, Err, None}
use Prim.Native.Nat.{ℕ, ◌+◌, ◌≤◌, ◌<◌}
use mathlib.Core.Bool.{Bool, true, false, cond, ◌&&◌}
use mathlib.Core.List.{List, [], ◌∷◌}
use mathlib.Core.Logic.{◌↔◌}
use mathlib.Core.Path.{◌≡◌, refl, sym, ap, ◌∙◌}
use native.Mathlib.Omega.{arith}
use lib.Dec.{ltb}
use lib.ListN.{length, take, drop}
use borrow.Author.Tests.{eqb-false, not-false}
use Rattle.cemi.proofs.LayoutLaws.{length-plain}
use Rattle.cemi.specs.Answers.{cemi_numbered}
use Rattle.cemi.specs.Layout.{plain}
use Rattle.cemi.specs.Reading.{read_cemi, information_in, information_at}
use Rattle.cemi.specs.Writing.{message_in_range}
use Rattle.cemi.specs.declared.Codes.TheVariants.{All, IndicationOnly}
use Rattle.cemi.specs.declared.Message.{Message}
use Rattle.coupler.specs.Memory.{recalled, side_of}
use Rattle.coupler.specs.Step.{Coupler, Heard, Did, outcome_by, from_ip, nothing}
use Rattle.coupler.specs.declared.Memory.{Memory}
use Rattle.coupler.specs.declared.Outcome.{Outcome}
use Rattle.frame.proofs.Numbers.{number-listed, number-not-22}
use Rattle.frame.proofs.Order.{passed-iff}
use Rattle.frame.specs.Answers.{Numbered, written_numbered}
use Rattle.frame.specs.Order.{first_of}
use Rattle.frame.specs.Refusals.{number, last_number}
use Rattle.frame.specs.Valid.{in_range}
use Rattle.frame.specs.Writing.{written}
use Rattle.frame.specs.declared.Meaning.{Meaning}
use Rattle.frame.specs.declared.Refusal.{Refusal}
use Rattle.klumdray.proofs.BlockLaws.{right-block}
use Rattle.klumdray.proofs.ListInRoom.{trace-list}
use Rattle.klumdray.proofs.Parts.{tp1-payload, cemi-parts, routing-parts}
use Rattle.klumdray.proofs.ReaderNumbers.{tp1-tells, cemi-tells, routing-tells}
use Rattle.klumdray.proofs.Remembered.{remembered-is, remembered-within, step-remembers, step-recalls, step-leaves, step-from-ip}
use Rattle.klumdray.proofs.StepNumbers.{step-told, step-between, step-most}
use Rattle.klumdray.proofs.Surface.{trace-inside, why-inside, why-unfit}
use Rattle.klumdray.proofs.Telling.{tells-one}
use Rattle.klumdray.proofs.TracerNumbers.{trace-told, trace-counted, trace-lines, trace-leaves, why-told, why-reached}
use Rattle.klumdray.proofs.WriterNumbers.{written-told, written-size, written-leaves, tp1-most, cemi-most, routing-most}
use Rattle.klumdray.specs.Block.{memory_in, lent_right, heard_through, SteppedThrough}
use Rattle.klumdray.specs.Decoding.{bits, number_in, written_in, payload_length_in, forwarded_in, lines_in, forwardings_in, tp1_from, cemi_from, written_from, explanation_from, outcome_numbered, outcome_from, traced_numbered, traced_from, Tells, TellsParts, TellsReading, tp1_payload_start, cemi_information_start, cemi_information_length, routing_information_start, routing_information_length, LiesAt, MessageParts, remembered_part, remembered_size, remembered_start, ListReads}
use Rattle.klumdray.specs.Numbers.{tp1_answered, cemi_answered, routing_answered, WroteNumber, WroteTp1, WroteCemi, WroteRouting}
use Rattle.klumdray.specs.Traces.{explanation_number, query_fits, trace_through_tests, TracedThrough, why_through}
use Rattle.octets.proofs.Truth.{by_cases}
use Rattle.octets.specs.Octets.{Octets}
use Rattle.octets.specs.Room.{laid, over}
use Rattle.octets.specs.Word.{high, low}
use Rattle.routing.proofs.LayoutLaws.{length-routing}
use Rattle.routing.specs.Layout.{routing_octets}
use Rattle.routing.specs.Reading.{read_routing, routed_payload, routed_payload_at, routed_information, routed_information_at}
use Rattle.site.specs.Stores.{Stores}
use Rattle.tp1.proofs.LayoutLaws.{length-octets}
use Rattle.tp1.specs.Answers.{tp1_numbered}
use Rattle.tp1.specs.Layout.{head_of, tp1_octets}
use Rattle.tp1.specs.Reading.{read_tp1, payload_in, payload_at}
use Rattle.tracer.specs.Answers.{explanation_numbered}
use Rattle.tracer.specs.Listing.{crossing_passes}
use Rattle.tracer.specs.declared.Query.{Query}
use Rattle.tracer.specs.Tracing.{trace_tests, traced_by, list_by, DidTrace}
use Rattle.tracer.specs.Why.{answer_why}
use Rattle.cemi.specs.Reading.{payload_in as cemi_payload, payload_at as cemi_payload_at}
use Rattle.klumdray.proofs.StepNumbers.{at-most-270 as forwarded-most}

-- "Every answer but that of klumdray_check_octet .. carries a number": with a refusal one of the table's
pub refusals-listed : (r : Refusal) → (1 ≤ number r) × ((number r ≤ last_number) × (number r ≡ 22 → ⊥))
refusals-listed r = ((number-listed r).0, ((number-listed r).1, number-not-22 r))

-- "A reader's answer is one number of 64 bits. With a refusal every bit above 7 is 0."
module _ (s : List ℕ) (o : Octets s) where
  pub tp1-read-back : TellsReading 56 tp1_from (tp1_answered s) (tp1_numbered (read_tp1 s)) (λ r. read_tp1 s ≡ Err r) (payload_in (read_tp1 s) s)
  tp1-read-back = tp1-tells s o

  pub cemi-read-back : TellsReading 59 cemi_from (cemi_answered s) (cemi_numbered (read_cemi All s)) (λ r. read_cemi All s ≡ Err r) (cemi_payload (read_cemi All s) s)
  cemi-read-back = cemi-tells s o

  pub routing-read-back : TellsReading 59 cemi_from (routing_answered s) (cemi_numbered (read_routing s)) (λ r. read_routing s ≡ Err r) (routed_payload (read_routing s) s)
  routing-read-back = routing-tells s o

  -- "The payload is a part of the caller's octets, not copied, and so is cEMI's additional information: the helpers at the end of this file
  -- say where each begins and how long it is": of accepted octets, just where the inner calls' parts lie
  pub tp1-payload-lies : number_in (tp1_answered s) ≡ 0 → LiesAt s (tp1_payload_start (tp1_answered s)) (payload_length_in (tp1_answered s)) (payload_at (read_tp1 s) s) (payload_in (read_tp1 s) s)
  tp1-payload-lies = tp1-payload s o

  pub cemi-parts-lie : number_in (cemi_answered s) ≡ 0
      → MessageParts s (cemi_answered s) cemi_information_start (cemi_information_length (cemi_answered s) (length s)) (information_at (read_cemi All s) s) (information_in (read_cemi All s) s) (cemi_payload_at (read_cemi All s) s) (cemi_payload (read_cemi All s) s)
  cemi-parts-lie = cemi-parts s o

  pub routing-parts-lie : number_in (routing_answered s) ≡ 0
      → MessageParts s (routing_answered s) routing_information_start (routing_information_length (routing_answered s) (length s)) (routed_information_at (read_routing s) s) (routed_information (read_routing s) s) (routed_payload_at (read_routing s) s) (routed_payload (read_routing s) s)
  routing-parts-lie = routing-parts s o

-- "A writer's answer: bits 0 to 7 the number, bits 8 to 63 the octets written, 0 with a refusal." What is written is all of the frame, whose
-- size is the one that the header gives; a refused call has written nothing
pub record WritesBack (ranged : Bool) (octets room : List ℕ) (size : ℕ) (answer : ℕ) (after : List ℕ) : Type 0 where
  pub told : Tells 64 written_from answer (written_numbered (written ranged octets room)) (λ r. written ranged octets room ≡ Err r)
  pub whole : number_in answer ≡ 0 → written_in answer ≡ size
  pub stays : (number_in answer ≡ 0 → ⊥) → after ≡ room

-- no frame that is written is longer than a request with 255 octets of payload
pub writes-back : {ranged : Bool} {octets room : List ℕ} {size answer : ℕ} {after : List ℕ} → (ranged ≡ true → length octets ≤ 274) → length octets ≡ size → WroteNumber ranged octets room answer after
    → WritesBack ranged octets room size answer after
writes-back most e w = record { told = written-told most w; whole = λ z. written-size most w z ∙ e; stays = written-leaves most w }

-- "payload length + 7 standard, + 8 extended"
pub tp1-write-back : (fit : Bool) (m : Meaning) (p room : List ℕ) (answer : ℕ) (after : List ℕ) → WroteTp1 fit m p room answer after
    → WritesBack (fit && in_range m (length p)) (tp1_octets m p) room (length p + cond m.extended 8 7) answer after
tp1-write-back fit m p room answer after = writes-back (tp1-most fit m p) (length-octets m p ∙ go m.extended)
  where
    go : (b : Bool) → head_of b + length p + 1 ≡ length p + cond b 8 7
    go true = omega arith
    go false = omega arith

-- "payload length + 9"
pub cemi-write-back : (fit : Bool) (x : Message) (p room : List ℕ) (answer : ℕ) (after : List ℕ) → WroteCemi fit x p room answer after
    → WritesBack (fit && message_in_range All x (length p)) (plain x p) room (length p + 9) answer after
cemi-write-back fit x p room answer after = writes-back (cemi-most fit All x p) (length-plain x p ∙ omega arith)

-- "payload length + 15"
pub routing-write-back : (fit : Bool) (x : Message) (p room : List ℕ) (answer : ℕ) (after : List ℕ) → WroteRouting fit x p room answer after
    → WritesBack (fit && message_in_range IndicationOnly x (length p)) (routing_octets x p) room (length p + 15) answer after
routing-write-back fit x p room answer after = writes-back (routing-most fit IndicationOnly x p) (length-routing x p ∙ omega arith)

-- "octets forwarded, the first of the room, at most 270": of every step ..
pub at-most-270 : (k : Coupler) (m m' : Memory) (s room room' : List ℕ) (outcome : Outcome) → Octets s → Did k m s room outcome m' room' → outcome.forwarded ≤ 270
at-most-270 k m m' s room room' outcome o d = rw d.handed.outcome (forwarded-most k (recalled (side_of m k.setting.side)) s (length room) o)

-- .. and through the surface. "A step's answer has four parts and says all four whatever the number is: each is read from its own bits, of a
-- refused step too."
module _ (settings : List ℕ) (k : Coupler) (block s room : List ℕ) (answer : ℕ) (block' room' : List ℕ) (o : Octets s) (w : SteppedThrough (lent_right settings block) k block s room answer block' room') where
  abbrev hears : Heard
  hears = heard_through (lent_right settings block) k s (length room)

  pub step_back : TellsParts 64 outcome_from answer (outcome_numbered (outcome_by k (recalled (side_of (memory_in block) k.setting.side)) s hears)) (λ r. hears ≡ nothing r)
  step_back = step-told o w

  -- "bits 17 to 31  0"
  pub step-bits-between : bits 17 15 answer ≡ 0
  step-bits-between = step-between o w

  pub step-at-most-270 : forwarded_in answer ≤ 270
  step-at-most-270 = step-most o w

  lent : lent_right settings block ≡ true → length block ≡ 530
  lent = right-block settings block

  -- "After a TP1 frame that is not refused, the receiving side's size is the frame's and its octets are the frame; those behind the frame and
  -- the other side's stay."
  pub step-remembers-frame : Octets block → number_in answer ≡ 0 → from_ip k ≡ false
      → block' ≡ laid s (remembered_start k.setting.side) (laid (high (length s) ∷ low (length s) ∷ []) (remembered_part k.setting.side) block)
  step-remembers-frame = step-remembers lent o w

  -- "A size above 263 counts as none. No step leaves one, nor a size from 1 to 7"; what the helpers read is the frame
  pub step-recalls-frame : number_in answer ≡ 0 → from_ip k ≡ false
      → (8 ≤ length s) × ((remembered_size block' k.setting.side ≡ length s) × (take (remembered_size block' k.setting.side) (drop (remembered_start k.setting.side) block') ≡ s))
  step-recalls-frame = step-recalls lent o w

  -- "After a frame from IP, and after a refusal, the whole block is as it was."; "A refused step leaves room and memory as they were."
  pub step-from-ip-stays : Octets block → from_ip k ≡ true → block' ≡ block
  step-from-ip-stays = step-from-ip lent o w

  pub step-refused-stays : Octets block → (number_in answer ≡ 0 → ⊥) → (block' ≡ block) × (room' ≡ room)
  step-refused-stays = step-leaves lent o w

-- what the helpers read in a block of 530 octets is what the step inside recalls of a side
pub remembered-read : (block : List ℕ) (side : ℕ) → length block ≡ 530 → side < 2
    → (remembered_start side + remembered_size block side ≤ 530) × (take (remembered_size block side) (drop (remembered_start side) block) ≡ recalled (side_of (memory_in block) side))
remembered-read block side n h = (remembered-within block side n h, remembered-is block side n h)

-- "A trace's answer. With a refusal every bit above 7 is 0."
module _ (st : Stores) (site : List ℕ) (q : Query) (room : List ℕ) (answer : ℕ) (room' : List ℕ) (w : TracedThrough st site q room answer room') where
  abbrev verdict : Result (Unit {0}) Refusal
  verdict = first_of (trace_through_tests st site q (length room))

  pub trace-back : Tells 40 traced_from answer (traced_numbered (traced_by st site q verdict)) (λ r. verdict ≡ Err r)
  trace-back = trace-told st site q w

  -- a trace that is not refused is the trace inside, of the numbers as they are given
  pub trace-is-inside : number_in answer ≡ 0 → DidTrace st site q room (Ok (record { lines = lines_in answer; forwardings = forwardings_in answer })) room'
  trace-is-inside z = go verdict refl
    where
      go : (v : Result (Unit {0}) Refusal) → verdict ≡ v → DidTrace st site q room (Ok (record { lines = lines_in answer; forwardings = forwardings_in answer })) room'
      go (Ok _) e =
          let fits : query_fits q ≡ true = not-false (query_fits q) ((passed-iff (trace_through_tests st site q (length room))).0 e).0 in
          let inside : Ok tt ≡ first_of (trace_tests st site q (length room)) = sym (trace-inside st site q (length room) fits ∙ e) in
          let n = trace-counted st site q w e in
          record {
            answered = rw (n.0, n.1) (ap (traced_by st site q) inside);
            left = w.left ∙ ap (λ (v : Result (Unit {0}) Refusal). over (list_by st site q v) room) (e ∙ inside);
          }
      go (Err r) e = absurd (trace-back.accepted.0 z r e)

  -- "how many lines are listed, 1 to 256"; "the forwardings made on the site: the lines listed less one"
  pub one-to-256-lines : number_in answer ≡ 0 → (1 ≤ lines_in answer) × ((lines_in answer ≤ 256) × (forwardings_in answer + 1 ≡ lines_in answer))
  one-to-256-lines = trace-lines st site q w

  -- "The list is the first octets of the room, three for each listed line, in rising order of the lines"
  pub list_read : number_in answer ≡ 0 → ListReads (crossing_passes st site q) q answer room'
  list_read = trace-list st site q w

  pub trace-refused-stays : (number_in answer ≡ 0 → ⊥) → room' ≡ room
  trace-refused-stays = trace-leaves st site q w

-- "A why's answer is one number of 32 bits. With a refusal, and where the line is reached, every other bit is 0."
module _ (st : Stores) (site : List ℕ) (q : Query) (line : ℕ) where
  pub why-back : Tells 25 explanation_from (explanation_number (why_through st site q line)) (explanation_numbered (why_through st site q line)) (λ r. why_through st site q line ≡ Err r)
  why-back = why-told st site q line

  pub reached-is-zero : explanation_number (why_through st site q line) ≡ 0 ↔ (why_through st site q line ≡ Ok None)
  reached-is-zero = why-reached st site q line

  -- an explanation that is not refused is the one inside, of the numbers as they are given
  pub why-is-inside : number_in (explanation_number (why_through st site q line)) ≡ 0 → why_through st site q line ≡ answer_why st site q line
  why-is-inside z = by_cases (query_fits q && ltb line 256) (λ f. sym (why-inside st site q line f)) (λ f. absurd (eqb-false 14 0 refl (ap number_in (why-unfit st site q line f) ∙ z)))

-- two different answers never give the same number
pub answers-apart : {v w : ℕ} {from : ℕ → Numbered} {a b : ℕ} {i j : Numbered} {P Q : Refusal → Type 0} → Tells v from a i P → Tells w from b j Q → a ≡ b → i ≡ j
answers-apart = tells-one

pub step-answers-apart : {v w : ℕ} {from : ℕ → Numbered} {a b : ℕ} {i j : Numbered} {P Q : Refusal → Type 0} → TellsParts v from a i P → TellsParts w from b j Q → a ≡ b → i ≡ j
step-answers-apart {from = from} x y e = sym x.decoded ∙ ap from e ∙ y.decoded
