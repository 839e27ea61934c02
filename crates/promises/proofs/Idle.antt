-- Document 01: "These idle programs have to be shut out". A program is any function that meets the contract of its call; each theorem shows
-- that none of the kind named does, from the case or the demand that the paper names beside it.
use Rattle.std.specs.Prelude.{Result, Ok}
use Rattle.frame.proofs.Apart.{ok-one}
use Prim.Native.Nat.{ℕ, zero, suc, ◌-◌, ◌≤◌, ◌<◌}
use mathlib.Core.Bool.{true, false}
use mathlib.Core.List.{List, [], ◌∷◌}
use mathlib.Core.Path.{◌≡◌, refl, sym, ap, ◌∙◌, subst}
use native.Mathlib.Omega.{arith}
use lib.ListN.{length, take, replicate, length-replicate}
use borrow.Author.Tests.{le-ltb}
use Rattle.coupler.specs.Memory.{kept, recalled, no_memory, side_of}
use Rattle.coupler.specs.Series.{Input, Done, Follows}
use Rattle.coupler.specs.Setting.{setting_of}
use Rattle.coupler.specs.Step.{Coupler, coupler_by, Heard, frame, nothing, heard, sent, memory_after, Did}
use Rattle.coupler.specs.declared.Memory.{Memory}
use Rattle.coupler.specs.declared.Outcome.{Outcome}
use Rattle.frame.proofs.Writing.{put-iff, wrote-over}
use Rattle.frame.specs.Answers.{Numbered, written_numbered}
use Rattle.frame.specs.Fields.{control_of, ctrle_of}
use Rattle.frame.proofs.Order.{passed-iff}
use Rattle.frame.specs.Order.{first_of, NoneOf}
use Rattle.frame.specs.Valid.{in_range}
use Rattle.frame.specs.Writing.{Wrote}
use Rattle.frame.specs.declared.Meaning.{Meaning}
use Rattle.journey.proofs.Handing.{sent-size}
use Rattle.octets.specs.Octets.{octet_at}
use Rattle.octets.specs.Room.{over}
use Rattle.site.specs.Stores.{Stores, stores}
use Rattle.site.specs.WellFormed.{site_tests}
use Rattle.tp1.specs.Answers.{tp1_numbered}
use Rattle.octets.specs.Check.{check_octet}
use Rattle.tp1.specs.Layout.{head, sealed, tp1_octets}
use Rattle.tp1.specs.Reading.{read_tp1}
use Rattle.tracer.proofs.Standing.{stands-iff}
use Rattle.tracer.specs.Lines.{path, distance}
use Rattle.tracer.specs.Query.{query_of, is_query}
use Rattle.tracer.specs.Listing.{StandsIn, listed, lines_listed}
use Rattle.tracer.specs.declared.Query.{Query}
use Rattle.tracer.specs.Tracing.{trace_tests, traced_by, list_by, DidTrace}
use Rattle.tracer.specs.declared.Traced.{Traced}
use Rattle.promises.specs.Telegrams.{Case, ◌hears◌and◌, Does, sends, refuses, Holds, Every, P1, P2, P7, P8, P10, P12a, cases, from_ip_open, broadcast_open, closed_row, four_couplers}
use Rattle.promises.proofs.Demand3.{lists-exactly}
use Rattle.promises.proofs.Telegrams.{every}
use Rattle.frame.specs.declared.Refusal.{Refusal}

-- the case at a place of the list

abbrev HoldsAt : ℕ → List Case → Type 0
HoldsAt n [] = Unit {0}
HoldsAt zero (c ∷ cs) = Holds c
HoldsAt (suc n) (c ∷ cs) = HoldsAt n cs

holds_at : (n : ℕ) (cs : List Case) → Every cs → HoldsAt n cs
holds_at n [] e = tt
holds_at zero (c ∷ cs) e = e.0
holds_at (suc n) (c ∷ cs) e = holds_at n cs e.1

p1 : Holds P1
p1 = holds_at 0 cases every

p2 : Holds P2
p2 = holds_at 1 cases every

p7 : Holds P7
p7 = holds_at 6 cases every

p8 : Holds P8
p8 = holds_at 7 cases every

p10 : Holds P10
p10 = holds_at 9 cases every

p12 : Holds P12a
p12 = holds_at 12 cases every

-- "a reader that refuses all, and one that returns one fixed frame (demand 2, P1, P2)"

abbrev telegram : ℕ → List ℕ
telegram check = 0xBC ∷ 0x00 ∷ 0x00 ∷ 0x12 ∷ 0x34 ∷ 0xB4 ∷ 0x00 ∷ 0x80 ∷ 0x56 ∷ 0x78 ∷ 0x9A ∷ check ∷ []

module _ (read : List ℕ → Result Meaning Refusal) (meets : (s : List ℕ) → read s ≡ read_tp1 s) where
  pub refuses-all : ((s : List ℕ) → (tp1_numbered (read s)).number ≡ 0 → ⊥) → ⊥
  refuses-all h = h (telegram 0xE5) (ap (λ (a : Result Meaning Refusal). (tp1_numbered a).number) (meets (telegram 0xE5)) ∙ ap (λ (n : Numbered). n.number) p1.0)

  pub returns-one-fixed-frame : (fixed : Numbered) → ((s : List ℕ) → tp1_numbered (read s) ≡ fixed) → ⊥
  returns-one-fixed-frame fixed h =
      let one : fixed.number ≡ 0 = ap (λ (n : Numbered). n.number) (sym (h (telegram 0xE5)) ∙ ap tp1_numbered (meets (telegram 0xE5)) ∙ p1.0) in
      let other : fixed.number ≡ 6 = ap (λ (n : Numbered). n.number) (sym (h (telegram 0xE4)) ∙ ap tp1_numbered (meets (telegram 0xE4)) ∙ p2.0) in
      omega arith

-- "a coupler that forwards nothing or copies octets unchanged (demand 2, P10)"

abbrev sent_in : Does → List ℕ
sent_in (sends acknowledgement octets) = octets
sent_in (refuses number) = []

recalls-none : recalled (side_of no_memory 0) ≡ []
unfolding recalled kept
recalls-none = refl

-- a room of 272
unfoldable lent : List ℕ
lent = replicate 272 0

lent-size : length lent ≡ 272
unfolding lent
lent-size = length-replicate {A = ℕ} 272 0

-- what a step that meets the contract does in a case of the list: it forwards just the octets that the case has
record Forwards (octets : List ℕ) (d : Done) : Type 0 where
  size : d.outcome.forwarded ≡ length octets
  front : d.room ≡ over octets lent

forwards : (k : Coupler) (s : List ℕ) (does : Does) → k.setting.side ≡ 0 → Holds (k hears s and does) → (d : Done) → Did k no_memory s lent d.outcome d.memory d.room → Forwards (sent_in does) d
forwards k s does e h d w =
    let none : recalled (side_of no_memory k.setting.side) ≡ [] = ap (λ (n : ℕ). recalled (side_of no_memory n)) e ∙ recalls-none in
    let is : sent k (recalled (side_of no_memory k.setting.side)) s (length lent) ≡ sent_in does =
    ap (λ (l : List ℕ). sent k l s (length lent)) none ∙ ap (λ (n : ℕ). sent k [] s n) lent-size ∙ ap sent_in h.1 in
    record {
      size = ap (λ (o : Outcome). o.forwarded) w.handed.outcome ∙ sent-size k _ s (heard k s (length lent)) ∙ ap length is;
      front = w.handed.left ∙ ap (λ (l : List ℕ). over l lent) is;
    }

abbrev coupler_p10 : Coupler
coupler_p10 = coupler_by (setting_of 0xFF 0 0) (broadcast_open ∷ closed_row ∷ []) []

abbrev heard_p10 : List ℕ
heard_p10 = 0xB0 ∷ 0xAF ∷ 0xFE ∷ 0x00 ∷ 0x00 ∷ 0xE1 ∷ 0x01 ∷ 0x00 ∷ 0xFE ∷ []

abbrev sent_p10 : List ℕ
sent_p10 = 0xB0 ∷ 0xAF ∷ 0xFE ∷ 0x00 ∷ 0x00 ∷ 0xD1 ∷ 0x01 ∷ 0x00 ∷ 0xCE ∷ []

module _ (step : Coupler → Memory → List ℕ → List ℕ → Done)
    (meets : (k : Coupler) (m : Memory) (s room : List ℕ) → Did k m s room (step k m s room).outcome (step k m s room).memory (step k m s room).room)
  where
    does-p10 : Forwards sent_p10 (step coupler_p10 no_memory heard_p10 lent)
    does-p10 = forwards coupler_p10 heard_p10 (sends 0xCC sent_p10) refl p10 (step coupler_p10 no_memory heard_p10 lent) (meets coupler_p10 no_memory heard_p10 lent)

    pub forwards-nothing : ((k : Coupler) (m : Memory) (s room : List ℕ) → (step k m s room).outcome.forwarded ≡ 0) → ⊥
    forwards-nothing h = omega (arith, h coupler_p10 no_memory heard_p10 lent, does-p10.size)

    -- what it forwards are the octets that came
    pub copies-octets-unchanged : ((k : Coupler) (m : Memory) (s room : List ℕ) → ((step k m s room).outcome.forwarded ≡ 0 → ⊥)
        → take (step k m s room).outcome.forwarded (step k m s room).room ≡ s) → ⊥
    copies-octets-unchanged h =
        let same : take (step coupler_p10 no_memory heard_p10 lent).outcome.forwarded (step coupler_p10 no_memory heard_p10 lent).room ≡ heard_p10 =
        h coupler_p10 no_memory heard_p10 lent (λ z. omega (arith, z, does-p10.size)) in
        let front : take 9 (over sent_p10 lent) ≡ heard_p10 = sym (λ j. take (does-p10.size j) (does-p10.front j)) ∙ same in
        omega (arith, ap (λ (l : List ℕ). octet_at l 5) front)

-- "one that decides on its first frame and repeats that answer later (demand 2 for each step, with the remembered frame)": a series of steps, each
-- given the memory that the one before it left

abbrev pub AllLike : Outcome → List Done → Type 0
AllLike o [] = Unit {0}
AllLike o (d ∷ ds) = (d.outcome ≡ o) × AllLike o ds

abbrev heard_p7 : ℕ → List ℕ
heard_p7 ctrl2 = 0x06 ∷ 0x10 ∷ 0x05 ∷ 0x30 ∷ 0x00 ∷ 0x14 ∷ 0x29 ∷ 0x00 ∷ 0xBC ∷ ctrl2 ∷ 0x00 ∷ 0x00 ∷ 0x12 ∷ 0x34 ∷ 0x04 ∷ 0x00 ∷ 0x80 ∷ 0x56 ∷ 0x78 ∷ 0x9A ∷ []

abbrev input_p7 : ℕ → Input
input_p7 ctrl2 = record { coupler = from_ip_open; octets = heard_p7 ctrl2; room = lent }

ip-remembers-nothing : (m : Memory) (s : List ℕ) (h : Heard) → memory_after from_ip_open m s h ≡ m
ip-remembers-nothing m s (frame x p) = refl
ip-remembers-nothing m s (nothing r) = refl

pub repeats-its-first-answer : (steps : Memory → List Input → List Done) → ((m : Memory) (is : List Input) → Follows m is (steps m is))
    → ((m : Memory) (is : List Input) → (first : Outcome) × AllLike first (steps m is)) → ⊥
repeats-its-first-answer steps meets h = go (steps no_memory is) (meets no_memory is) (h no_memory is).0 (h no_memory is).1
  where
    is : List Input
    is = input_p7 0xC0 ∷ input_p7 0x80 ∷ []

    go : (ds : List Done) → Follows no_memory (input_p7 0xC0 ∷ input_p7 0x80 ∷ []) ds → (first : Outcome) → AllLike first ds → ⊥
    go [] f first a = f
    go (d ∷ []) f first a = f.1
    go (d ∷ e ∷ ds) f first a =
        let x = forwards from_ip_open (heard_p7 0xC0) _ refl p7 d f.0 in
        let same : d.memory ≡ no_memory = f.0.memory ∙ ip-remembers-nothing no_memory (heard_p7 0xC0) (heard from_ip_open (heard_p7 0xC0) (length lent)) in
        let y = forwards from_ip_open (heard_p7 0x80) _ refl p8 e (subst (λ (m : Memory). Did from_ip_open m (heard_p7 0x80) lent e.outcome e.memory e.room) same f.1.0) in
        omega (arith, x.size, y.size, ap (λ (o : Outcome). o.forwarded) (a.0 ∙ sym a.1.0))

-- "a tracer that lists the starting line only, or all lines (demand 3, P12)"

-- what a trace leaves: its answer and the room
pub record TraceLeft : Type 0 where
  pub answer : Result Traced Refusal
  pub room : List ℕ

unfoldable lent768 : List ℕ
lent768 = replicate 768 0

lent768-size : length lent768 ≡ 768
unfolding lent768
lent768-size = length-replicate {A = ℕ} 768 0

abbrev query_p12 : Query
query_p12 = query_of 0x47 1 0x1234 2

abbrev list_p12 : List ℕ
list_p12 = 0x00 ∷ 0x00 ∷ 0x02 ∷ 0x40 ∷ 0x01 ∷ 0x01 ∷ 0x45 ∷ 0x00 ∷ 0x02 ∷ 0x47 ∷ 0x02 ∷ 0x00 ∷ []

module _ (trace : Stores → List ℕ → Query → List ℕ → TraceLeft)
    (meets : (st : Stores) (site : List ℕ) (q : Query) (room : List ℕ) → DidTrace st site q room (trace st site q room).answer (trace st site q room).room)
  where
    abbrev traced : TraceLeft
    traced = trace (stores [] []) (four_couplers 2) query_p12 lent768

    answer-p12 : traced.answer ≡ Ok (record { lines = 4; forwardings = 3 })
    answer-p12 =
        (meets (stores [] []) (four_couplers 2) query_p12 lent768).answered
        ∙ ap (λ (n : ℕ). traced_by (stores [] []) (four_couplers 2) query_p12 (first_of (trace_tests (stores [] []) (four_couplers 2) query_p12 n))) lent768-size
        ∙ p12.0

    room-p12 : traced.room ≡ over list_p12 lent768
    room-p12 =
        (meets (stores [] []) (four_couplers 2) query_p12 lent768).left
        ∙ ap (λ (n : ℕ). over (list_by (stores [] []) (four_couplers 2) query_p12 (first_of (trace_tests (stores [] []) (four_couplers 2) query_p12 n))) lent768) lent768-size
        ∙ ap (λ (l : List ℕ). over l lent768) p12.1

    pub lists-the-starting-line-only : ((st : Stores) (site : List ℕ) (q : Query) (room : List ℕ) (t : Traced) → (trace st site q room).answer ≡ Ok t → t.lines ≡ 1) → ⊥
    lists-the-starting-line-only h =
        omega (arith, h (stores [] []) (four_couplers 2) query_p12 lent768 _ answer-p12)

    pub lists-all-lines : ((st : Stores) (site : List ℕ) (q : Query) (room : List ℕ) (t : Traced) → (trace st site q room).answer ≡ Ok t → t.lines ≡ 256) → ⊥
    lists-all-lines h =
        omega (arith, h (stores [] []) (four_couplers 2) query_p12 lent768 _ answer-p12)

-- "invented crossings or forwardings (demand 3: path length, listed lines less one)": on no well-formed site and no query does what is told of a
-- listed line or of the forwardings differ from these

module _ (trace : Stores → List ℕ → Query → List ℕ → TraceLeft)
    (meets : (st : Stores) (site : List ℕ) (q : Query) (room : List ℕ) → DidTrace st site q room (trace st site q room).answer (trace st site q room).room)
    (st : Stores) (site : List ℕ) (q : Query) (room : List ℕ) (well : NoneOf (site_tests st site)) (asks : is_query q ≡ true) (small : q.start < 256) (large : 768 ≤ length room)
  where
    abbrev left : TraceLeft
    left = trace st site q room

    passed : first_of (trace_tests st site q (length room)) ≡ Ok tt
    passed = (passed-iff (trace_tests st site q (length room))).1 (rw asks refl, (le-ltb (length room) 768 large, well))

    -- three octets of the list tell of a line another number of couplers crossed than its path has
    pub invents-crossings : (t : Traced) → left.answer ≡ Ok t → (line count crossed : ℕ) → StandsIn left.room t.lines line count crossed → (crossed ≡ length (path q.start line) → ⊥) → ⊥
    unfolding distance
    invents-crossings t is line count crossed s other =
        let lines : t.lines ≡ lines_listed st site q = ap (λ (t : Traced). t.lines) (ok-one (sym is ∙ (meets st site q room).answered ∙ ap (traced_by st site q) passed)) in
        let front : left.room ≡ over (listed st site q) room = (meets st site q room).left ∙ ap (λ (v : Result (Unit {0}) Refusal). over (list_by st site q v) room) passed in
        let told = (stands-iff st site q room line count crossed).0 (subst (λ (n : ℕ). StandsIn (over (listed st site q) room) n line count crossed) lines (subst (λ (l : List ℕ). StandsIn l t.lines line count crossed) front s)) in
        other (sym told.1.crosses)

    pub invents-forwardings : (t : Traced) → left.answer ≡ Ok t → (t.forwardings ≡ t.lines - 1 → ⊥) → ⊥
    invents-forwardings t is n =
        let s = (lists-exactly st site q room left.room left.answer well asks small large).0 (meets st site q room) in
        n (subst (λ (t : Traced). t.forwardings ≡ t.lines - 1) (ok-one (sym s.accepts ∙ is)) s.forwarded)

-- "Round trips speak of demand 2's layouts, so a writer that keeps its own private form fails."

-- what a writer leaves: its answer and the room
pub record WriteLeft : Type 0 where
  pub answer : Result ℕ Refusal
  pub room : List ℕ

abbrev meaning_p1 : Meaning
meaning_p1 = record { extended = false; first = true; priority = 3; source = 0; group = true; destination = 0x1234; count = 3 }

abbrev payload_p1 : List ℕ
payload_p1 = 0x00 ∷ 0x80 ∷ 0x56 ∷ 0x78 ∷ 0x9A ∷ []

-- P1's octets are the frame of P1's meaning and payload
laid-p1 : tp1_octets meaning_p1 payload_p1 ≡ telegram 0xE5
unfolding check_octet control_of ctrle_of head sealed tp1_octets
laid-p1 = refl

ranged-p1 : in_range meaning_p1 (length payload_p1) ≡ true
unfolding in_range
ranged-p1 = refl

-- how many octets of the room are the frame's
abbrev pub written_size : Result ℕ Refusal → ℕ
written_size w = octet_at (written_numbered w).values 0

-- the octets that it writes are those of a form of its own, which for P1's meaning and payload are not P1's
pub keeps-a-private-form : (write : Meaning → List ℕ → List ℕ → WriteLeft)
    → ((m : Meaning) (p room : List ℕ) → Wrote (in_range m (length p)) (tp1_octets m p) room (write m p room).answer (write m p room).room)
    → (form : Meaning → List ℕ → List ℕ) → (form meaning_p1 payload_p1 ≡ telegram 0xE5 → ⊥)
    → ((m : Meaning) (p room : List ℕ) → in_range m (length p) ≡ true → 272 ≤ length room → take (written_size (write m p room).answer) (write m p room).room ≡ form m p) → ⊥
keeps-a-private-form write meets form other writes =
    let w = meets meaning_p1 payload_p1 lent in
    let fits : length (tp1_octets meaning_p1 payload_p1) ≤ length lent = omega (arith, ap length laid-p1, lent-size) in
    let put = (put-iff (in_range meaning_p1 (length payload_p1)) (tp1_octets meaning_p1 payload_p1) lent (length (tp1_octets meaning_p1 payload_p1))).1 (ranged-p1, (fits, refl)) in
    let size : written_size (write meaning_p1 payload_p1 lent).answer ≡ 12 = ap written_size (w.answered ∙ put) ∙ ap length laid-p1 in
    let room : (write meaning_p1 payload_p1 lent).room ≡ over (telegram 0xE5) lent = wrote-over ranged-p1 fits w ∙ ap (λ (l : List ℕ). over l lent) laid-p1 in
    other (sym (writes meaning_p1 payload_p1 lent ranged-p1 (omega (arith, lent-size))) ∙ (λ j. take (size j) (room j)))
