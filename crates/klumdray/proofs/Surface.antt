-- A call of the surface is the inner call behind a test whether the numbers fit: of the writers said once for every format.
use Rattle.std.specs.Prelude.{Result, Ok, Err, Option, Some, None}
use Prim.Native.Nat.{ℕ, ◌%◌, ◌^◌, ◌≤◌, ◌<◌}
use mathlib.Core.Bool.{Bool, true, false, cond, ◌&&◌}
use mathlib.Core.List.{List}
use mathlib.Core.Path.{◌≡◌, refl, sym, ap, ◌∙◌, subst}
use native.Mathlib.Omega.{arith}
use lib.Dec.{ltb, eqb}
use lib.ListN.{length}
use borrow.Author.Tests.{ltb-true}
use Rattle.frame.proofs.Apart.{none-some, some-one}
use Rattle.frame.proofs.Writing.{unranged-iff, put-iff}
use Rattle.frame.specs.Order.{first_of}
use Rattle.frame.specs.Writing.{written, room_after, Wrote}
use Rattle.frame.specs.declared.Meaning.{Meaning}
use Rattle.frame.specs.declared.Refusal.TheVariants.{OutOfRange}
use Rattle.klumdray.specs.Numbers.{flags_of, meaning_number, meaning_from, code_number, are_numbers, are_flags, are_octets, are_words, are_marks, are_connected, written_number, WroteNumber}
use Rattle.klumdray.specs.Stages.{Sized, given}
use Rattle.klumdray.specs.Traces.{traced_number, explanation_number, query_fits, trace_through_tests, TracedThrough, why_through}
use Rattle.octets.proofs.Truth.{and-true, and_yes}
use Rattle.octets.proofs.Weigh.{weigh-most}
use Rattle.octets.specs.Room.{over}
use Rattle.site.specs.Stores.{Stores}
use Rattle.tracer.specs.Query.{query_of}
use Rattle.tracer.specs.Tracing.{trace_tests, traced_by, list_by, DidTrace}
use Rattle.tracer.specs.Why.{answer_why}
use Rattle.tracer.specs.declared.Traced.{Traced}
use Rattle.tracer.specs.declared.Query.{Query}
use Rattle.frame.specs.declared.Refusal.{Refusal}
use Rattle.tracer.specs.declared.Stop.{Stop}

-- a size that is written has a number
pub sized : {ranged : Bool} {octets room after : List ℕ} (w : Result ℕ Refusal) → Wrote ranged octets room w after → (ranged ≡ true → length octets ≤ 274) → Sized w
sized {ranged} {octets} {room} (Ok n) x h =
    let e = (put-iff ranged octets room n).0 (sym x.answered) in
    omega (arith, h e.0)
sized (Err r) x h = tt

pub wrote-number : {fit ranged : Bool} {octets room after : List ℕ} {r : ℕ} (w : Result ℕ Refusal)
    → fit ≡ true → Wrote ranged octets room w after → r ≡ written_number w → WroteNumber (fit && ranged) octets room r after
wrote-number {fit} {ranged} {octets} {room} w f x e =
    let a : w ≡ written (fit && ranged) octets room = rw f x.answered in
    record { answered = e ∙ ap written_number a; left = x.left ∙ ap (λ (v : Result ℕ Refusal). room_after v octets room) a }

pub unfit-refused : (fit ranged : Bool) (octets room : List ℕ) → fit ≡ false → WroteNumber (fit && ranged) octets room 14 room
unfit-refused fit ranged octets room f =
    let a : written (fit && ranged) octets room ≡ Err OutOfRange = (unranged-iff (fit && ranged) octets room).1 (rw f) in
    record { answered = sym (ap written_number a); left = sym (ap (λ (v : Result ℕ Refusal). room_after v octets room) a) }

pub unfit-wrote : (fit ranged : Bool) (octets room : List ℕ) → fit ≡ false → Wrote (fit && ranged) octets room (Err OutOfRange) room
unfit-wrote fit ranged octets room f =
    let a : written (fit && ranged) octets room ≡ Err OutOfRange = (unranged-iff (fit && ranged) octets room).1 (rw f) in
    record { answered = sym a; left = refl }

apart : (a b c : Bool) → a && (b && c) ≡ a && b && c
apart true b c = refl
apart false b c = refl

-- two tests, of which the second stands before the inner writer
pub wrote-both : (fit also ranged : Bool) {octets room after : List ℕ} {r : ℕ} → WroteNumber (fit && (also && ranged)) octets room r after → WroteNumber (fit && also && ranged) octets room r after
wrote-both fit also ranged {octets} {room} {after} {r} = subst (λ (b : Bool). WroteNumber b octets room r after) (apart fit also ranged)

-- a writer that has no range but that the numbers fit
pub wrote-fit : {fit : Bool} {octets room after : List ℕ} {r : ℕ} (w : Result ℕ Refusal) → fit ≡ true → Wrote true octets room w after → r ≡ written_number w → WroteNumber fit octets room r after
wrote-fit {fit} {octets} {room} {after} {r} w f x e = subst (λ (b : Bool). WroteNumber b octets room r after) (and_yes fit) (wrote-number w f x e)

pub unfit-alone : (fit : Bool) (octets room : List ℕ) → fit ≡ false → WroteNumber fit octets room 14 room
unfit-alone fit octets room f = subst (λ (b : Bool). WroteNumber b octets room 14 room) (and_yes fit) (unfit-refused fit true octets room f)

-- the tracer's calls

-- where the numbers fit, the order is the inner call's
pub trace-inside : (st : Stores) (site : List ℕ) (q : Query) (room : ℕ) → query_fits q ≡ true → first_of (trace_tests st site q room) ≡ first_of (trace_through_tests st site q room)
trace-inside st site q room f = rw f

pub why-inside : (st : Stores) (site : List ℕ) (q : Query) (line : ℕ) → query_fits q && ltb line 256 ≡ true → answer_why st site q line ≡ why_through st site q line
unfolding answer_why why_through
why-inside st site q line f = rw f

pub traced_fit : (st : Stores) (site : List ℕ) (q : Query) {room : List ℕ} {answer : ℕ} {traced : Result Traced Refusal} {room' : List ℕ} → query_fits q ≡ true
    → DidTrace st site q room traced room' → answer ≡ traced_number traced → TracedThrough st site q room answer room'
traced_fit st site q {room} f x e =
    let v = trace-inside st site q (length room) f in
    record {
      answered = e ∙ ap traced_number x.answered ∙ ap (λ (v : Result (Unit {0}) Refusal). traced_number (traced_by st site q v)) v;
      left = x.left ∙ ap (λ (v : Result (Unit {0}) Refusal). over (list_by st site q v) room) v;
    }

pub traced-unfit : (st : Stores) (site : List ℕ) (q : Query) (room : List ℕ) → query_fits q ≡ false → TracedThrough st site q room 14 room
unfolding traced_number
traced-unfit st site q room f = record { answered = rw f refl; left = rw f refl }

pub why-fit : (st : Stores) (site : List ℕ) (q : Query) (line : ℕ) {answer : ℕ} {a : Result (Option Stop) Refusal} → query_fits q && ltb line 256 ≡ true
    → a ≡ answer_why st site q line → answer ≡ explanation_number a → answer ≡ explanation_number (why_through st site q line)
why-fit st site q line f e h = h ∙ ap explanation_number (e ∙ why-inside st site q line f)

pub why-unfit : (st : Stores) (site : List ℕ) (q : Query) (line : ℕ) → query_fits q && ltb line 256 ≡ false → 14 ≡ explanation_number (why_through st site q line)
unfolding why_through
why-unfit st site q line f = rw f refl

-- two outcomes that the contract allows coincide
pub wrote-number-one : {ranged : Bool} {octets room : List ℕ} {r₁ r₂ : ℕ} {a₁ a₂ : List ℕ}
    → WroteNumber ranged octets room r₁ a₁ → WroteNumber ranged octets room r₂ a₂ → (r₁ ≡ r₂) × (a₁ ≡ a₂)
wrote-number-one x y = (x.answered ∙ sym y.answered, x.left ∙ sym y.left)

pub traced-through-one : {st : Stores} {site : List ℕ} {q : Query} {room : List ℕ} {r₁ r₂ : ℕ} {a₁ a₂ : List ℕ}
    → TracedThrough st site q room r₁ a₁ → TracedThrough st site q room r₂ a₂ → (r₁ ≡ r₂) × (a₁ ≡ a₂)
traced-through-one x y = (x.answered ∙ sym y.answered, x.left ∙ sym y.left)

-- an answer's number has 59 bits

pub code-most : (c : ℕ) → code_number c ≤ 3
unfolding code_number
code-most c = go (eqb c 0x11) (eqb c 0x2E) (eqb c 0x29)
  where
    go : (a b d : Bool) → cond a 1 (cond b 2 (cond d 3 0)) ≤ 3
    go true b d = omega arith
    go false true d = omega arith
    go false false true = omega arith
    go false false false = omega arith

pub meaning-below : (m : Meaning) (k : ℕ) → m.source < 2 ^ 16 → m.destination < 2 ^ 16 → meaning_number m k < 2 ^ 56
unfolding meaning_number flags_of
meaning-below m k s d = omega (arith, weigh-most m.extended 1, weigh-most m.first 2, weigh-most m.group 16)

-- what a caller's numbers give: a value where they fit, none where they don't

pub given-fits : {A : Type 0} (fit : Bool) {x y : A} {g : Option A} → g ≡ given fit x → g ≡ Some y → (fit ≡ true) × (y ≡ x)
given-fits true e s = (refl, some-one (sym s ∙ e))
given-fits false e s = none-some (sym e ∙ s)

pub given-none : {A : Type 0} (fit : Bool) (x : A) {g : Option A} → g ≡ given fit x → g ≡ None → fit ≡ false
given-none true x e n = none-some (sym n ∙ e)
given-none false x e n = refl

-- numbers that pass the tests lose nothing in fewer bits

pub octets-fit : (one other : ℕ) → are_octets one other ≡ true → (one < 256) × (other < 256)
unfolding are_octets
octets-fit one other e =
    let both = and-true (ltb one 256) (ltb other 256) e in
    (ltb-true one 256 both.0, ltb-true other 256 both.1)

pub words-fit : (source destination : ℕ) → are_words source destination ≡ true → (source < 65536) × (destination < 65536)
unfolding are_words
words-fit source destination e =
    let both = and-true (ltb source 65536) (ltb destination 65536) e in
    (ltb-true source 65536 both.0, ltb-true destination 65536 both.1)

pub code-fits : (code error : ℕ) → are_marks code error ≡ true → code < 256
unfolding are_marks
code-fits code error e = ltb-true code 256 (and-true (ltb code 256) (ltb error 2) e).0

pub connected-fit : (channel counter status : ℕ) → are_connected channel counter status ≡ true → (channel < 256) × ((counter < 256) × (status < 256))
unfolding are_connected
connected-fit channel counter status e =
    let outer = and-true (ltb channel 256 && ltb counter 256) (ltb status 256) e in
    let inner = and-true (ltb channel 256) (ltb counter 256) outer.0 in
    (ltb-true channel 256 inner.0, (ltb-true counter 256 inner.1, ltb-true status 256 outer.1))

pub query-fit : (start kind destination count : ℕ) → query_fits (query_of start kind destination count) ≡ true
    → (start < 256) × ((kind < 256) × ((destination < 65536) × (count < 256)))
unfolding query_fits
query-fit start kind destination count e =
    let three = and-true (ltb start 256 && ltb kind 256 && ltb destination 65536) (ltb count 256) e in
    let two = and-true (ltb start 256 && ltb kind 256) (ltb destination 65536) three.0 in
    let one = and-true (ltb start 256) (ltb kind 256) two.0 in
    (ltb-true start 256 one.0, (ltb-true kind 256 one.1, (ltb-true destination 65536 two.1, ltb-true count 256 three.1)))

-- a meaning whose numbers fit loses nothing where each is cut to its width
pub meaning-kept : (extended first priority source group destination count : ℕ) {m : Meaning} → are_numbers extended first priority source group destination count ≡ true
    → m ≡ meaning_from extended first (priority % 256) (source % 65536) group (destination % 65536) (count % 256) → m ≡ meaning_from extended first priority source group destination count
meaning-kept extended first priority source group destination count e h =
    let both = and-true (are_flags extended first group && are_octets priority count) (are_words source destination) e in
    let octets = octets-fit priority count (and-true (are_flags extended first group) (are_octets priority count) both.0).1 in
    let words = words-fit source destination both.1 in
    let p : priority % 256 ≡ priority = omega arith in
    let c : count % 256 ≡ count = omega arith in
    let s : source % 65536 ≡ source = omega arith in
    let d : destination % 65536 ≡ destination = omega arith in
    rw (p, c, s, d) at h

-- and a query likewise
pub query-kept : (start kind destination count : ℕ) {q : Query} → query_fits (query_of start kind destination count) ≡ true
    → q ≡ query_of (start % 256) (kind % 256) (destination % 65536) (count % 256) → q ≡ query_of start kind destination count
query-kept start kind destination count e h =
    let fit = query-fit start kind destination count e in
    let s : start % 256 ≡ start = omega arith in
    let k : kind % 256 ≡ kind = omega arith in
    let d : destination % 65536 ≡ destination = omega arith in
    let c : count % 256 ≡ count = omega arith in
    rw (s, k, d, c) at h
