-- One coupler: the step of a fitted coupler hands a valid first sending on exactly if the coupler lets it pass and its count is not used
-- up, and then with its count by the coupler's hop rule.
use Rattle.std.specs.Prelude.{Result, Ok, Err}
use Prim.Native.Nat.{ℕ, zero, suc, ◌≤◌, ◌<◌}
use mathlib.Core.Bool.{Bool, true, false, not, cond, ◌&&◌}
use mathlib.Core.List.{List}
use mathlib.Core.Path.{◌≡◌, refl, sym, ap, ◌∙◌, subst}
use native.Mathlib.Omega.{arith}
use lib.Dec.{ltb, eqb}
use lib.ListN.{length, take, drop, replicate}
use lib.Seq.{take_at}
use borrow.Author.Tests.{ltb-true, not-false}
use Rattle.cemi.specs.Writing.{message_in_range}
use Rattle.coupler.proofs.Promised.{Forwardable, Forwards, forwarded-iff, sent_is}
use Rattle.coupler.specs.Memory.{recalled, side_of, is_repetition}
use Rattle.coupler.specs.Step.{Coupler, setting_tests, from_ip, to_ip, Heard, heard_tp1, heard_ip, read_by, after, heard, kind_of, repeats, forwarded_meaning, indication, form_of, forwarded_octets, outcome_by, sent_by, outcome_of, sent, memory_after, Did, frame, nothing}
use Rattle.coupler.specs.declared.Memory.{Memory}
use Rattle.coupler.specs.declared.Outcome.{Outcome}
use Rattle.frame.proofs.Order.{passed-iff}
use Rattle.frame.specs.Order.{first_of}
use Rattle.frame.specs.Valid.{Valid}
use Rattle.frame.specs.declared.Meaning.{Meaning}
use Rattle.journey.proofs.Fitted.{IsSet, fitted-set, fitted_line, set-passes}
use Rattle.journey.specs.Journey.{AtWork, own_coupler, is_ip, form_on, coupler_at, Hands}
use Rattle.octets.proofs.Truth.{by_cases, and-true, and_yes, and-false}
use Rattle.octets.specs.Room.{over}
use Rattle.routing.proofs.RoundTrip.{routing-read, routing-payload}
use Rattle.routing.specs.Layout.{routing_octets}
use Rattle.site.specs.Letting.{record_passes, line_lets_pass}
use Rattle.site.specs.Records.{records_of, is_fitted}
use Rattle.site.specs.WellFormed.{site_tests}
use Rattle.tp1.proofs.Refusals.{accepted-iff}
use Rattle.tp1.proofs.RoundTrip.{laid-read, laid-payload}
use Rattle.tp1.specs.Layout.{tp1_octets}
use Rattle.tp1.specs.Reading.{meaning_in}
use Rattle.tracer.specs.Lines.{main_side, Crossing, crossing, from_line, to_line}
use Rattle.frame.specs.declared.Refusal.{Refusal}
use Rattle.cemi.specs.declared.Message.{Message}

-- a telegram in the form of a medium
abbrev form : Bool → Meaning → List ℕ → List ℕ
form ip m p = cond ip (routing_octets (indication m) p) (tp1_octets m p)

-- read by that medium's reader
form-read : (ip : Bool) (m : Meaning) (p : List ℕ) → Valid m p → read_by ip (form ip m p) ≡ frame m p
unfolding message_in_range
form-read true m p v =
    let s : List ℕ = form true m p in
    ap (λ (t : Result Message Refusal). heard_ip t s) (routing-read (indication m) p (record { ranges = v.ranges; valid = v }))
    ∙ ap (frame m) (routing-payload (indication m) p)
form-read false m p v =
    let s : List ℕ = form false m p in
    ap (λ (t : Result Meaning Refusal). heard_tp1 t s) (laid-read m p v)
    ∙ ap (frame m) (laid-payload m p)

pub form-on-read : (w : AtWork) (line : ℕ) (m : Meaning) (p : List ℕ) → Valid m p → read_by (is_ip w line) (form_on w line m p) ≡ frame m p
unfolding form_on
form-on-read w line m p v = form-read (is_ip w line) m p v

-- memory is nothing to a first sending: on TP1 its octets say that it is one, and IP has no memory
form-new : (ip : Bool) (remembered : List ℕ) (m : Meaning) (p : List ℕ) → Valid m p → m.first ≡ true → not ip && is_repetition remembered (form ip m p) ≡ false
unfolding is_repetition
form-new true remembered m p v e = refl
form-new false remembered m p v e =
    let s : List ℕ = tp1_octets m p in
    let f : (meaning_in s).first ≡ true = ap (λ (x : Meaning). x.first) ((accepted-iff s m).0 (laid-read m p v)).1 ∙ e in
    rw f refl

-- a coupler's media by their numbers, its record's line being n

one-if : (b : Bool) → eqb (cond b 1 0) 1 ≡ b
one-if true = refl
one-if false = refl

sub-tp1 : (w : AtWork) (n : ℕ) → is_fitted (own_coupler w n) ≡ true → is_ip w n ≡ false
sub-tp1 w n e = rw e (and-false (w.meant_ip n))

from-medium : (w : AtWork) (n side : ℕ) → is_fitted (own_coupler w n) ≡ true → side < 2 → eqb side 0 && eqb (cond (is_ip w (main_side n)) 1 0) 1 ≡ is_ip w (from_line (crossing side n))
from-medium w n zero e l = one-if (is_ip w (main_side n))
from-medium w n (suc zero) e l = sym (sub-tp1 w n e)
from-medium w n (suc (suc side)) e l = absurd (omega arith)

to-medium : (w : AtWork) (n side : ℕ) → is_fitted (own_coupler w n) ≡ true → side < 2 → eqb side 1 && eqb (cond (is_ip w (main_side n)) 1 0) 1 ≡ is_ip w (to_line (crossing side n))
to-medium w n zero e l = sym (sub-tp1 w n e)
to-medium w n (suc zero) e l = one-if (is_ip w (main_side n))
to-medium w n (suc (suc side)) e l = absurd (omega arith)

-- what a call of the step leaves at the front of its room is what it sends

pub sent-size : (k : Coupler) (remembered s : List ℕ) (h : Heard) → (outcome_by k remembered s h).forwarded ≡ length (sent_by k remembered s h)
sent-size k remembered s (frame m p) = refl
sent-size k remembered s (nothing r) = refl

step-sends : (k : Coupler) (memory : Memory) (s room : List ℕ) {o : Outcome} {memory' : Memory} {room' : List ℕ} → Did k memory s room o memory' room'
    → take o.forwarded room' ≡ sent k (recalled (side_of memory k.setting.side)) s (length room)
step-sends k memory s room {o} {memory'} {room'} x =
    let remembered : List ℕ = recalled (side_of memory k.setting.side) in
    let onward : List ℕ = sent k remembered s (length room) in
    let n : o.forwarded ≡ length onward = ap (λ (z : Outcome). z.forwarded) x.handed.outcome ∙ sent-size k remembered s (heard k s (length room)) in
    ap (λ (i : ℕ). take i room') n
    ∙ ap (take (length onward)) x.handed.left
    ∙ take_at onward (drop (length onward) room) (length onward) refl

-- a room that is just large enough
unfoldable a_room : List ℕ
a_room = replicate 272 0

room-enough : 272 ≤ length a_room
unfolding a_room
room-enough = omega arith

-- a step that forwards has found nothing wrong with its settings
forwards-set : (k : Coupler) (remembered s : List ℕ) (room : ℕ) → Forwards k remembered s (heard k s room) → first_of (setting_tests k room) ≡ Ok tt
unfolding heard
forwards-set k remembered s room = go (first_of (setting_tests k room))
  where
    go : (v : Result (Unit {0}) Refusal) → Forwards k remembered s (after v (read_by (from_ip k) s)) → v ≡ Ok tt
    go (Ok _) f = refl
    go (Err r) f = absurd f

module _ (w : AtWork) (ok : first_of (site_tests w.stores w.site) ≡ Ok tt) (x : Crossing) where
  abbrev fitting : List ℕ
  fitting = own_coupler w x.line

  abbrev coupler : Coupler
  coupler = coupler_at w x

  abbrev memory : Memory
  memory = w.memories x.line

  abbrev recollected : List ℕ
  recollected = recalled (side_of memory x.direction)

  pub is_set : is_fitted fitting ≡ true → IsSet w.stores x.line fitting
  is_set = fitted-set w.stores w.site ok x.line

  -- a crossing that is made is over the coupler of a line other than 00h, in one of the two directions

  pub hands-line : {octets onward : List ℕ} → Hands w x octets onward → x.line ≡ 0 → ⊥
  hands-line h = fitted_line w.stores x.line fitting (is_set h.fitted)

  hands-forwards : {octets onward : List ℕ} (h : Hands w x octets onward) → Forwards coupler recollected octets (heard coupler octets (length h.room))
  hands-forwards {octets} h =
      let y : Heard = heard coupler octets (length h.room) in
      (forwarded-iff coupler recollected octets y).0
      (λ z. h.some (ap length (sym h.sends ∙ step-sends coupler memory octets h.room h.steps) ∙ sym (sent-size coupler recollected octets y) ∙ z))

  pub hands-side : {octets onward : List ℕ} → Hands w x octets onward → x.direction < 2
  hands-side {octets} h =
      let room : ℕ = length h.room in
      let side : Bool = ltb x.direction 2 in
      let medium : Bool = ltb coupler.setting.medium 2 in
      let e = (passed-iff (setting_tests coupler room)).0 (forwards-set coupler recollected octets room (hands-forwards h)) in
      ltb-true x.direction 2 (and-true side medium (not-false (side && medium) e.1.1.0)).0

  -- its media are those of the lines that it leads from and to
  module _ (e : is_fitted fitting ≡ true) (side : x.direction < 2) where
    from-ip : from_ip coupler ≡ is_ip w (from_line x)
    from-ip = ap (λ (n : ℕ). eqb x.direction 0 && eqb (cond (is_ip w (main_side n)) 1 0) 1) (is_set e).place ∙ from-medium w x.line x.direction e side

    to-ip : to_ip coupler ≡ is_ip w (to_line x)
    to-ip = ap (λ (n : ℕ). eqb x.direction 1 && eqb (cond (is_ip w (main_side n)) 1 0) 1) (is_set e).place ∙ to-medium w x.line x.direction e side

  -- what its step does with a telegram in the form of the line that it leads from
  module _ (m : Meaning) (p : List ℕ) (v : Valid m p) where
    abbrev received : List ℕ
    received = form_on w (from_line x) m p

    abbrev onward_form : List ℕ
    onward_form = form_on w (to_line x) (forwarded_meaning coupler.setting m) p

    abbrev line_lets : Bool
    line_lets = line_lets_pass w.stores (kind_of m) m.destination (records_of w.site) x.direction x.line

    heard-by : is_fitted fitting ≡ true → x.direction < 2 → (room : ℕ) → 272 ≤ room → heard coupler received room ≡ frame m p
    unfolding heard
    heard-by e side room n =
        ap (λ (y : Result (Unit {0}) Refusal). after y (read_by (from_ip coupler) received)) (set-passes w x.line fitting (is_set e) x.direction room side n)
        ∙ ap (λ (ip : Bool). read_by ip received) (from-ip e side)
        ∙ form-on-read w (from_line x) m p v

    first-new : is_fitted fitting ≡ true → x.direction < 2 → m.first ≡ true → repeats coupler recollected received ≡ false
    unfolding form_on
    first-new e side new =
        ap (λ (ip : Bool). not ip && is_repetition recollected received) (from-ip e side)
        ∙ form-new (is_ip w (from_line x)) recollected m p v new

    onward-form : is_fitted fitting ≡ true → x.direction < 2 → forwarded_octets coupler m p ≡ onward_form
    unfolding form_of form_on
    onward-form e side = ap (λ (ip : Bool). form ip (forwarded_meaning coupler.setting m) p) (to-ip e side)

    -- what is sent, where the telegram is let through
    sends-on : is_fitted fitting ≡ true → x.direction < 2 → (room : ℕ) → 272 ≤ room → Forwardable coupler recollected received m → sent coupler recollected received room ≡ onward_form
    sends-on e side room n l = ap (sent_by coupler recollected received) (heard-by e side room n) ∙ sent_is coupler recollected received m p l ∙ onward-form e side

    pub hands-passes : (onward : List ℕ) → Hands w x received onward → (line_lets ≡ true) × ((m.count ≡ 0 → ⊥) × (onward ≡ onward_form))
    unfolding line_lets_pass record_passes
    hands-passes onward h =
        let side = hands-side h in
        let room : ℕ = length h.room in
        let l : Forwardable coupler recollected received m = subst (Forwards coupler recollected received) (heard-by h.fitted side room h.enough) (hands-forwards h) in
        let o : onward ≡ onward_form = sym h.sends ∙ step-sends coupler memory received h.room h.steps ∙ sends-on h.fitted side room h.enough l in
        (rw (h.fitted, l.passes) refl, (l.counted, o))

    pub passes-hands : m.first ≡ true → x.direction < 2 → line_lets ≡ true → (m.count ≡ 0 → ⊥) → Hands w x received onward_form
    unfolding line_lets_pass record_passes
    passes-hands new side a c =
        let q = and-true (is_fitted fitting) (record_passes w.stores (kind_of m) m.destination x.direction fitting) a in
        let room : ℕ = length a_room in
        let l : Forwardable coupler recollected received m = record { passes = q.1; counted = c; new = first-new q.0 side new } in
        let told : Outcome = outcome_of coupler recollected received room in
        let later : Memory = memory_after coupler memory received (heard coupler received room) in
        let rest : List ℕ = over (sent coupler recollected received room) a_room in
        let did : Did coupler memory received a_room told later rest = record { handed = record { outcome = refl; left = refl }; memory = refl } in
        record {
          fitted = q.0;
          room = a_room;
          enough = room-enough;
          outcome = told;
          memory = later;
          left = rest;
          steps = did;
          sends = step-sends coupler memory received a_room did ∙ sends-on q.0 side room room-enough l;
          some = λ z. (forwarded-iff coupler recollected received (frame m p)).1 l (ap length (sent_is coupler recollected received m p l ∙ onward-form q.0 side) ∙ z);
        }

-- there is no coupler of 00h: the backbone is IP exactly if it is meant to be
pub backbone-ip : (w : AtWork) → first_of (site_tests w.stores w.site) ≡ Ok tt → is_ip w 0 ≡ w.meant_ip 0
backbone-ip w ok =
    by_cases (is_fitted (own_coupler w 0))
    (λ e. absurd (fitted_line w.stores 0 (own_coupler w 0) (fitted-set w.stores w.site ok 0 e) refl))
    (λ e. rw e (and_yes (w.meant_ip 0)))
