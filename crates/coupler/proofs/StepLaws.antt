-- What the parts of a step ensure, put together: a frame that was read has a form on either medium, and a room of 272 holds it.
use Rattle.std.specs.Prelude.{Option, Result, Ok, Err, is_some, is_none}
use Rattle.std.specs.Result.{result_unwrap_or}
use Prim.Native.Nat.{ℕ, ◌-◌, ◌≤◌, ◌<◌}
use mathlib.Core.Bool.{Bool, true, false, not, cond, ◌&&◌}
use mathlib.Core.List.{List}
use mathlib.Core.Path.{◌≡◌, refl, sym, ap, ◌∙◌, subst}
use native.Mathlib.Omega.{arith}
use lib.Dec.{eqb}
use lib.ListN.{length, drop}
use borrow.Author.Tests.{ltb-false}
use Rattle.cemi.specs.Writing.{message_in_range}
use Rattle.cemi.specs.declared.Codes.TheVariants.{IndicationOnly}
use Rattle.cemi.specs.declared.Message.{Message}
use Rattle.coupler.proofs.Apart.{frame-nothing}
use Rattle.coupler.specs.Memory.{recalled, side_of, remembered_on}
use Rattle.coupler.specs.Stages.{remembered_if}
use Rattle.coupler.specs.Setting.{stays_by, hopped_by}
use Rattle.coupler.specs.Step.{Coupler, setting_tests, from_ip, Heard, heard_tp1, heard_ip, read_by, after, heard, repeats, forwarded_meaning, indication, form_of, sent_of, accepted_outcome, refused_outcome, outcome_by, sent_by, HandedOn, memory_after, Did, frame, nothing}
use Rattle.coupler.specs.Stages.{Sent, PassedOn, HandedBy}
use Rattle.coupler.specs.declared.Memory.{Memory}
use Rattle.coupler.specs.declared.Outcome.{Outcome}
use Rattle.coupler.specs.declared.Setting.{Setting}
use Rattle.frame.proofs.Numbers.{refused-number}
use Rattle.frame.proofs.Order.{passed-iff}
use Rattle.frame.specs.Answers.{refusal_number}
use Rattle.frame.proofs.Valid.{ranges-of, ranged, most-payload}
use Rattle.frame.proofs.Writing.{put-iff, wrote-over}
use Rattle.frame.specs.Order.{first_of}
use Rattle.frame.specs.Valid.{in_range, Valid}
use Rattle.frame.specs.Writing.{Wrote}
use Rattle.frame.specs.declared.Meaning.{Meaning}
use Rattle.frame.specs.declared.Refusal.{Refusal}
use Rattle.octets.proofs.Octets.{octets-drop}
use Rattle.octets.specs.Octets.{Octets}
use Rattle.octets.specs.Room.{over}
use Rattle.routing.proofs.LayoutLaws.{length-routing}
use Rattle.routing.proofs.RoundTrip.{read-datagram}
use Rattle.routing.specs.Layout.{routing_octets}
use Rattle.routing.specs.Reading.{read_routing, routed_payload}
use Rattle.tp1.proofs.LayoutLaws.{octets-most}
use Rattle.tp1.specs.Layout.{tp1_octets}
use Rattle.tp1.specs.Reading.{payload_in, read_tp1}
use Rattle.tp1.proofs.RoundTrip.{read-laid as tp1-read-laid}
use Rattle.cemi.proofs.RoundTrip.{read-laid as cemi-read-laid}

hopped-below : (k : Setting) (c : ℕ) → c < 8 → hopped_by k c < 8
hopped-below k c h = either (stays_by k c)
  where
    either : (b : Bool) → cond b 7 (c - 1) < 8
    either true = omega arith
    either false = omega arith

-- a forwarded frame keeps what the ranges ask
pub forwarded-ranged : (k : Setting) (m : Meaning) (n : ℕ) → in_range m n ≡ true → in_range (forwarded_meaning k m) n ≡ true
forwarded-ranged k m n e =
    let r = ranges-of m n e in
    ranged (forwarded_meaning k m) n (record { priority = r.priority; count = hopped-below k m.count r.count; some = r.some; most = r.most })

pub indication-ranged : (k : Setting) (m : Meaning) (n : ℕ) → in_range m n ≡ true → message_in_range IndicationOnly (indication (forwarded_meaning k m)) n ≡ true
unfolding message_in_range
indication-ranged k m n e = forwarded-ranged k m n e

-- a writer that refused nothing has sent the frame
sent-all : {ok : Bool} {octets room : List ℕ} {w : Result ℕ Refusal} {room' : List ℕ} {n : ℕ} → ok ≡ true → length octets ≤ length room → Wrote ok octets room w room' → n ≡ result_unwrap_or w 0 → Sent octets room n room'
sent-all {ok} {octets} {room} {w} e h x s =
    let a : w ≡ Ok (length octets) = x.answered ∙ (put-iff ok octets room (length octets)).1 (e, (h, refl)) in
    record { count = s ∙ ap (λ (v : Result ℕ Refusal). result_unwrap_or v 0) a; left = wrote-over e h x }

module _ (k : Setting) (m : Meaning) (p room : List ℕ) (e : in_range m (length p) ≡ true) (h : 272 ≤ length room) {w : Result ℕ Refusal} {room' : List ℕ} {n : ℕ} where
  pub sent-tp1 : Wrote (in_range (forwarded_meaning k m) (length p)) (tp1_octets (forwarded_meaning k m) p) room w room' → n ≡ result_unwrap_or w 0 → Sent (form_of false k m p) room n room'
  unfolding form_of
  sent-tp1 x s = sent-all (forwarded-ranged k m (length p) e) (omega (arith, octets-most (forwarded_meaning k m) p (forwarded-ranged k m (length p) e))) x s

  pub sent-ip : Wrote (message_in_range IndicationOnly (indication (forwarded_meaning k m)) (length p)) (routing_octets (indication (forwarded_meaning k m)) p) room w room' → n ≡ result_unwrap_or w 0 → Sent (form_of true k m p) room n room'
  unfolding form_of
  sent-ip x s = sent-all (indication-ranged k m (length p) e) (omega (arith, length-routing (indication (forwarded_meaning k m)) p, most-payload m (length p) e)) x s

-- a frame that was read has a meaning and a payload in range
pub tp1-ranged : (s : List ℕ) (m : Meaning) → Octets s → read_tp1 s ≡ Ok m → in_range m (length (payload_in (Ok m) s)) ≡ true
tp1-ranged s m o e = (tp1-read-laid s m o e).valid.ranges

pub ip-ranged : (s : List ℕ) (x : Message) → Octets s → read_routing s ≡ Ok x → in_range x.meaning (length (routed_payload (Ok x) s)) ≡ true
ip-ranged s x o e = (cemi-read-laid IndicationOnly (drop 6 s) x (octets-drop 6 s o) (read-datagram s x o e).1).valid.valid.ranges

-- what became of an accepted frame is what a step says of it
pub handed : {k : Coupler} {remembered s room : List ℕ} {o : Outcome} {room' : List ℕ} {rep : Bool} {m : Meaning} {p : List ℕ} → rep ≡ repeats k remembered s
    → PassedOn k rep m p room o room' → HandedBy k remembered s (frame m p) room o room'
handed {k} {room = room} {m = m} {p = p} e x =
    record { outcome = x.outcome ∙ ap (λ (b : Bool). accepted_outcome k b m p) e; left = x.left ∙ ap (λ (b : Bool). over (sent_of k b m p) room) e }

-- a refusal leaves the room as it was
pub handed-nothing : (k : Coupler) (remembered s room : List ℕ) (r : Refusal) {o : Outcome} → o ≡ refused_outcome k s r → HandedBy k remembered s (nothing r) room o room
handed-nothing k remembered s room r e = record { outcome = e; left = refl }

-- octets received as which this is heard are handed on by it
pub handed-on : {k : Coupler} {remembered s : List ℕ} {h : Heard} {room : List ℕ} {o : Outcome} {room' : List ℕ} → heard k s (length room) ≡ h
    → HandedBy k remembered s h room o room' → HandedOn k remembered s room o room'
handed-on {k} {remembered} {s} {h} {room} e x =
    record { outcome = x.outcome ∙ ap (outcome_by k remembered s) (sym e); left = x.left ∙ ap (λ (y : Heard). over (sent_by k remembered s y) room) (sym e) }

-- settings that are fine come with a room of 272
pub fine-room : (k : Coupler) (n : ℕ) → first_of (setting_tests k n) ≡ Ok tt → 272 ≤ n
fine-room k n e = ltb-false n 272 ((passed-iff (setting_tests k n)).0 e).1.1.1.0

-- the memory that the code keeps by the outcome's refusal is the one that the step says
pub memory-by-refusal : (k : Coupler) (remembered : List ℕ) (m : Memory) (s : List ℕ) (h : Heard)
    → remembered_if (is_none (outcome_by k remembered s h).refusal && not (from_ip k)) m k.setting.side s ≡ memory_after k m s h
unfolding remembered_if
memory-by-refusal k remembered m s (frame x p) = go (from_ip k)
  where
    go : (b : Bool) → cond (not b) (remembered_on m k.setting.side s) m ≡ cond b m (remembered_on m k.setting.side s)
    go true = refl
    go false = refl
memory-by-refusal k remembered m s (nothing r) = refl

-- and by its number
pub memory-by-number : (k : Coupler) (remembered : List ℕ) (m : Memory) (s : List ℕ) (h : Heard)
    → remembered_if (eqb (refusal_number (outcome_by k remembered s h).refusal) 0 && not (from_ip k)) m k.setting.side s ≡ memory_after k m s h
unfolding remembered_if
memory-by-number k remembered m s (frame x p) = memory-by-refusal k remembered m s (frame x p)
memory-by-number k remembered m s (nothing r) = rw (refused-number r)

-- what `Option::is_none` ensures, as a value
pub none-told : (o : Option Refusal) (b : Bool) → is_some o ≡ not b → b ≡ is_none o
none-told o true e = sym (ap not e)
none-told o false e = sym (ap not e)

-- handing on with the frame that the side remembers, and remembering by the outcome's refusal, are a step
pub did : (k : Coupler) (m : Memory) (s : List ℕ) (fine : Bool) {remembered room : List ℕ} {o : Outcome} {m' : Memory} {room' : List ℕ} {ip : Bool} → remembered ≡ recalled (side_of m k.setting.side)
    → HandedOn k remembered s room o room'
    → is_some o.refusal ≡ not fine → ip ≡ from_ip k
    → m' ≡ remembered_if (fine && not ip) m k.setting.side s
    → Did k m s room o m' room'
did k m s fine {remembered} {room} {o} {m'} {room'} {ip} e x f g y =
    record {
      handed = subst (λ (l : List ℕ). HandedOn k l s room o room') e x;
      memory =
          rw (none-told o.refusal fine f, g) at y
          ∙ ap (λ (p : Outcome). remembered_if (is_none p.refusal && not (from_ip k)) m k.setting.side s) x.outcome
          ∙ memory-by-refusal k remembered m s (heard k s (length room));
    }

-- a TP1 frame has at most 263 octets: it fits the memory
pub tp1-most : (s : List ℕ) (m : Meaning) → Octets s → read_tp1 s ≡ Ok m → length s ≤ 263
tp1-most s m o e =
    let w = tp1-read-laid s m o e in
    omega (arith, ap length w.layout, octets-most m (payload_in (Ok m) s) w.valid.ranges)

pub heard-size : (k : Coupler) (s : List ℕ) (n : ℕ) (m : Meaning) (p : List ℕ) → Octets s → heard k s n ≡ frame m p → from_ip k ≡ false → length s ≤ 263
unfolding heard
heard-size k s n m p o e f = settled (first_of (setting_tests k n)) (rw f at e)
  where
    answered : (a : Result Meaning Refusal) → read_tp1 s ≡ a → heard_tp1 a s ≡ frame m p → length s ≤ 263
    answered (Ok x) q z = tp1-most s x o q
    answered (Err r) q z = frame-nothing z

    settled : (v : Result (Unit {0}) Refusal) → after v (heard_tp1 (read_tp1 s) s) ≡ frame m p → length s ≤ 263
    settled (Ok _) z = answered (read_tp1 s) refl z
    settled (Err r) z = frame-nothing z

-- two outcomes that a contract allows coincide
pub handed-one : {k : Coupler} {remembered s room : List ℕ} {o₁ o₂ : Outcome} {r₁ r₂ : List ℕ} → HandedOn k remembered s room o₁ r₁ → HandedOn k remembered s room o₂ r₂ → (o₁ ≡ o₂) × (r₁ ≡ r₂)
handed-one x y = (x.outcome ∙ sym y.outcome, x.left ∙ sym y.left)

pub did-one : {k : Coupler} {m : Memory} {s room : List ℕ} {o₁ o₂ : Outcome} {m₁ m₂ : Memory} {r₁ r₂ : List ℕ} → Did k m s room o₁ m₁ r₁ → Did k m s room o₂ m₂ r₂ → (o₁ ≡ o₂) × ((m₁ ≡ m₂) × (r₁ ≡ r₂))
did-one x y = let e = handed-one x.handed y.handed in (e.0, (x.memory ∙ sym y.memory, e.1))

-- a frame that was heard, by whichever medium, has a valid meaning and payload
pub heard-valid : (k : Coupler) (s : List ℕ) (n : ℕ) (m : Meaning) (p : List ℕ) → Octets s → heard k s n ≡ frame m p → Valid m p
unfolding heard
heard-valid k s n m p o e = settled (first_of (setting_tests k n)) (from_ip k) e
  where
    by-tp1 : (a : Result Meaning Refusal) → read_tp1 s ≡ a → heard_tp1 a s ≡ frame m p → Valid m p
    by-tp1 (Ok x) q z = let em : x ≡ m = cc in let ep : payload_in (Ok x) s ≡ p = cc in subst (λ (y : Meaning). Valid y p) em (subst (Valid x) ep (tp1-read-laid s x o q).valid)
    by-tp1 (Err r) q z = frame-nothing z

    by-ip : (a : Result Message Refusal) → read_routing s ≡ a → heard_ip a s ≡ frame m p → Valid m p
    by-ip (Ok x) q z =
        let em : x.meaning ≡ m = cc in
        let ep : routed_payload (Ok x) s ≡ p = cc in
        subst (λ (y : Meaning). Valid y p) em (subst (Valid x.meaning) ep (cemi-read-laid IndicationOnly (drop 6 s) x (octets-drop 6 s o) (read-datagram s x o q).1).valid.valid)
    by-ip (Err r) q z = frame-nothing z

    settled : (v : Result (Unit {0}) Refusal) (b : Bool) → after v (read_by b s) ≡ frame m p → Valid m p
    settled (Ok _) true z = by-ip (read_routing s) refl z
    settled (Ok _) false z = by-tp1 (read_tp1 s) refl z
    settled (Err r) b z = frame-nothing z
