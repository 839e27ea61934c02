-- What a step promises, read off its definition: forwarded exactly if everything allows it, acknowledged exactly if due, the memory
-- exactly the accepted frame, and a series exactly the fold.
use Rattle.std.specs.Prelude.{Ok}
use Prim.Native.Nat.{ℕ, ◌≤◌}
use mathlib.Core.Bool.{Bool, true, false, not, cond, ◌&&◌, ◌||◌}
use mathlib.Core.List.{List, [], ◌∷◌}
use mathlib.Core.Logic.{◌↔◌}
use mathlib.Core.Path.{◌≡◌, refl, ap, ◌∙◌}
use native.Mathlib.Omega.{arith}
use lib.Dec.{eqb}
use lib.ListN.{length, drop}
use lib.Seq.{take_at}
use borrow.Author.Tests.{eqb-false, not-true, le-leb, ne_eqb}
use Rattle.coupler.proofs.StepLaws.{forwarded-ranged, indication-ranged}
use Rattle.coupler.specs.Memory.{kept, recalled, remembering, side_of, remembered_on}
use Rattle.coupler.specs.Series.{Input, Done, done_by, series, Follows}
use Rattle.coupler.specs.Step.{Coupler, from_ip, to_ip, Heard, is_for_itself, is_let_through, is_allowed, repeats, is_forwarded, acknowledgement_by, forwarded_meaning, indication, form_of, forwarded_octets, outcome_by, sent_by, Did, frame, nothing}
use Rattle.coupler.specs.declared.Acknowledgement.TheVariants.{Silence, Acknowledged}
use Rattle.coupler.specs.declared.Memory.{Memory}
use Rattle.coupler.specs.declared.Remembered.{Remembered}
use Rattle.coupler.specs.declared.Setting.{Setting}
use Rattle.frame.specs.Valid.{Valid}
use Rattle.frame.specs.declared.Meaning.{Meaning}
use Rattle.octets.proofs.Room.{laid-front, laid-length}
use Rattle.octets.proofs.Truth.{by_cases, and-true}
use Rattle.routing.proofs.LayoutLaws.{length-routing}
use Rattle.routing.proofs.RoundTrip.{routing-read}
use Rattle.routing.specs.Layout.{routing_octets}
use Rattle.routing.specs.Reading.{read_routing}
use Rattle.tp1.proofs.LayoutLaws.{length-octets}
use Rattle.tp1.proofs.RoundTrip.{laid-read}
use Rattle.tp1.specs.Layout.{tp1_octets}
use Rattle.tp1.specs.Reading.{read_tp1}

-- "A coupler forwards exactly if address, settings and hop count allow it and the frame is no repetition." (`is_let_through` holds of no frame
-- for the coupler itself.)
pub record Forwardable (k : Coupler) (remembered s : List ℕ) (m : Meaning) : Type 0 where
  pub passes : is_let_through k m ≡ true
  pub counted : m.count ≡ 0 → ⊥
  pub new : repeats k remembered s ≡ false

-- accepted, and let through
abbrev pub Forwards : Coupler → List ℕ → List ℕ → Heard → Type 0
Forwards k remembered s (frame m p) = Forwardable k remembered s m
Forwards k remembered s (nothing r) = ⊥

some-octets : (k : Coupler) (m : Meaning) (p : List ℕ) → length (forwarded_octets k m p) ≡ 0 → ⊥
unfolding form_of
some-octets k m p = go (to_ip k)
  where
    go : (b : Bool) → length (cond b (routing_octets (indication (forwarded_meaning k.setting m)) p) (tp1_octets (forwarded_meaning k.setting m) p)) ≡ 0 → ⊥
    go true e = omega (arith, length-routing (indication (forwarded_meaning k.setting m)) p)
    go false e = omega (arith, length-octets (forwarded_meaning k.setting m) p)

module _ (k : Coupler) (remembered s : List ℕ) where
  pub forwardable-iff : (m : Meaning) → is_forwarded k (repeats k remembered s) m ≡ true ↔ Forwardable k remembered s m
  forwardable-iff m = (
    (λ e.
        let a = and-true (is_allowed k m) (not (repeats k remembered s)) e in
        let q = and-true (is_let_through k m) (not (eqb m.count 0)) a.0 in
        record { passes = q.0; counted = eqb-false m.count 0 (not-true (eqb m.count 0) q.1); new = not-true (repeats k remembered s) a.1 }),
    (λ f. rw (f.passes, ne_eqb m.count 0 f.counted, f.new)),
  )

  pub forwarded-iff : (h : Heard) → ((outcome_by k remembered s h).forwarded ≡ 0 → ⊥) ↔ Forwards k remembered s h
  forwarded-iff (frame m p) = (go (is_forwarded k (repeats k remembered s) m) refl, λ f e. some-octets k m p (rw ((forwardable-iff m).1 f) at e))
    where
      go : (b : Bool) → is_forwarded k (repeats k remembered s) m ≡ b → (length (cond b (forwarded_octets k m p) []) ≡ 0 → ⊥) → Forwardable k remembered s m
      go true e n = (forwardable-iff m).0 e
      go false e n = absurd (n refl)
  forwarded-iff (nothing r) = ((λ n. absurd (n refl)), λ f. absurd f)

  -- what is sent is the layout of the meaning with the count by the hop rule and first sending
  pub sent_is : (m : Meaning) (p : List ℕ) → Forwardable k remembered s m → sent_by k remembered s (frame m p) ≡ forwarded_octets k m p
  sent_is m p f = rw ((forwardable-iff m).1 f)

-- and reads back, by the reader of its medium, as just that
forwarded-valid : (k : Setting) (m : Meaning) (p : List ℕ) → Valid m p → Valid (forwarded_meaning k m) p
forwarded-valid k m p v = record { ranges = forwarded-ranged k m (length p) v.ranges; source = v.source; destination = v.destination; octets = v.octets }

pub sent-reads-tp1 : (k : Coupler) (m : Meaning) (p : List ℕ) → Valid m p → to_ip k ≡ false → read_tp1 (forwarded_octets k m p) ≡ Ok (forwarded_meaning k.setting m)
unfolding form_of
sent-reads-tp1 k m p v e = rw e (laid-read (forwarded_meaning k.setting m) p (forwarded-valid k.setting m p v))

pub sent-reads-ip : (k : Coupler) (m : Meaning) (p : List ℕ) → Valid m p → to_ip k ≡ true → read_routing (forwarded_octets k m p) ≡ Ok (indication (forwarded_meaning k.setting m))
unfolding form_of
sent-reads-ip k m p v e =
    rw e (routing-read (indication (forwarded_meaning k.setting m)) p (record { ranges = indication-ranged k.setting m (length p) v.ranges; valid = forwarded-valid k.setting m p v }))

-- "A TP1 frame gets CCh exactly if it is for the coupler itself or, repetition or not, its address, codes and count allow forwarding"
pub acknowledged-iff : (k : Coupler) (remembered s : List ℕ) (m : Meaning) (p : List ℕ) → (outcome_by k remembered s (frame m p)).acknowledgement ≡ Acknowledged
    ↔ ((from_ip k ≡ false) × (is_for_itself k m || is_allowed k m ≡ true))
unfolding acknowledgement_by
acknowledged-iff k remembered s m p = go (not (from_ip k)) (is_for_itself k m || is_allowed k m) refl
  where
    go : (a b : Bool) → not (from_ip k) ≡ a → cond (a && b) Acknowledged Silence ≡ Acknowledged ↔ ((from_ip k ≡ false) × (b ≡ true))
    go true true e = ((λ x. (not-true (from_ip k) e, refl)), λ x. refl)
    go true false e = ((λ x. let z : ◌≡◌ {A = ℕ} 0 1 = cc in absurd (omega arith)), λ x. let z : ◌≡◌ {A = ℕ} 0 1 = cc x.1 in absurd (omega arith))
    go false b e = ((λ x. let z : ◌≡◌ {A = ℕ} 0 1 = cc in absurd (omega arith)), λ x. let z : ◌≡◌ {A = ℕ} 0 1 = cc x.0 in absurd (omega arith))

-- "Afterwards the accepted frame is the remembered one": what its side recalls then is the frame, and the other side recalls what it did

pub recalls : (r : Remembered) (s : List ℕ) → length r.octets ≡ 263 → length s ≤ 263 → recalled (remembering r s) ≡ s
unfolding recalled kept remembering
recalls r s n k = rw (le-leb (length s) 263 k, laid-front s r.octets (omega arith)) (take_at s (drop (length s) r.octets) (length s) refl)

pub remembers-main : (m : Memory) (s : List ℕ) → length m.main.octets ≡ 263 → length s ≤ 263 → (recalled (side_of (remembered_on m 0 s) 0) ≡ s) × ((remembered_on m 0 s).sub ≡ m.sub)
unfolding remembered_on
remembers-main m s n k = (recalls m.main s n k, refl)

pub remembers-sub : (m : Memory) (s : List ℕ) → length m.sub.octets ≡ 263 → length s ≤ 263 → (recalled (side_of (remembered_on m 1 s) 1) ≡ s) × ((remembered_on m 1 s).main ≡ m.main)
unfolding remembered_on
remembers-sub m s n k = (recalls m.sub s n k, refl)

-- a memory as its type has it: room for the largest frame on either side
pub record Roomy (m : Memory) : Type 0 where
  pub main : length m.main.octets ≡ 263
  pub sub : length m.sub.octets ≡ 263

pub remembered-roomy : (m : Memory) (side : ℕ) (s : List ℕ) → Roomy m → length s ≤ 263 → Roomy (remembered_on m side s)
unfolding remembered_on remembering
remembered-roomy m side s r k =
    by_cases (eqb side 0)
    (λ e. rw e (record { main = laid-length s 0 m.main.octets (omega (arith, r.main)) ∙ r.main; sub = r.sub }))
    (λ e. rw e (record { main = r.main; sub = laid-length s 0 m.sub.octets (omega (arith, r.sub)) ∙ r.sub }))

-- a series of steps, by value or in place, is the fold

done-one : (m : Memory) (i : Input) (d : Done) → Did i.coupler m i.octets i.room d.outcome d.memory d.room → d ≡ done_by m i
done-one m i d x = λ j. record { outcome = x.handed.outcome j; memory = x.memory j; room = x.handed.left j }

pub follows-series : (m : Memory) (is : List Input) (ds : List Done) → Follows m is ds → ds ≡ series m is
follows-series m [] [] f = refl
follows-series m [] (d ∷ ds) f = absurd f
follows-series m (i ∷ is) [] f = absurd f
follows-series m (i ∷ is) (d ∷ ds) f =
    let e : d ≡ done_by m i = done-one m i d f.0 in
    let q : ds ≡ series d.memory is = follows-series d.memory is ds f.1 in
    ap (λ (x : Done). x ∷ ds) e ∙ ap (λ (l : List Done). done_by m i ∷ l) (q ∙ ap (λ (x : Done). series x.memory is) e)
