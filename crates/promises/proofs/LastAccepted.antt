-- "Between frames each TP1 side remembers the last accepted frame that was received from it, at the start none", and R-2 over any series of
-- steps: from either side and from IP, under settings that may change, whatever is refused between. Said of inputs and answers alone. For a
-- step that accepts a frame from a TP1 side leaves it remembered of that side, and every other step leaves what the side remembers.
use Rattle.std.specs.Prelude.{Option, Some, None, is_none}
use Prim.Native.Nat.{ℕ, ◌<◌}
use mathlib.Core.Bool.{true, false, cond, not}
use mathlib.Core.List.{List, [], ◌∷◌, ◌++◌}
use mathlib.Core.Logic.{◌↔◌}
use mathlib.Core.Path.{◌≡◌, refl, sym, ap, ◌∙◌, subst}
use native.Mathlib.Omega.{arith}
use lib.Dec.{eqb}
use lib.ListN.{length, length-replicate}
use borrow.Author.Tests.{eqb-true, eqb-false, not-true}
use Rattle.coupler.proofs.Promised.{Roomy}
use Rattle.coupler.proofs.Repetition.{Agrees}
use Rattle.coupler.specs.Memory.{kept, recalled, zeros, no_memory, side_of}
use Rattle.coupler.specs.Series.{Input, Done, Follows, is_accepted_from, last_accepted}
use Rattle.coupler.specs.Step.{from_ip, is_allowed, Did}
use Rattle.coupler.specs.declared.Memory.{Memory}
use Rattle.frame.specs.declared.Meaning.{Meaning}
use Rattle.frame.specs.declared.Refusal.{Refusal}
use Rattle.octets.proofs.Truth.{never, by_cases, and-true}
use Rattle.octets.specs.Octets.{Octets}
use Rattle.tp1.proofs.LayoutLaws.{length-octets}
use Rattle.promises.proofs.Demand2.{IsFrame}
use Rattle.promises.proofs.Heard.{IsFrameOn, Hears, hears-side}
use Rattle.promises.proofs.Repetition.{Accepts, Stopped, Survives, is-frame, stopped-exactly, agreeing-stopped, differing-forwarded, SentAgain, IsAnother, again-exactly, another-survives}
use Rattle.promises.proofs.Step.{remembered_by, StepEnds, accepts, refuses, step-ends, accepts-exactly, other_side, Remembers, remembers-the-frame}

-- "at the start none"

none-roomy : Roomy no_memory
unfolding zeros
none-roomy = record { main = length-replicate {A = ℕ} 263 0; sub = length-replicate {A = ℕ} 263 0 }

none-recalled : (side : ℕ) → recalled (side_of no_memory side) ≡ []
unfolding recalled kept
none-recalled side = by_cases (eqb side 0) (λ e. rw e refl) (λ e. rw e refl)

-- what each side remembers after a step, in a memory as its type has it
pub record AfterStep (m : Memory) (i : Input) (d : Done) : Type 0 where
  pub roomy : Roomy d.memory
  pub recalls : (side : ℕ) → side < 2 → recalled (side_of d.memory side) ≡ cond (is_accepted_from side i d) i.octets (recalled (side_of m side))

module _ (m : Memory) (i : Input) (d : Done) where
  pub unchanged : Roomy m → d.memory ≡ m → ((side : ℕ) → is_accepted_from side i d ≡ false) → AfterStep m i d
  unchanged y e n = record { roomy = subst Roomy (sym e) y; recalls = λ side b. rw (n side, e) refl }

  remembered : d.outcome.refusal ≡ None → from_ip i.coupler ≡ false → i.coupler.setting.side < 2 → Remembers m d.memory i.coupler.setting.side i.octets → AfterStep m i d
  remembered z e one r = record { roomy = r.roomy; recalls = recalls }
    where
      own : ℕ
      own = i.coupler.setting.side

      recalls : (side : ℕ) → side < 2 → recalled (side_of d.memory side) ≡ cond (is_accepted_from side i d) i.octets (recalled (side_of m side))
      recalls side b =
          by_cases (eqb own side)
          (λ same. rw (z, e, same) (subst (λ (n : ℕ). recalled (side_of d.memory n) ≡ i.octets) (eqb-true own side same) r.received))
          (λ differ.
          let n : own ≡ side → ⊥ = eqb-false own side differ in
          let other : other_side own ≡ side = omega arith in
          rw (z, e, differ) (ap recalled (subst (λ (n : ℕ). side_of d.memory n ≡ side_of m n) other r.other)))

  pub after-step : Roomy m → Octets i.octets → Did i.coupler m i.octets i.room d.outcome d.memory d.room → AfterStep m i d
  after-step y c f = go (step-ends i.coupler m i.octets i.room d.outcome d.memory d.room c f)
    where
      go : StepEnds i.coupler m i.octets i.room d.outcome d.memory d.room → AfterStep m i d
      go (refuses r first a) = unchanged y a.remembers-as-before (λ side. rw a.refused refl)
      go (accepts x p h a) =
          by_cases (from_ip i.coupler) (λ e. unchanged y (a.forgets-nothing e) (λ side. rw (a.accepted, e) refl))
          (λ e.
          remembered a.accepted e (hears-side h)
          (remembers-the-frame i.coupler m d.memory i.octets i.room d.room d.outcome c f y (record { meaning = x; payload = p; hears = h; has = tt }) e))

abbrev pub AllOctets : List Input → Type 0
AllOctets [] = Unit {0}
AllOctets (i ∷ is) = Octets i.octets × AllOctets is

-- the last step of a series, and the memory that those before it left
pub record Last (m : Memory) (is : List Input) (ds : List Done) (i : Input) (d : Done) : Type 0 where
  pub memory : Memory
  pub recalls : (side : ℕ) → side < 2 → recalled (side_of memory side) ≡ last_accepted side (recalled (side_of m side)) is ds
  pub did : Did i.coupler memory i.octets i.room d.outcome d.memory d.room

pub one_more : {m : Memory} {is : List Input} {ds : List Done} {i : Input} {d : Done} (j : Input) (e : Done) → AfterStep m j e → Last e.memory is ds i d → Last m (j ∷ is) (e ∷ ds) i d
one_more {is = is} {ds} j e then rest = record {
  memory = rest.memory;
  recalls = λ side b. rest.recalls side b ∙ ap (λ (l : List ℕ). last_accepted side l is ds) (then.recalls side b);
  did = rest.did;
}

last_of : (m : Memory) (is : List Input) (ds : List Done) (i : Input) (d : Done) → Roomy m → AllOctets is → Follows m (is ++ (i ∷ [])) (ds ++ (d ∷ [])) → Last m is ds i d
last_of m [] [] i d r c f = record { memory = m; recalls = λ side b. refl; did = f.0 }
last_of m [] (e ∷ []) i d r c f = absurd f.1
last_of m [] (e ∷ g ∷ ds) i d r c f = absurd f.1
last_of m (j ∷ []) [] i d r c f = absurd f.1
last_of m (j ∷ l ∷ is) [] i d r c f = absurd f.1
last_of m (j ∷ is) (e ∷ ds) i d r c f =
    let then = after-step m j e r c.0 f.0 in
    one_more j e then (last_of e.memory is ds i d then.roomy c.1 f.1)

-- what was accepted last before a step, from the side that it hears; no octets if nothing was
abbrev pub preceding_by : Input → List Input → List Done → List ℕ
preceding_by i is ds = last_accepted i.coupler.setting.side [] is ds

-- it hears a frame from TP1 that address, codes and count let through: what was accepted last decides
module _ {is : List Input} {ds : List Done} {i : Input} {d : Done} (own : Octets i.octets) (last : Last no_memory is ds i d) {x : Meaning} {p : List ℕ}
    (on-tp1 : from_ip i.coupler ≡ false) (h : Hears i.coupler i.octets (length i.room) x p) (allowed : is_allowed i.coupler x ≡ true) where
  pub last_step : Accepts i.coupler last.memory i.octets i.room x p d.outcome d.memory d.room
  last_step = record { octets = own; did = last.did; on-tp1 = on-tp1; hears = h }

  pub last-recalls : remembered_by i.coupler last.memory ≡ preceding_by i is ds
  last-recalls =
      let side = i.coupler.setting.side in
      last.recalls side (hears-side h) ∙ ap (λ (l : List ℕ). last_accepted side l is ds) (none-recalled side)

  pub stopped-after : d.outcome.forwarded ≡ 0 ↔ ((x.first ≡ false) × Agrees (preceding_by i is ds) i.octets)
  stopped-after = subst (λ (l : List ℕ). d.outcome.forwarded ≡ 0 ↔ ((x.first ≡ false) × Agrees l i.octets)) last-recalls (stopped-exactly last_step allowed)

  pub acknowledged-after : (x.first ≡ false) × Agrees (preceding_by i is ds) i.octets → Stopped i.room d.outcome d.room
  acknowledged-after (e, g) = agreeing-stopped last_step allowed (e, subst (λ (l : List ℕ). Agrees l i.octets) (sym last-recalls) g)

  pub forwarded-after : ((x.first ≡ false) × Agrees (preceding_by i is ds) i.octets → ⊥) → Survives i.coupler x p i.room d.outcome d.room
  forwarded-after n = differing-forwarded last_step allowed (λ (e, g). n (e, subst (λ (l : List ℕ). Agrees l i.octets) last-recalls g))

-- what a side can have accepted last: nothing, or a frame
pub data NoneOrFrame (s : List ℕ) : Type 0 where
  none : s ≡ [] → NoneOrFrame s
  some : (x : Meaning) (p : List ℕ) → IsFrame s x p → NoneOrFrame s

is-none : (o : Option Refusal) → is_none o ≡ true → o ≡ None
is-none None e = refl
is-none (Some r) e = never (sym e)

accepted-frame : (m : Memory) (i : Input) (d : Done) (side : ℕ) → Octets i.octets → Did i.coupler m i.octets i.room d.outcome d.memory d.room
    → is_accepted_from side i d ≡ true → NoneOrFrame i.octets
accepted-frame m i d side c f e =
    let none = and-true (is_none d.outcome.refusal) _ e in
    let on-tp1 : from_ip i.coupler ≡ false = not-true (from_ip i.coupler) (and-true (not (from_ip i.coupler)) _ none.1).0 in
    let heard = (accepts-exactly i.coupler m d.memory i.octets i.room d.room d.outcome c f).0 (is-none d.outcome.refusal none.0) in
    some heard.meaning heard.payload (subst (IsFrameOn i.octets heard.meaning heard.payload) on-tp1 heard.hears.is)

last_frame : (side : ℕ) (before : List ℕ) (m : Memory) (is : List Input) (ds : List Done) (i : Input) (d : Done) → AllOctets is → Follows m (is ++ (i ∷ [])) (ds ++ (d ∷ []))
    → NoneOrFrame before → NoneOrFrame (last_accepted side before is ds)
last_frame side before m [] ds i d c f n = n
last_frame side before m (j ∷ is) [] i d c f n = n
last_frame side before m (j ∷ is) (e ∷ ds) i d c f n =
    last_frame side (cond (is_accepted_from side j e) j.octets before) e.memory is ds i d c.1 f.1
    (by_cases (is_accepted_from side j e) (λ t. rw t (accepted-frame m j e side c.0 f.0 t)) (λ t. rw t n))

-- any series of steps from the start: its last, and those before it
module _ (is : List Input) (ds : List Done) (i : Input) (d : Done) (octets : AllOctets is) (own : Octets i.octets) (series : Follows no_memory (is ++ (i ∷ [])) (ds ++ (d ∷ []))) where
  last : Last no_memory is ds i d
  last = last_of no_memory is ds i d none-roomy octets series

  abbrev pub preceding : List ℕ
  preceding = preceding_by i is ds

  pub preceding-is : NoneOrFrame preceding
  preceding-is = last_frame i.coupler.setting.side [] no_memory is ds i d octets series (none refl)

  -- it hears a frame from TP1 that address, codes and count let through
  module _ {x : Meaning} {p : List ℕ} (on-tp1 : from_ip i.coupler ≡ false) (h : Hears i.coupler i.octets (length i.room) x p) (allowed : is_allowed i.coupler x ≡ true) where
    -- that is not forwarded exactly if it is marked repeated and agrees with what was accepted last ..
    pub stopped-in-a-series : d.outcome.forwarded ≡ 0 ↔ ((x.first ≡ false) × Agrees preceding i.octets)
    stopped-in-a-series = stopped-after own last on-tp1 h allowed

    -- .. which is then acknowledged all the same, and the room stays ..
    pub acknowledged-in-a-series : (x.first ≡ false) × Agrees preceding i.octets → Stopped i.room d.outcome d.room
    acknowledged-in-a-series = acknowledged-after own last on-tp1 h allowed

    -- .. and any other is acknowledged and forwarded
    pub forwarded-in-a-series : ((x.first ≡ false) × Agrees preceding i.octets → ⊥) → Survives i.coupler x p i.room d.outcome d.room
    forwarded-in-a-series = forwarded-after own last on-tp1 h allowed

    -- "at the start none": where nothing was accepted yet from its side, nothing is a repetition
    pub first-from-its-side : preceding ≡ [] → Survives i.coupler x p i.room d.outcome d.room
    first-from-its-side e =
        forwarded-in-a-series (λ (first, g). let f = is-frame (last_step own last on-tp1 h allowed) in omega (arith, ap length e, g.number, ap length f.layout, length-octets x p))

    -- where a frame was, the next is stopped exactly if it is that one sent again, whatever came between and was refused, or was heard from the
    -- other side; and the repeat of another, as of the customer's second telegram, is forwarded
    module _ {y : Meaning} {q : List ℕ} (before : IsFrame preceding y q) where
      pub again-in-a-series : d.outcome.forwarded ≡ 0 ↔ SentAgain y q x p
      again-in-a-series = again-exactly preceding before (last-recalls own last on-tp1 h allowed) (last_step own last on-tp1 h allowed) allowed

      pub increment-survives-in-a-series : IsAnother y q x p → Survives i.coupler x p i.room d.outcome d.room
      increment-survives-in-a-series n = another-survives preceding before (last-recalls own last on-tp1 h allowed) (last_step own last on-tp1 h allowed) n allowed
