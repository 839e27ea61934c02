-- Request R-2, of every outcome, memory and room that a step's contract allows: an accepted frame marked repeated is a repetition exactly if
-- "all octets .. agree except the repeat bit and the check octet". Octet by octet it is compared with what its side remembers; after a frame
-- was accepted it is that frame sent again, and no other.
use Rattle.std.specs.Prelude.{None}
use Prim.Native.Nat.{ℕ}
use mathlib.Core.Bool.{true, false, ◌||◌}
use mathlib.Core.List.{List, []}
use mathlib.Core.Logic.{◌↔◌}
use mathlib.Core.Path.{◌≡◌, refl, sym, ap, ◌∙◌, subst}
use lib.ListN.{length}
use Rattle.coupler.proofs.Apart.{frame-nothing, frame-one, nothing-one}
use Rattle.coupler.proofs.Answers.{acknowledgement-apart}
use Rattle.coupler.proofs.Promised.{Forwardable, forwardable-iff, Roomy}
use Rattle.coupler.proofs.Repetition.{Agrees, repeated, repetition-iff, frame-repeats}
use Rattle.coupler.specs.Memory.{is_repetition}
use Rattle.coupler.specs.Step.{Coupler, step_tests, from_ip, heard, frame, nothing, kind_of, is_for_itself, is_let_through, is_allowed, forwarded_octets, Did, acknowledgement_number}
use Rattle.coupler.specs.declared.Memory.{Memory}
use Rattle.coupler.specs.declared.Outcome.{Outcome}
use Rattle.frame.specs.Order.{FirstIs}
use Rattle.frame.specs.declared.Meaning.{Meaning}
use Rattle.frame.specs.declared.Refusal.{Refusal}
use Rattle.octets.proofs.Truth.{by_cases, never, and-true, or_right}
use Rattle.octets.specs.Octets.{Octets}
use Rattle.octets.specs.Room.{over}
use Rattle.tp1.specs.Layout.{tp1_octets}
use Rattle.promises.proofs.Demand2.{IsFrame}
use Rattle.promises.proofs.Heard.{IsFrameOn, Hears, hears-iff, refuses-iff}
use Rattle.promises.proofs.Step.{remembered_by, Earns, Draws, Refuses, StepEnds, accepts, refuses, step-ends, forwards-exactly, remembers-the-frame, own-never-passes}

-- a step that accepts a frame from TP1
pub record Accepts (k : Coupler) (m : Memory) (s room : List ℕ) (x : Meaning) (p : List ℕ) (o : Outcome) (m' : Memory) (room' : List ℕ) : Type 0 where
  pub octets : Octets s
  pub did : Did k m s room o m' room'
  pub on-tp1 : from_ip k ≡ false
  pub hears : Hears k s (length room) x p

-- a step that refuses what it is given
pub record Rejects (k : Coupler) (m : Memory) (s room : List ℕ) (r : Refusal) (o : Outcome) (m' : Memory) (room' : List ℕ) : Type 0 where
  pub octets : Octets s
  pub did : Did k m s room o m' room'
  pub first : FirstIs (step_tests k s (length room)) r

-- the answer to a frame that address, codes and count let through: "repetition or not" it is acknowledged, and these octets are forwarded
pub record AnsweredWith (octets room : List ℕ) (o : Outcome) (room' : List ℕ) : Type 0 where
  pub accepted : o.refusal ≡ None
  pub acknowledged : acknowledgement_number o.acknowledgement ≡ 0xCC
  pub not_itself : o.own ≡ false
  pub forwarded : o.forwarded ≡ length octets
  pub left : room' ≡ over octets room

-- none, where it is a repetition
abbrev pub Stopped : List ℕ → Outcome → List ℕ → Type 0
Stopped room o room' = AnsweredWith [] room o room'

-- the frame, where it is none
abbrev pub Survives : Coupler → Meaning → List ℕ → List ℕ → Outcome → List ℕ → Type 0
Survives k x p room o room' = AnsweredWith (forwarded_octets k x p) room o room'

-- that leaves no choice of outcome or room
pub answered-one : {octets room : List ℕ} {o₁ o₂ : Outcome} {room₁ room₂ : List ℕ} → AnsweredWith octets room o₁ room₁ → AnsweredWith octets room o₂ room₂ → (o₁ ≡ o₂) × (room₁ ≡ room₂)
answered-one {o₁ = o₁} {o₂} a b =
    let refusal : o₁.refusal ≡ o₂.refusal = a.accepted ∙ sym b.accepted in
    let acknowledgement : o₁.acknowledgement ≡ o₂.acknowledgement = acknowledgement-apart _ _ (a.acknowledged ∙ sym b.acknowledged) in
    let own : o₁.own ≡ o₂.own = a.not_itself ∙ sym b.not_itself in
    let forwarded : o₁.forwarded ≡ o₂.forwarded = a.forwarded ∙ sym b.forwarded in
    ((λ i. record { refusal = refusal i; acknowledgement = acknowledgement i; own = own i; forwarded = forwarded i }), a.left ∙ sym b.left)

module _ {k : Coupler} {m : Memory} {s room : List ℕ} {o : Outcome} {m' : Memory} {room' : List ℕ} where
  -- such a step draws what its frame draws ..
  draws : {x : Meaning} {p : List ℕ} → Accepts k m s room x p o m' room' → Draws k m s room x p o m' room'
  draws {x} {p} a = go (step-ends k m s room o m' room' a.octets a.did)
    where
      e : heard k s (length room) ≡ frame x p
      e = (hears-iff k s (length room) x p a.octets).1 a.hears

      go : StepEnds k m s room o m' room' → Draws k m s room x p o m' room'
      go (accepts y q h d) =
          let one = frame-one (sym ((hears-iff k s (length room) y q a.octets).1 h) ∙ e) in
          subst (λ (z : Meaning). Draws k m s room z p o m' room') one.0 (subst (λ (l : List ℕ). Draws k m s room y l o m' room') one.1 d)
      go (refuses r f d) = frame-nothing (sym ((refuses-iff k s (length room) r).1 f) ∙ e)

  -- .. and is given the octets of that frame
  pub is-frame : {x : Meaning} {p : List ℕ} → Accepts k m s room x p o m' room' → IsFrame s x p
  is-frame {x} {p} a = subst (IsFrameOn s x p) a.on-tp1 a.hears.is

  -- where address, codes and count allow forwarding, what is remembered decides
  goes_on : {x : Meaning} {p : List ℕ} → Accepts k m s room x p o m' room' → is_allowed k x ≡ true → is_repetition (remembered_by k m) s ≡ false → Forwardable k (remembered_by k m) s x
  goes_on {x} a allowed e = (forwardable-iff k (remembered_by k m) s x).0 (rw (allowed, a.on-tp1, e) refl)

  earned : {x : Meaning} {p : List ℕ} → Accepts k m s room x p o m' room' → is_allowed k x ≡ true → Earns k x
  earned {x} a allowed = record { on-tp1 = a.on-tp1; addressed = or_right (is_for_itself k x) (is_allowed k x) allowed }

  not_own : {x : Meaning} {p : List ℕ} → Accepts k m s room x p o m' room' → is_allowed k x ≡ true → o.own ≡ false
  not_own {x} a allowed =
      let passes = (and-true (is_let_through k x) _ allowed).0 in
      (draws a).itself ∙ by_cases (is_for_itself k x) (λ e. never (sym passes ∙ own-never-passes k.setting.line k.codes k.table k.setting.side (kind_of x) x.destination e)) (λ e. e)

  survives : {x : Meaning} {p : List ℕ} → Accepts k m s room x p o m' room' → is_allowed k x ≡ true → (is_repetition (remembered_by k m) s ≡ true → ⊥) → Survives k x p room o room'
  survives a allowed n =
      let forwarded = (draws a).forwards (goes_on a allowed (by_cases (is_repetition (remembered_by k m) s) (λ e. absurd (n e)) (λ e. e))) in
      record { accepted = (draws a).accepted; acknowledged = (draws a).acknowledged (earned a allowed); not_itself = not_own a allowed; forwarded = forwarded.0; left = forwarded.1 }

  stays-back : {x : Meaning} {p : List ℕ} → Accepts k m s room x p o m' room' → is_repetition (remembered_by k m) s ≡ true → (o.forwarded ≡ 0) × (room' ≡ room)
  stays-back a e = (draws a).stops (λ f. never (sym (rw (a.on-tp1, e) refl) ∙ f.new))

  decides : {x : Meaning} {p : List ℕ} → Accepts k m s room x p o m' room' → is_allowed k x ≡ true → o.forwarded ≡ 0 ↔ (is_repetition (remembered_by k m) s ≡ true)
  decides {x} {p} a allowed = (
    (λ z.
        by_cases (is_repetition (remembered_by k m) s) (λ e. e)
        (λ e. absurd ((forwards-exactly k m m' s room room' o a.octets a.did).1 (record { meaning = x; payload = p; hears = a.hears; has = goes_on a allowed e }) z))),
    (λ e. (stays-back a e).0),
  )

  places : {x : Meaning} {p : List ℕ} → Accepts k m s room x p o m' room' → is_repetition (remembered_by k m) s ≡ true ↔ ((x.first ≡ false) × Agrees (remembered_by k m) s)
  places {x} {p} a =
      let f = is-frame a in
      subst (λ (l : List ℕ). is_repetition (remembered_by k m) l ≡ true ↔ ((x.first ≡ false) × Agrees (remembered_by k m) l)) (sym f.layout) (repetition-iff (remembered_by k m) x p f.valid)

  -- a frame that address, codes and count let through is not forwarded exactly if it is marked repeated and its octets agree, place by place
  -- and in number, with those that its side remembers ..
  pub stopped-exactly : {x : Meaning} {p : List ℕ} → Accepts k m s room x p o m' room' → is_allowed k x ≡ true → o.forwarded ≡ 0 ↔ ((x.first ≡ false) × Agrees (remembered_by k m) s)
  stopped-exactly a allowed = ((λ z. (places a).0 ((decides a allowed).0 z)), λ g. (decides a allowed).1 ((places a).1 g))

  pub agreeing-stopped : {x : Meaning} {p : List ℕ} → Accepts k m s room x p o m' room' → is_allowed k x ≡ true → (x.first ≡ false) × Agrees (remembered_by k m) s → Stopped room o room'
  agreeing-stopped a allowed g =
      let stopped = stays-back a ((places a).1 g) in
      record { accepted = (draws a).accepted; acknowledged = (draws a).acknowledged (earned a allowed); not_itself = not_own a allowed; forwarded = stopped.0; left = stopped.1 }

  -- .. and any other is forwarded
  pub differing-forwarded : {x : Meaning} {p : List ℕ} → Accepts k m s room x p o m' room' → is_allowed k x ≡ true → ((x.first ≡ false) × Agrees (remembered_by k m) s → ⊥) → Survives k x p room o room'
  differing-forwarded a allowed n = survives a allowed (λ e. n ((places a).0 e))

-- a step that is given something else refuses it
refused-by : {k : Coupler} {m m' : Memory} {s room room' : List ℕ} {r : Refusal} {o : Outcome} → Rejects k m s room r o m' room' → Refuses m room r o m' room'
refused-by {k} {m} {m'} {s} {room} {room'} {r} {o} b = go (step-ends k m s room o m' room' b.octets b.did)
  where
    e : heard k s (length room) ≡ nothing r
    e = (refuses-iff k s (length room) r).1 b.first

    go : StepEnds k m s room o m' room' → Refuses m room r o m' room'
    go (accepts y q h d) = frame-nothing (sym e ∙ (hears-iff k s (length room) y q b.octets).1 h)
    go (refuses z f d) = subst (λ (w : Refusal). Refuses m room w o m' room') (nothing-one (sym ((refuses-iff k s (length room) z).1 f) ∙ e)) d

-- a frame sent again: the same in all but the repeat flag, which says repeated
pub record SentAgain (x : Meaning) (p : List ℕ) (y : Meaning) (q : List ℕ) : Type 0 where
  pub marked : y.first ≡ false
  pub format : y.extended ≡ x.extended
  pub priority : y.priority ≡ x.priority
  pub source : y.source ≡ x.source
  pub group : y.group ≡ x.group
  pub destination : y.destination ≡ x.destination
  pub count : y.count ≡ x.count
  pub payload : q ≡ p

again-iff : (x y : Meaning) (p q : List ℕ) → ((y ≡ repeated x) × (q ≡ p)) ↔ SentAgain x p y q
again-iff x y p q = (
  (λ (e, f). record {
    marked = ap (λ (m : Meaning). m.first) e;
    format = ap (λ (m : Meaning). m.extended) e;
    priority = ap (λ (m : Meaning). m.priority) e;
    source = ap (λ (m : Meaning). m.source) e;
    group = ap (λ (m : Meaning). m.group) e;
    destination = ap (λ (m : Meaning). m.destination) e;
    count = ap (λ (m : Meaning). m.count) e;
    payload = f;
  }),
  (λ g. (
    (λ i. record {
      extended = g.format i;
      first = g.marked i;
      priority = g.priority i;
      source = g.source i;
      group = g.group i;
      destination = g.destination i;
      count = g.count i;
    }),
    g.payload,
  )),
)

-- a first sending, or a frame of another format, priority, source, address, count, payload or length
pub data IsAnother (x : Meaning) (p : List ℕ) (y : Meaning) (q : List ℕ) : Type 0 where
  first-sending : y.first ≡ true → IsAnother x p y q
  other_format : (y.extended ≡ x.extended → ⊥) → IsAnother x p y q
  other-priority : (y.priority ≡ x.priority → ⊥) → IsAnother x p y q
  other-source : (y.source ≡ x.source → ⊥) → IsAnother x p y q
  other-group : (y.group ≡ x.group → ⊥) → IsAnother x p y q
  other-destination : (y.destination ≡ x.destination → ⊥) → IsAnother x p y q
  other-count : (y.count ≡ x.count → ⊥) → IsAnother x p y q
  other-payload : (q ≡ p → ⊥) → IsAnother x p y q
  other_length : (length q ≡ length p → ⊥) → IsAnother x p y q

not-again : {x y : Meaning} {p q : List ℕ} → IsAnother x p y q → SentAgain x p y q → ⊥
not-again (first-sending e) g = never (sym e ∙ g.marked)
not-again (other_format n) g = n g.format
not-again (other-priority n) g = n g.priority
not-again (other-source n) g = n g.source
not-again (other-group n) g = n g.group
not-again (other-destination n) g = n g.destination
not-again (other-count n) g = n g.count
not-again (other-payload n) g = n g.payload
not-again (other_length n) g = n (ap length g.payload)

-- what an accepted frame leaves for the next
accepted-recalled : {k : Coupler} {m m' : Memory} {s room room' : List ℕ} {o : Outcome} {x : Meaning} {p : List ℕ} → Roomy m → Accepts k m s room x p o m' room' → remembered_by k m' ≡ s
accepted-recalled {k} {m} {m'} {s} {room} {room'} {o} {x} {p} roomy a =
    (remembers-the-frame k m m' s room room' o a.octets a.did roomy (record { meaning = x; payload = p; hears = a.hears; has = tt }) a.on-tp1).received

-- the frame t that a side remembers, as what it means, and a frame that comes behind it
module _ {k : Coupler} {m : Memory} {s room : List ℕ} {o : Outcome} {m' : Memory} {room' : List ℕ} {x y : Meaning} {p q : List ℕ}
    (t : List ℕ) (f : IsFrame t x p) (r : remembered_by k m ≡ t) (a : Accepts k m s room y q o m' room') where
  comes-again : is_repetition (remembered_by k m) s ≡ true ↔ SentAgain x p y q
  comes-again =
      let e : is_repetition (remembered_by k m) s ≡ is_repetition (tp1_octets x p) (tp1_octets y q) = λ i. is_repetition ((r ∙ f.layout) i) ((is-frame a).layout i) in
      let frames = frame-repeats x y p q f.valid (is-frame a).valid in
      ((λ z. (again-iff x y p q).0 (frames.0 (sym e ∙ z))), λ g. e ∙ frames.1 ((again-iff x y p q).1 g))

  -- "A repetition isn't forwarded."
  again-stopped : SentAgain x p y q → (o.forwarded ≡ 0) × (room' ≡ room)
  again-stopped g = stays-back a (comes-again.1 g)

  pub again-exactly : is_allowed k y ≡ true → o.forwarded ≡ 0 ↔ SentAgain x p y q
  again-exactly allowed = ((λ z. comes-again.0 ((decides a allowed).0 z)), λ g. (decides a allowed).1 (comes-again.1 g))

  pub another-survives : IsAnother x p y q → is_allowed k y ≡ true → Survives k y q room o room'
  another-survives n allowed = survives a allowed (λ e. not-again n (comes-again.0 e))

-- two steps from one side: the first accepts a frame, whether marked repeated or not, and a frame comes behind it
module _ {k : Coupler} {m m₁ m₂ : Memory} {s t room₁ room₂ room₁' room₂' : List ℕ} {o₁ o₂ : Outcome} {x y : Meaning} {p q : List ℕ}
    (roomy : Roomy m) (a : Accepts k m s room₁ x p o₁ m₁ room₁') (b : Accepts k m₁ t room₂ y q o₂ m₂ room₂') where
  -- that is stopped exactly if it is the first frame sent again ..
  pub repetition-exactly : is_allowed k y ≡ true → o₂.forwarded ≡ 0 ↔ SentAgain x p y q
  repetition-exactly = again-exactly s (is-frame a) (accepted-recalled roomy a) b

  -- .. which draws what the first drew, but is not forwarded: "repetition or not", it is acknowledged ..
  pub repeat-stopped : SentAgain x p y q → (o₂ ≡ record { refusal = None; acknowledgement = o₁.acknowledgement; own = o₁.own; forwarded = 0 }) × (room₂' ≡ room₂)
  repeat-stopped g =
      let stopped = again-stopped s (is-frame a) (accepted-recalled roomy a) b g in
      let e : y ≡ repeated x = ((again-iff x y p q).1 g).0 in
      let own : o₂.own ≡ o₁.own = (draws b).itself ∙ ap (is_for_itself k) e ∙ sym (draws a).itself in
      let acknowledgement : o₂.acknowledgement ≡ o₁.acknowledgement = acknowledgement-apart _ _ (acknowledged-alike e) in
      ((λ i. record { refusal = (draws b).accepted i; acknowledgement = acknowledgement i; own = own i; forwarded = stopped.0 i }), stopped.1)
    where
      acknowledged-alike : y ≡ repeated x → acknowledgement_number o₂.acknowledgement ≡ acknowledgement_number o₁.acknowledgement
      acknowledged-alike e =
          let due : is_for_itself k y || is_allowed k y ≡ is_for_itself k x || is_allowed k x = ap (λ (z : Meaning). is_for_itself k z || is_allowed k z) e in
          by_cases (is_for_itself k x || is_allowed k x)
          (λ h. (draws b).acknowledged (record { on-tp1 = b.on-tp1; addressed = due ∙ h }) ∙ sym ((draws a).acknowledged (record { on-tp1 = a.on-tp1; addressed = h })))
          (λ h. (draws b).silent (λ z. never (sym z.addressed ∙ due ∙ h)) ∙ sym ((draws a).silent (λ z. never (sym z.addressed ∙ h))))

  -- .. and any other is acknowledged and forwarded, where address, codes and count allow it
  pub other-forwarded : IsAnother x p y q → is_allowed k y ≡ true → Survives k y q room₂ o₂ room₂'
  other-forwarded = another-survives s (is-frame a) (accepted-recalled roomy a) b

-- The customer's story: "Our meter's second telegram was damaged on its first sending, its repeat came marked repeated". The first telegram is
-- accepted, what is left of the second is refused, and its repeat, which is not the first telegram sent again, is acknowledged and forwarded.
module _ {k : Coupler} {m m₁ m₂ m₃ : Memory} {one damaged repeat room₁ room₂ room₃ room₁' room₂' room₃' : List ℕ} {o₁ o₂ o₃ : Outcome} {x y : Meaning} {p q : List ℕ} {r : Refusal}
    (roomy : Roomy m) (a : Accepts k m one room₁ x p o₁ m₁ room₁') (b : Rejects k m₁ damaged room₂ r o₂ m₂ room₂') (c : Accepts k m₂ repeat room₃ y q o₃ m₃ room₃') where
  still-recalled : remembered_by k m₂ ≡ one
  still-recalled = ap (remembered_by k) (refused-by b).remembers-as-before ∙ accepted-recalled roomy a

  pub increment-survives : IsAnother x p y q → is_allowed k y ≡ true → Refuses m₁ room₂ r o₂ m₂ room₂' × Survives k y q room₃ o₃ room₃'
  increment-survives n allowed = (refused-by b, another-survives one (is-frame a) still-recalled c n allowed)

  -- where the second telegram has the first one's octets no rule can tell the two stories apart: its repeat is a repetition
  pub equal-increment-lost : SentAgain x p y q → (o₃.forwarded ≡ 0) × (room₃' ≡ room₃)
  equal-increment-lost = again-stopped one (is-frame a) still-recalled c
