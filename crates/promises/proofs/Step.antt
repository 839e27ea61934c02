-- The coupler's step, of every outcome, memory and room that its contract allows. Of demand 1: it ends with what an accepted frame draws, or
-- with the first refusal of the settings' and the reader's one order. Of demand 2: "A coupler forwards exactly if address, settings and hop
-- count allow it and the frame is no repetition."
use Rattle.std.specs.Prelude.{Some, None}
use Prim.Native.Nat.{ℕ, ◌-◌, ◌≤◌, ◌<◌}
use mathlib.Core.Bool.{Bool, true, false, cond, not, ◌&&◌, ◌||◌}
use mathlib.Core.List.{List, []}
use mathlib.Core.Logic.{◌↔◌}
use mathlib.Core.Path.{◌≡◌, refl, sym, ap, ◌∙◌, subst, transport}
use native.Mathlib.Omega.{arith}
use lib.Dec.{eqb}
use lib.ListN.{length}
use borrow.Author.Tests.{eqb-true, eqb-false, ne_eqb}
use Rattle.coupler.proofs.Answers.{acknowledgement-apart}
use Rattle.coupler.proofs.Apart.{frame-nothing}
use Rattle.coupler.proofs.Promised.{Forwardable, forwardable-iff, forwarded-iff, acknowledged-iff, remembers-main, remembers-sub, Roomy, remembered-roomy}
use Rattle.coupler.proofs.Refusals.{refusal-iff}
use Rattle.coupler.proofs.StepLaws.{forwarded-ranged, heard-size}
use Rattle.coupler.specs.Memory.{recalled, side_of, remembered_on}
use Rattle.octets.proofs.Truth.{never}
use Rattle.passing.specs.Passing.{is_own, may_pass}
use Rattle.coupler.specs.Step.{Coupler, step_tests, from_ip, to_ip, Heard, frame, nothing, heard, is_for_itself, is_allowed, repeats, is_forwarded, acknowledgement_by, forwarded_meaning, indication, form_of, forwarded_octets, refused_outcome, outcome_by, sent_by, memory_after, Did, acknowledgement_number}
use Rattle.coupler.specs.declared.Acknowledgement.TheVariants.{Silence, Acknowledged}
use Rattle.coupler.specs.declared.Memory.{Memory}
use Rattle.coupler.specs.declared.Outcome.{Outcome}
use Rattle.coupler.specs.declared.Setting.{Setting}
use Rattle.frame.proofs.Apart.{none-some}
use Rattle.frame.specs.Order.{FirstIs}
use Rattle.frame.specs.Refusals.{number}
use Rattle.frame.specs.Valid.{Valid}
use Rattle.frame.specs.declared.Meaning.{Meaning}
use Rattle.frame.specs.declared.Refusal.{Refusal}
use Rattle.klumdray.specs.Block.{memory_in, outcome_number, heard_through, SteppedThrough}
use Rattle.octets.specs.Octets.{Octets}
use Rattle.octets.specs.Room.{over}
use Rattle.routing.specs.Layout.{routing_octets}
use Rattle.tp1.specs.Layout.{tp1_octets}
use Rattle.cemi.specs.Layout.{plain_bits, plain}
use Rattle.cemi.specs.Valid.{ValidInformation}
use Rattle.promises.proofs.Heard.{IsFrameOn, valid-indication, Hears, hears-side, hears-iff, refuses-iff}

-- the frame that the receiving side remembers
abbrev pub remembered_by : Coupler → Memory → List ℕ
remembered_by k m = recalled (side_of m k.setting.side)

-- what earns CCh: "A TP1 frame gets CCh exactly if it is for the coupler itself or, repetition or not, its address, codes and count allow
-- forwarding"
pub record Earns (k : Coupler) (x : Meaning) : Type 0 where
  pub on-tp1 : from_ip k ≡ false
  pub addressed : is_for_itself k x || is_allowed k x ≡ true

-- what an accepted frame draws
pub record Draws (k : Coupler) (m : Memory) (s room : List ℕ) (x : Meaning) (p : List ℕ) (o : Outcome) (m' : Memory) (room' : List ℕ) : Type 0 where
  pub accepted : o.refusal ≡ None
  -- CCh where it is earned, "otherwise no acknowledgement"
  pub acknowledged : Earns k x → acknowledgement_number o.acknowledgement ≡ 0xCC
  pub silent : (Earns k x → ⊥) → acknowledgement_number o.acknowledgement ≡ 0
  -- "A frame with AT 0 to the coupler's own address is for itself"
  pub itself : o.own ≡ is_for_itself k x
  -- "Forwarded octets are the first of the lent room; those behind them stay."
  pub forwards : Forwardable k (remembered_by k m) s x → (o.forwarded ≡ length (forwarded_octets k x p)) × (room' ≡ over (forwarded_octets k x p) room)
  pub stops : (Forwardable k (remembered_by k m) s x → ⊥) → (o.forwarded ≡ 0) × (room' ≡ room)
  -- "Afterwards the accepted frame is the remembered one."; "IP has neither memory nor acknowledgement."
  pub remembers : from_ip k ≡ false → m' ≡ remembered_on m k.setting.side s
  pub forgets-nothing : from_ip k ≡ true → m' ≡ m

-- "On a refusal: its number, none, not, 0."; "nothing lent is written, nothing remembered changes"
pub record Refuses (m : Memory) (room : List ℕ) (r : Refusal) (o : Outcome) (m' : Memory) (room' : List ℕ) : Type 0 where
  pub refused : o.refusal ≡ Some r
  pub silent : acknowledgement_number o.acknowledgement ≡ 0
  pub not_itself : o.own ≡ false
  pub sends-nothing : o.forwarded ≡ 0
  pub remembers-as-before : m' ≡ m
  pub writes_nothing : room' ≡ room

-- how a step ends: either way, and no other
pub data StepEnds (k : Coupler) (m : Memory) (s room : List ℕ) (o : Outcome) (m' : Memory) (room' : List ℕ) : Type 0 where
  accepts : (x : Meaning) (p : List ℕ) → Hears k s (length room) x p → Draws k m s room x p o m' room' → StepEnds k m s room o m' room'
  refuses : (r : Refusal) → FirstIs (step_tests k s (length room)) r → Refuses m room r o m' room' → StepEnds k m s room o m' room'

module _ (k : Coupler) (m : Memory) (s room : List ℕ) where
  -- what a frame draws by the definition
  drawn : (x : Meaning) (p : List ℕ) → Draws k m s room x p (outcome_by k (remembered_by k m) s (frame x p)) (memory_after k m s (frame x p)) (over (sent_by k (remembered_by k m) s (frame x p)) room)
  unfolding acknowledgement_by
  drawn x p = record {
    accepted = refl;
    acknowledged = λ e. rw (e.on-tp1, e.addressed) refl;
    silent = λ n. quiet (from_ip k) (is_for_itself k x || is_allowed k x) refl refl n;
    itself = refl;
    forwards = λ f. let e = (forwardable-iff k (remembered_by k m) s x).1 f in (rw e refl, rw e refl);
    stops = λ n. unsent (is_forwarded k (repeats k (remembered_by k m) s) x) refl n;
    remembers = λ e. rw e refl;
    forgets-nothing = λ e. rw e refl;
  }
    where
      quiet : (ip b : Bool) → from_ip k ≡ ip → is_for_itself k x || is_allowed k x ≡ b → (Earns k x → ⊥) → acknowledgement_number (cond (not ip && b) Acknowledged Silence) ≡ 0
      quiet true b e f n = refl
      quiet false true e f n = absurd (n (record { on-tp1 = e; addressed = f }))
      quiet false false e f n = refl

      unsent : (b : Bool) → is_forwarded k (repeats k (remembered_by k m) s) x ≡ b → (Forwardable k (remembered_by k m) s x → ⊥)
          → (length (cond b (forwarded_octets k x p) []) ≡ 0) × (over (cond b (forwarded_octets k x p) []) room ≡ room)
      unsent true e n = absurd (n ((forwardable-iff k (remembered_by k m) s x).0 e))
      unsent false e n = (refl, refl)

  moved : (x : Meaning) (p : List ℕ) {o₁ o₂ : Outcome} {m₁ m₂ : Memory} {room₁ room₂ : List ℕ} → o₁ ≡ o₂ → m₁ ≡ m₂ → room₁ ≡ room₂ → Draws k m s room x p o₁ m₁ room₁ → Draws k m s room x p o₂ m₂ room₂
  moved x p a b l = transport (λ j. Draws k m s room x p (a j) (b j) (l j))

  -- every outcome that the contract allows
  pub step-ends : (o : Outcome) (m' : Memory) (room' : List ℕ) → Octets s → Did k m s room o m' room' → StepEnds k m s room o m' room'
  step-ends o m' room' c d = go (heard k s (length room)) refl
    where
      go : (h : Heard) → heard k s (length room) ≡ h → StepEnds k m s room o m' room'
      go (frame x p) e =
          let a : outcome_by k (remembered_by k m) s (frame x p) ≡ o = sym (d.handed.outcome ∙ ap (outcome_by k (remembered_by k m) s) e) in
          let b : memory_after k m s (frame x p) ≡ m' = sym (d.memory ∙ ap (memory_after k m s) e) in
          let l : over (sent_by k (remembered_by k m) s (frame x p)) room ≡ room' = sym (d.handed.left ∙ ap (λ (h : Heard). over (sent_by k (remembered_by k m) s h) room) e) in
          accepts x p ((hears-iff k s (length room) x p c).0 e) (moved x p a b l (drawn x p))
      go (nothing r) e =
          let a : o ≡ outcome_by k (remembered_by k m) s (nothing r) = d.handed.outcome ∙ ap (outcome_by k (remembered_by k m) s) e in
          refuses r ((refuses-iff k s (length room) r).0 e) (record {
            refused = ap (λ (u : Outcome). u.refusal) a;
            silent = ap (λ (u : Outcome). acknowledgement_number u.acknowledgement) a;
            not_itself = ap (λ (u : Outcome). u.own) a;
            sends-nothing = ap (λ (u : Outcome). u.forwarded) a;
            remembers-as-before = d.memory ∙ ap (memory_after k m s) e;
            writes_nothing = d.handed.left ∙ ap (λ (h : Heard). over (sent_by k (remembered_by k m) s h) room) e;
          })

  -- a frame draws one thing
  module _ (x : Meaning) (p : List ℕ) {o₁ o₂ : Outcome} {m₁ m₂ : Memory} {room₁ room₂ : List ℕ} (a : Draws k m s room x p o₁ m₁ room₁) (b : Draws k m s room x p o₂ m₂ room₂) where
    one-acknowledgement : acknowledgement_number o₁.acknowledgement ≡ acknowledgement_number o₂.acknowledgement
    one-acknowledgement = go (from_ip k) (is_for_itself k x || is_allowed k x) refl refl
      where
        unearned : (Earns k x → ⊥) → acknowledgement_number o₁.acknowledgement ≡ acknowledgement_number o₂.acknowledgement
        unearned n = a.silent n ∙ sym (b.silent n)

        go : (ip c : Bool) → from_ip k ≡ ip → is_for_itself k x || is_allowed k x ≡ c → acknowledgement_number o₁.acknowledgement ≡ acknowledgement_number o₂.acknowledgement
        go true c e f = unearned (λ n. never (sym e ∙ n.on-tp1))
        go false true e f = let y : Earns k x = record { on-tp1 = e; addressed = f } in a.acknowledged y ∙ sym (b.acknowledged y)
        go false false e f = unearned (λ n. never (sym n.addressed ∙ f))

    one-forwarding : (o₁.forwarded ≡ o₂.forwarded) × (room₁ ≡ room₂)
    one-forwarding = go (is_forwarded k (repeats k (remembered_by k m) s) x) refl
      where
        go : (c : Bool) → is_forwarded k (repeats k (remembered_by k m) s) x ≡ c → (o₁.forwarded ≡ o₂.forwarded) × (room₁ ≡ room₂)
        go true e = let f = (forwardable-iff k (remembered_by k m) s x).0 e in ((a.forwards f).0 ∙ sym (b.forwards f).0, (a.forwards f).1 ∙ sym (b.forwards f).1)
        go false e =
            let n : Forwardable k (remembered_by k m) s x → ⊥ = λ f. never (sym ((forwardable-iff k (remembered_by k m) s x).1 f) ∙ e) in
            ((a.stops n).0 ∙ sym (b.stops n).0, (a.stops n).1 ∙ sym (b.stops n).1)

    one-memory : m₁ ≡ m₂
    one-memory = go (from_ip k) refl
      where
        go : (ip : Bool) → from_ip k ≡ ip → m₁ ≡ m₂
        go true e = a.forgets-nothing e ∙ sym (b.forgets-nothing e)
        go false e = a.remembers e ∙ sym (b.remembers e)

    draws-one : (o₁ ≡ o₂) × ((m₁ ≡ m₂) × (room₁ ≡ room₂))
    draws-one =
        let n : o₁.refusal ≡ o₂.refusal = a.accepted ∙ sym b.accepted in
        let c : o₁.acknowledgement ≡ o₂.acknowledgement = acknowledgement-apart _ _ one-acknowledgement in
        let i : o₁.own ≡ o₂.own = a.itself ∙ sym b.itself in
        ((λ j. record { refusal = n j; acknowledgement = c j; own = i j; forwarded = one-forwarding.0 j }), (one-memory, one-forwarding.1))

  -- the statement leaves no choice: two ends of a step coincide in result, memory and room
  pub step-one : {o₁ o₂ : Outcome} {m₁ m₂ : Memory} {room₁ room₂ : List ℕ} → Octets s → StepEnds k m s room o₁ m₁ room₁ → StepEnds k m s room o₂ m₂ room₂ → (o₁ ≡ o₂) × ((m₁ ≡ m₂) × (room₁ ≡ room₂))
  step-one {o₁} {o₂} {m₁} {m₂} {room₁} {room₂} c (accepts x p h a) (accepts y q i b) =
      let e : frame x p ≡ frame y q = sym ((hears-iff k s (length room) x p c).1 h) ∙ (hears-iff k s (length room) y q c).1 i in
      let ex : y ≡ x = cc in
      let ep : q ≡ p = cc in
      draws-one x p a (subst (λ (z : Meaning). Draws k m s room z p o₂ m₂ room₂) ex (subst (λ (z : List ℕ). Draws k m s room y z o₂ m₂ room₂) ep b))
  step-one c (accepts x p h a) (refuses r f b) = frame-nothing (sym ((refuses-iff k s (length room) r).1 f) ∙ (hears-iff k s (length room) x p c).1 h)
  step-one c (refuses r f a) (accepts y q i b) = frame-nothing (sym ((refuses-iff k s (length room) r).1 f) ∙ (hears-iff k s (length room) y q c).1 i)
  step-one {o₁} {o₂} c (refuses r f a) (refuses q g b) =
      let e : nothing r ≡ nothing q = sym ((refuses-iff k s (length room) r).1 f) ∙ (refuses-iff k s (length room) q).1 g in
      let z : r ≡ q = cc in
      let n : o₁.refusal ≡ o₂.refusal = a.refused ∙ ap Some z ∙ sym b.refused in
      let l : o₁.acknowledgement ≡ o₂.acknowledgement = acknowledgement-apart _ _ (a.silent ∙ sym b.silent) in
      let i : o₁.own ≡ o₂.own = a.not_itself ∙ sym b.not_itself in
      let w : o₁.forwarded ≡ o₂.forwarded = a.sends-nothing ∙ sym b.sends-nothing in
      ((λ j. record { refusal = n j; acknowledgement = l j; own = i j; forwarded = w j }), (a.remembers-as-before ∙ sym b.remembers-as-before, a.writes_nothing ∙ sym b.writes_nothing))

-- a frame with these properties is heard
pub record HearsOne (k : Coupler) (s : List ℕ) (room : ℕ) (Has : Meaning → Type 0) : Type 0 where
  pub meaning : Meaning
  pub payload : List ℕ
  pub hears : Hears k s room meaning payload
  pub has : Has meaning

module _ (k : Coupler) (m m' : Memory) (s room room' : List ℕ) (o : Outcome) (c : Octets s) (d : Did k m s room o m' room') where
  outcome-of : (h : Heard) → heard k s (length room) ≡ h → o ≡ outcome_by k (remembered_by k m) s h
  outcome-of h e = d.handed.outcome ∙ ap (outcome_by k (remembered_by k m) s) e

  frame-heard : {Has : Meaning → Type 0} (w : HearsOne k s (length room) Has) → heard k s (length room) ≡ frame w.meaning w.payload
  frame-heard w = (hears-iff k s (length room) w.meaning w.payload c).1 w.hears

  -- octets are forwarded exactly if a frame is heard, address and settings let it pass, the count is not 0, and it is no repetition
  pub forwards-exactly : (o.forwarded ≡ 0 → ⊥) ↔ HearsOne k s (length room) (Forwardable k (remembered_by k m) s)
  forwards-exactly = (
    (λ n. to (heard k s (length room)) refl n),
    (λ w z. (forwarded-iff k (remembered_by k m) s (frame w.meaning w.payload)).1 w.has (sym (ap (λ (u : Outcome). u.forwarded) (outcome-of _ (frame-heard w))) ∙ z)),
  )
    where
      to : (h : Heard) → heard k s (length room) ≡ h → (o.forwarded ≡ 0 → ⊥) → HearsOne k s (length room) (Forwardable k (remembered_by k m) s)
      to (frame x p) e n = record {
        meaning = x;
        payload = p;
        hears = (hears-iff k s (length room) x p c).0 e;
        has = (forwarded-iff k (remembered_by k m) s (frame x p)).0 (λ z. n (ap (λ (u : Outcome). u.forwarded) (outcome-of _ e) ∙ z));
      }
      to (nothing r) e n = absurd (n (ap (λ (u : Outcome). u.forwarded) (outcome-of _ e)))

  -- CCh exactly if a frame is heard that earns it
  pub acknowledges-exactly : acknowledgement_number o.acknowledgement ≡ 0xCC ↔ HearsOne k s (length room) (Earns k)
  acknowledges-exactly = (
    (λ z. to (heard k s (length room)) refl z),
    (λ w. ap (λ (u : Outcome). acknowledgement_number u.acknowledgement) (outcome-of _ (frame-heard w)) ∙ (drawn k m s room w.meaning w.payload).acknowledged w.has),
  )
    where
      to : (h : Heard) → heard k s (length room) ≡ h → acknowledgement_number o.acknowledgement ≡ 0xCC → HearsOne k s (length room) (Earns k)
      to (frame x p) e z =
          let a = (acknowledged-iff k (remembered_by k m) s x p).0 (acknowledgement-apart _ Acknowledged (sym (ap (λ (u : Outcome). acknowledgement_number u.acknowledgement) (outcome-of _ e)) ∙ z)) in
          record { meaning = x; payload = p; hears = (hears-iff k s (length room) x p c).0 e; has = record { on-tp1 = a.0; addressed = a.1 } }
      to (nothing r) e z = absurd (omega (arith, ap (λ (u : Outcome). acknowledgement_number u.acknowledgement) (outcome-of _ e), z))

  -- each number exactly in its listed case: 0 if a frame is heard, another if its refusal is the first of the one order
  pub accepts-exactly : o.refusal ≡ None ↔ HearsOne k s (length room) (λ x. Unit {0})
  accepts-exactly = (
    (λ z. to (heard k s (length room)) refl z),
    (λ w. ap (λ (u : Outcome). u.refusal) (outcome-of _ (frame-heard w))),
  )
    where
      to : (h : Heard) → heard k s (length room) ≡ h → o.refusal ≡ None → HearsOne k s (length room) (λ x. Unit {0})
      to (frame x p) e z = record { meaning = x; payload = p; hears = (hears-iff k s (length room) x p c).0 e; has = tt }
      to (nothing r) e z = none-some (sym z ∙ ap (λ (u : Outcome). u.refusal) (outcome-of _ e))

  pub refuses-exactly : (r : Refusal) → o.refusal ≡ Some r ↔ FirstIs (step_tests k s (length room)) r
  refuses-exactly r = (
    (λ z. (refuses-iff k s (length room) r).0 ((refusal-iff k (remembered_by k m) s (heard k s (length room)) r).0 (sym (ap (λ (u : Outcome). u.refusal) d.handed.outcome) ∙ z))),
    (λ f. ap (λ (u : Outcome). u.refusal) (outcome-of _ ((refuses-iff k s (length room) r).1 f))),
  )

-- "Afterwards the accepted frame is the remembered one": what its side then recalls is the octets received, and the other side is as it was

abbrev pub other_side : ℕ → ℕ
other_side side = 1 - side

pub record Remembers (m m' : Memory) (side : ℕ) (s : List ℕ) : Type 0 where
  pub received : recalled (side_of m' side) ≡ s
  pub other : side_of m' (other_side side) ≡ side_of m (other_side side)
  pub roomy : Roomy m'

remembers-on : (m : Memory) (side : ℕ) (s : List ℕ) → Roomy m → length s ≤ 263 → side < 2 → Remembers m (remembered_on m side s) side s
remembers-on m side s w h b = go (eqb side 0) refl
  where
    main : Remembers m (remembered_on m 0 s) 0 s
    main = let e = remembers-main m s w.main h in record { received = e.0; other = e.1; roomy = remembered-roomy m 0 s w h }

    sub : Remembers m (remembered_on m 1 s) 1 s
    sub = let e = remembers-sub m s w.sub h in record { received = e.0; other = e.1; roomy = remembered-roomy m 1 s w h }

    go : (c : Bool) → eqb side 0 ≡ c → Remembers m (remembered_on m side s) side s
    go true e = subst (λ (n : ℕ). Remembers m (remembered_on m n s) n s) (sym (eqb-true side 0 e)) main
    go false e =
        let n : side ≡ 0 → ⊥ = eqb-false side 0 e in
        let one : 1 ≡ side = omega arith in
        subst (λ (n : ℕ). Remembers m (remembered_on m n s) n s) one sub

pub remembers-the-frame : (k : Coupler) (m m' : Memory) (s room room' : List ℕ) (o : Outcome) → Octets s → Did k m s room o m' room' → Roomy m → HearsOne k s (length room) (λ x. Unit {0}) → from_ip k ≡ false
    → Remembers m m' k.setting.side s
remembers-the-frame k m m' s room room' o c d y w f =
    let e : heard k s (length room) ≡ frame w.meaning w.payload = (hears-iff k s (length room) w.meaning w.payload c).1 w.hears in
    let same : remembered_on m k.setting.side s ≡ m' = sym (d.memory ∙ ap (memory_after k m s) e ∙ rw f refl) in
    subst (λ (n : Memory). Remembers m n k.setting.side s) same
    (remembers-on m k.setting.side s y (heard-size k s (length room) w.meaning w.payload c e f) (hears-side w.hears))

-- "A forwarded frame keeps format, priority, addresses and payload; its repeat flag says first sending; its count follows the rule of demand 2":
-- 7 stays, any other drops by one
pub record Keeps (x y : Meaning) : Type 0 where
  pub format : y.extended ≡ x.extended
  pub priority : y.priority ≡ x.priority
  pub source : y.source ≡ x.source
  pub group : y.group ≡ x.group
  pub destination : y.destination ≡ x.destination
  pub first : y.first ≡ true
  pub seven : x.count ≡ 7 → y.count ≡ 7
  pub lower : (x.count ≡ 7 → ⊥) → y.count ≡ x.count - 1

pub record Onward (k : Coupler) (x : Meaning) (p octets : List ℕ) : Type 0 where
  pub meaning : Meaning
  pub keeps : Keeps x meaning
  -- "on IP it is a plain indication in a routing datagram"
  pub on-tp1 : to_ip k ≡ false → octets ≡ tp1_octets meaning p
  pub on-ip : to_ip k ≡ true → octets ≡ routing_octets (indication meaning) p
  -- a frame of the medium that it goes out by
  pub is-frame : Valid x p → IsFrameOn octets meaning p (to_ip k)

valid-onward : (k : Setting) (x : Meaning) (p : List ℕ) → Valid x p → Valid (forwarded_meaning k x) p
valid-onward k x p v = record { ranges = forwarded-ranged k x (length p) v.ranges; source = v.source; destination = v.destination; octets = v.octets }

frame-onward : (k : Setting) (x : Meaning) (p : List ℕ) (b : Bool) → Valid x p → IsFrameOn (form_of b k x p) (forwarded_meaning k x) p b
unfolding form_of routing_octets plain
frame-onward k x p true v =
    let informed : ValidInformation [] = record { few = omega arith; octets = λ i. omega arith } in
    let valid = valid-indication (forwarded_meaning k x) p (valid-onward k x p v) in
    ([], record { indication = plain (indication (forwarded_meaning k x)) p; message = record { unread = plain_bits; informed = informed; valid = valid; layout = refl }; layout = refl })
frame-onward k x p false v = record { valid = valid-onward k x p v; layout = refl }

pub forwards-the-frame : (k : Coupler) (x : Meaning) (p : List ℕ) → Onward k x p (forwarded_octets k x p)
unfolding form_of
forwards-the-frame k x p = record {
  meaning = forwarded_meaning k.setting x;
  keeps = record {
    format = refl;
    priority = refl;
    source = refl;
    group = refl;
    destination = refl;
    first = refl;
    seven = λ e. rw e refl;
    lower = λ n. rw (ne_eqb x.count 7 n) refl;
  };
  on-tp1 = λ e. rw e refl;
  on-ip = λ e. rw e refl;
  is-frame = frame-onward k.setting x p (to_ip k);
}

-- a frame for the coupler itself never passes, under any code
pub own-never-passes : (line : ℕ) (codes : List (List ℕ)) (table : List ℕ) (direction kind destination : ℕ)
    → is_own line kind destination ≡ true → may_pass line codes table direction kind destination ≡ false
unfolding may_pass
own-never-passes line codes table direction kind destination e = rw e refl

-- through the surface: "each is read from its own bits, of a refused step too. On a refusal they are: its number, none, not, 0."
pub refused-answer : {right : Bool} {k : Coupler} {block s room : List ℕ} {answer : ℕ} {block' room' : List ℕ} → SteppedThrough right k block s room answer block' room'
    → (r : Refusal) → heard_through right k s (length room) ≡ nothing r → answer ≡ number r
unfolding outcome_number
refused-answer {k = k} {block} {s} w r e =
    let n : outcome_number (refused_outcome k s r) ≡ number r = omega arith in
    w.answered ∙ ap (λ (h : Heard). outcome_number (outcome_by k (recalled (side_of (memory_in block) k.setting.side)) s h)) e ∙ n
