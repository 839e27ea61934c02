-- The block as the header's helpers read it: what a side remembers. A step is the step inside, of the memory that the block holds: a memory put
-- into a block is read out of it again. After an accepted TP1 frame a side remembers the frame; and a refused step leaves block and room as
-- they were.
use Rattle.std.specs.Prelude.{Result, Ok, Err}
use Prim.Native.Nat.{ℕ, ◌+◌, ◌%◌, ◌≤◌, ◌<◌}
use mathlib.Core.Bool.{Bool, true, false, cond, ◌&&◌}
use mathlib.Core.List.{List, [], ◌∷◌}
use mathlib.Core.Path.{◌≡◌, refl, sym, ap, ◌∙◌}
use native.Mathlib.Omega.{arith}
use lib.Dec.{ltb, leb, eqb}
use lib.ListN.{length, take, drop, get_or, length-append, length-drop}
use lib.Seq.{length-take-le, take_all, take_at, drop_at}
use borrow.Author.Tests.{ltb-true, ltb-false, leb-true, leb-false, le-ltb, lt-ltb, eqb-true, eqb-false, not-false}
use Rattle.coupler.proofs.Apart.{frame-nothing}
use Rattle.coupler.proofs.Promised.{remembers-main, remembers-sub, Roomy, remembered-roomy}
use Rattle.coupler.proofs.Refusals.{accepted-iff}
use Rattle.coupler.proofs.StepLaws.{heard-size}
use Rattle.coupler.specs.Memory.{recalled, side_of, remembered_on}
use Rattle.coupler.specs.Step.{Coupler, Heard, heard_tp1, frame, nothing, heard, from_ip, acknowledgement_number, outcome_of, memory_after, Did}
use Rattle.coupler.specs.declared.Acknowledgement.TheVariants.{Silence, Acknowledged}
use Rattle.coupler.specs.declared.Acknowledgement.{Acknowledgement}
use Rattle.coupler.specs.declared.Memory.{Memory}
use Rattle.coupler.specs.declared.Outcome.{Outcome}
use Rattle.coupler.specs.declared.Remembered.{Remembered}
use Rattle.frame.proofs.Valid.{ranges-of}
use Rattle.frame.proofs.Numbers.{refusal-back}
use Rattle.frame.specs.Answers.{Numbered, refusal_number, refusal_in}
use Rattle.frame.specs.declared.Meaning.{Meaning}
use Rattle.frame.specs.declared.Refusal.{Refusal}
use Rattle.frame.specs.declared.Refusal.TheVariants.{OutOfRange}
use Rattle.klumdray.proofs.BlockLaws.{recalled-block, unchanged-block, remembered-block}
use Rattle.klumdray.proofs.StepNumbers.{step-told}
use Rattle.klumdray.specs.Block.{remembered_in, memory_in, half_of, block_of, heard_through, SteppedThrough}
use Rattle.klumdray.specs.Decoding.{number_in, outcome_numbered, outcome_from, outcome_in, remembered_part, remembered_size, remembered_start}
use Rattle.klumdray.specs.Stages.{start_of, remembered_at}
use Rattle.octets.proofs.Truth.{by_cases, and-true}
use Rattle.octets.proofs.Word.{word_back}
use Rattle.octets.specs.Octets.{Octets, weigh}
use Rattle.octets.specs.Room.{laid}
use Rattle.octets.specs.Word.{word_at, high, low}
use Rattle.tp1.proofs.LayoutLaws.{head-least, length-octets}
use Rattle.tp1.proofs.RoundTrip.{read-laid}
use Rattle.tp1.specs.Reading.{read_tp1, payload_in}

-- a side's half begins where the contract has it
same-part : (side : ℕ) → side < 2 → remembered_part side ≡ start_of side
same-part side h = go (eqb side 1) (eqb side 0) refl refl
  where
    go : (a b : Bool) → eqb side 1 ≡ a → eqb side 0 ≡ b → ◌≡◌ {A = ℕ} (cond a 265 0) (cond b 0 265)
    go true true e f = absurd (omega (arith, eqb-true side 1 e, eqb-true side 0 f))
    go true false e f = refl
    go false true e f = refl
    go false false e f = let x : side ≡ 1 → ⊥ = eqb-false side 1 e in let y : side ≡ 0 → ⊥ = eqb-false side 0 f in absurd (omega (arith, x, y))

same_size : (n : ℕ) → cond (ltb 263 n) 0 n ≡ cond (leb n 263) n 0
same_size n = go (leb n 263) refl
  where
    go : (b : Bool) → leb n 263 ≡ b → cond (ltb 263 n) 0 n ≡ cond (leb n 263) n 0
    go true e = rw (e, le-ltb 263 n (leb-true n 263 e))
    go false e = rw (e, lt-ltb 263 n (leb-false n 263 e))

part-most : (side : ℕ) → remembered_part side ≤ 265
part-most side = go (eqb side 1)
  where
    go : (b : Bool) → cond b 265 0 ≤ 265
    go true = omega arith
    go false = omega arith

size-most : (n : ℕ) → cond (ltb 263 n) 0 n ≤ 263
size-most n = go (ltb 263 n) refl
  where
    go : (b : Bool) → ltb 263 n ≡ b → cond b 0 n ≤ 263
    go true e = omega arith
    go false e = ltb-false 263 n e

module _ (block : List ℕ) (side : ℕ) (n : length block ≡ 530) (h : side < 2) where
  pub remembered-is : take (remembered_size block side) (drop (remembered_start side) block) ≡ recalled (side_of (memory_in block) side)
  remembered-is = rw (same-part side h, same_size (word_at block (start_of side))) (recalled-block block side n)

  pub remembered-within : remembered_start side + remembered_size block side ≤ 530
  remembered-within = omega (arith, part-most side, size-most (word_at block (remembered_part side)))

-- a memory put into a block is read out of it again

half_length : (r : Remembered) → length r.octets ≡ 263 → length (half_of r) ≡ 265
half_length r n = omega arith

pub half-read : (r : Remembered) → length r.octets ≡ 263 → remembered_in (half_of r) ≡ r
half-read r n =
    let o : take 263 r.octets ≡ r.octets = take_all 263 r.octets (omega arith) in
    let w : word_at (half_of r) 0 ≡ r.size = word_back r.size in
    λ i. record { size = w i; octets = o i }

module _ (m : Memory) (r : Roomy m) where
  block-length : length (block_of m) ≡ 530
  unfolding block_of
  block-length = rw (length-append (half_of m.main) (half_of m.sub)) (omega (arith, r.main, r.sub))

  block_read : memory_in (block_of m) ≡ m
  unfolding block_of
  block_read =
      let x : take 265 (block_of m) ≡ half_of m.main = take_at (half_of m.main) (half_of m.sub) 265 (half_length m.main r.main) in
      let y : drop 265 (block_of m) ≡ half_of m.sub = drop_at (half_of m.main) (half_of m.sub) 265 (half_length m.main r.main) in
      λ i. record { main = (ap remembered_in x ∙ half-read m.main r.main) i; sub = (ap remembered_in y ∙ half-read m.sub r.sub) i }

pub octets-263 : (half : List ℕ) → length half ≡ 265 → length (remembered_in half).octets ≡ 263
octets-263 half n = length-take-le 263 (drop 2 half) (rw length-drop (omega arith))

pub block-roomy : (block : List ℕ) → length block ≡ 530 → Roomy (memory_in block)
block-roomy block n = record { main = octets-263 (take 265 block) (length-take-le 265 block (omega arith)); sub = octets-263 (drop 265 block) (length-drop 265 block ∙ omega arith) }

-- what a side recalls after a frame was put into its place
recalls-put : (m : Memory) (side : ℕ) (s : List ℕ) → side < 2 → Roomy m → length s ≤ 263 → recalled (side_of (remembered_on m side s) side) ≡ s
recalls-put m side s h r l =
    by_cases (eqb side 0) (λ e. rw (eqb-true side 0 e) (remembers-main m s r.main l).0)
    (λ e.
    let d : side ≡ 0 → ⊥ = eqb-false side 0 e in
    let one : side ≡ 1 = omega (arith, d) in
    rw one (remembers-sub m s r.sub l).0)

-- an accepted step: settings and memory have their sizes, and a frame was heard
record Accepted (right : Bool) (h : Heard) : Type 0 where
  lent : right ≡ true
  meaning : Meaning
  payload : List ℕ
  hears : h ≡ frame meaning payload

through-accepted : (right : Bool) (k : Coupler) (s : List ℕ) (n : ℕ) → ((r : Refusal) → heard_through right k s n ≡ nothing r → ⊥) → Accepted right (heard k s n)
unfolding heard_through
through-accepted true k s n none = go (heard k s n) refl
  where
    go : (h : Heard) → heard k s n ≡ h → Accepted true (heard k s n)
    go (frame m p) e = record { lent = refl; meaning = m; payload = p; hears = e }
    go (nothing r) e = absurd (none r e)
through-accepted false k s n none = absurd (none OutOfRange refl)

-- an outcome is read back from its parts
outcome-read : (o : Outcome) (n : ℕ) → outcome_from n ≡ outcome_numbered o → outcome_in n ≡ o
outcome-read o n e =
    let value : (place : ℕ) → get_or (outcome_from n).values place 0 ≡ get_or (outcome_numbered o).values place 0 = λ place. ap (λ (x : Numbered). get_or x.values place 0) e in
    let told = ap (λ (a : ℕ). cond (eqb a 0xCC) Acknowledged Silence) (value 0) ∙ acknowledged o.acknowledgement in
    let own = ap (λ (b : ℕ). eqb b 1) (value 1) ∙ weighed o.own in
    let refusal = ap (λ (x : Numbered). refusal_in x.number) e ∙ refusal-back o.refusal in
    λ i. record { refusal = refusal i; acknowledgement = told i; own = own i; forwarded = value 2 i }
  where
    acknowledged : (a : Acknowledgement) → cond (eqb (acknowledgement_number a) 0xCC) Acknowledged Silence ≡ a
    acknowledged Silence = refl
    acknowledged Acknowledged = refl

    weighed : (b : Bool) → eqb (weigh b 1) 1 ≡ b
    weighed true = refl
    weighed false = refl

-- a TP1 frame that was heard has at least eight octets
heard-least : (s : List ℕ) (m : Meaning) (p : List ℕ) → Octets s → heard_tp1 (read_tp1 s) s ≡ frame m p → 8 ≤ length s
heard-least s m p o = go (read_tp1 s) refl
  where
    go : (a : Result Meaning Refusal) → read_tp1 s ≡ a → heard_tp1 a s ≡ frame m p → 8 ≤ length s
    go (Ok x) q z =
        let w = read-laid s x o q in
        let l : List ℕ = payload_in (Ok x) s in
        omega (arith, ap length w.layout ∙ length-octets x l, head-least x.extended, (ranges-of x (length l) w.valid.ranges).some)
    go (Err r) q z = frame-nothing z

module _ {right : Bool} {k : Coupler} {block s room : List ℕ} {answer : ℕ} {block' room' : List ℕ}
    (lent : right ≡ true → length block ≡ 530) (os : Octets s) (w : SteppedThrough right k block s room answer block' room') where
  accepted : number_in answer ≡ 0 → Accepted right (heard k s (length room))
  accepted z = through-accepted right k s (length room) ((step-told os w).accepted.0 z)

  -- an accepted TP1 frame: its side is one of the two, it fits the block, and the block holds it
  record Kept : Type 0 where
    set : right ≡ true
    side : k.setting.side < 2
    least : 8 ≤ length s
    fits : length s ≤ 263
    held : memory_after k (memory_in block) s (heard k s (length room)) ≡ remembered_on (memory_in block) k.setting.side s

  kept : number_in answer ≡ 0 → from_ip k ≡ false → Kept
  kept z f =
      let a = accepted z in
      let x = (accepted-iff k s (length room) a.meaning a.payload).0 a.hears in
      record {
        set = a.lent;
        side = ltb-true k.setting.side 2 (and-true (ltb k.setting.side 2) (ltb k.setting.medium 2) (not-false (ltb k.setting.side 2 && ltb k.setting.medium 2) x.0.1.1.0)).0;
        least = heard-least s a.meaning a.payload os (rw f at x.1);
        fits = heard-size k s (length room) a.meaning a.payload os a.hears f;
        held = rw (a.hears, f) refl;
      }

  -- with settings and memory of the right size, the block that is left holds the memory that the step inside leaves
  module _ (a : right ≡ true) where
    after-roomy : Roomy (memory_after k (memory_in block) s (heard k s (length room)))
    after-roomy = go (heard k s (length room)) refl
      where
        before : Roomy (memory_in block)
        before = block-roomy block (lent a)

        go : (h : Heard) → heard k s (length room) ≡ h → Roomy (memory_after k (memory_in block) s h)
        go (nothing r) e = before
        go (frame m p) e =
            by_cases (from_ip k) (λ f. rw f before) (λ f. rw f (remembered-roomy (memory_in block) k.setting.side s before (heard-size k s (length room) m p os e f)))

    put : block' ≡ block_of (memory_after k (memory_in block) s (heard k s (length room)))
    unfolding heard_through
    put = w.memory ∙ rw a

    pub step-size : length block' ≡ 530
    step-size = ap length put ∙ block-length (memory_after k (memory_in block) s (heard k s (length room))) after-roomy

    memory-read : memory_in block' ≡ memory_after k (memory_in block) s (heard k s (length room))
    memory-read = ap memory_in put ∙ block_read (memory_after k (memory_in block) s (heard k s (length room))) after-roomy

    -- and answer and room are that step's; the answer's number is the one of the refusal that is read back, so that no number which is no row's is
    -- read as a row's
    pub step-inside : Did k (memory_in block) s room (outcome_in answer) (memory_in block') room' × (number_in answer ≡ refusal_number (outcome_in answer).refusal)
    unfolding heard_through
    step-inside =
        let o = outcome_of k (recalled (side_of (memory_in block) k.setting.side)) s (length room) in
        let read = outcome-read o answer (rw a at (step-told os w).decoded) in (
          record { handed = record { outcome = read; left = w.left ∙ rw a }; memory = memory-read },
          ap (λ (x : Numbered). x.number) (step-told os w).decoded ∙ rw a (ap (λ (x : Outcome). refusal_number x.refusal) (sym read)),
        )

  -- size and frame in the side's part, all else as it was
  pub step-remembers : Octets block → number_in answer ≡ 0 → from_ip k ≡ false
      → block' ≡ laid s (remembered_start k.setting.side) (laid (high (length s) ∷ low (length s) ∷ []) (remembered_part k.setting.side) block)
  unfolding remembered_at
  step-remembers ob z f =
      let x = kept z f in
      let n : length s % 65536 ≡ length s = omega (arith, x.fits) in
      put x.set ∙ ap block_of x.held ∙ sym (remembered-block block s k.setting.side (lent x.set) x.fits ob) ∙ rw (same-part k.setting.side x.side, n)

  -- and the helpers read the frame
  pub step-recalls : number_in answer ≡ 0 → from_ip k ≡ false
      → (8 ≤ length s) × ((remembered_size block' k.setting.side ≡ length s) × (take (remembered_size block' k.setting.side) (drop (remembered_start k.setting.side) block') ≡ s))
  step-recalls z f =
      let x = kept z f in
      let n : length block' ≡ 530 = step-size x.set in
      let m : memory_in block' ≡ remembered_on (memory_in block) k.setting.side s = memory-read x.set ∙ x.held in
      let r = recalls-put (memory_in block) k.setting.side s x.side (block-roomy block (lent x.set)) x.fits in
      let size : ℕ = remembered_size block' k.setting.side in
      let from : List ℕ = drop (remembered_start k.setting.side) block' in
      let e : take size from ≡ s = remembered-is block' k.setting.side n x.side ∙ ap (λ (y : Memory). recalled (side_of y k.setting.side)) m ∙ r in
      let l : length (take size from) ≡ size = length-take-le size from (rw length-drop (omega (arith, n, remembered-within block' k.setting.side n x.side))) in
      (x.least, (sym l ∙ ap length e, e))

  -- a refused step leaves block and room; a frame from IP leaves the block
  pub step-leaves : Octets block → (number_in answer ≡ 0 → ⊥) → (block' ≡ block) × (room' ≡ room)
  unfolding heard_through
  step-leaves ob n = go right refl (heard k s (length room)) refl
    where
      go : (b : Bool) → right ≡ b → (h : Heard) → heard k s (length room) ≡ h → (block' ≡ block) × (room' ≡ room)
      go true a (frame m p) e = absurd (n ((step-told os w).accepted.1 (λ r z. frame-nothing (sym (rw (a, e) at z)))))
      go true a (nothing r) e = (w.memory ∙ rw (a, e) (sym (unchanged-block block (lent a) ob)), w.left ∙ rw (a, e))
      go false a h e = (w.memory ∙ rw a, w.left ∙ rw a)

  pub step-from-ip : Octets block → from_ip k ≡ true → block' ≡ block
  unfolding heard_through
  step-from-ip ob f = go right refl (heard k s (length room)) refl
    where
      go : (b : Bool) → right ≡ b → (h : Heard) → heard k s (length room) ≡ h → block' ≡ block
      go true a (frame m p) e = w.memory ∙ rw (a, e, f) (sym (unchanged-block block (lent a) ob))
      go true a (nothing r) e = w.memory ∙ rw (a, e) (sym (unchanged-block block (lent a) ob))
      go false a h e = w.memory ∙ rw a
