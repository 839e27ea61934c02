-- Steps through the C surface are steps inside: one call, with settings of ten octets and a block of 530, of the memory that the block holds; and
-- any series of such calls that are lent one block. A call with other settings is refused and leaves the block. So R-2 holds of what the
-- header's helpers read, and of a firmware's calls from a block of zeros on.
use Prim.Native.Nat.{ℕ}
use mathlib.Core.Bool.{true, false}
use mathlib.Core.List.{List, [], ◌∷◌, ◌++◌, map}
use mathlib.Core.Logic.{◌↔◌}
use mathlib.Core.Path.{◌≡◌, refl, ap, ◌∙◌, subst}
use lib.ListN.{length, take, drop, replicate, length-replicate}
use borrow.Author.Tests.{eq-eqb, ne_eqb}
use Rattle.coupler.proofs.Repetition.{Agrees}
use Rattle.coupler.specs.Memory.{zeros, no_memory}
use Rattle.coupler.specs.Series.{Follows, last_accepted}
use Rattle.coupler.specs.Step.{Coupler, from_ip, is_allowed, Did}
use Rattle.coupler.specs.declared.Memory.{Memory}
use Rattle.frame.specs.Answers.{refusal_number}
use Rattle.frame.specs.declared.Meaning.{Meaning}
use Rattle.frame.specs.declared.Refusal.TheVariants.{OutOfRange}
use Rattle.klumdray.proofs.BlockLaws.{right-block}
use Rattle.klumdray.proofs.Remembered.{block-roomy, step-size, step-inside}
use Rattle.klumdray.proofs.StepNumbers.{step-told}
use Rattle.klumdray.specs.Block.{memory_in, lent_right, heard_through, SteppedThrough}
use Rattle.klumdray.specs.Decoding.{number_in, outcome_in, forwarded_in, remembered_size, remembered_start}
use Rattle.klumdray.specs.Series.{Lent, Left, FollowsThrough, input_in, done_in}
use Rattle.octets.proofs.Truth.{by_cases}
use Rattle.octets.specs.Octets.{Octets}
use Rattle.promises.proofs.Heard.{Hears, hears-side}
use Rattle.promises.proofs.LastAccepted.{AfterStep, unchanged, after-step, AllOctets, Last, one_more, stopped-after, acknowledged-after, forwarded-after}
use Rattle.promises.proofs.Repetition.{Stopped, Survives, stopped-exactly}
use Rattle.promises.proofs.Surface.{remembered-read}
use Rattle.promises.specs.Readings.{AllTold}

-- one call
module _ (settings : List ℕ) (k : Coupler) (block s room : List ℕ) (answer : ℕ) (block' room' : List ℕ) (octets : Octets s) (w : SteppedThrough (lent_right settings block) k block s room answer block' room') (right : lent_right settings block ≡ true) where
  pub step-is-inside : Did k (memory_in block) s room (outcome_in answer) (memory_in block') room'
  step-is-inside = (step-inside (right-block settings block) octets w right).0

  -- and the answer's number is the one of the refusal that is read back, so that no number which is no row's is read as a row's
  pub step-number-is-inside : number_in answer ≡ refusal_number (outcome_in answer).refusal
  step-number-is-inside = (step-inside (right-block settings block) octets w right).1

  -- what the header's helpers read in the answer, and before the step in the block, is related as R-2 says
  pub stopped-through-c : {x : Meaning} {p : List ℕ} → from_ip k ≡ false → Hears k s (length room) x p → is_allowed k x ≡ true
      → forwarded_in answer ≡ 0 ↔ ((x.first ≡ false) × Agrees (take (remembered_size block k.setting.side) (drop (remembered_start k.setting.side) block)) s)
  stopped-through-c e h allowed =
      let read = (remembered-read block k.setting.side (right-block settings block right) (hears-side h)).1 in
      rw read (stopped-exactly (record { octets = octets; did = step-is-inside; on-tp1 = e; hears = h }) allowed)

-- what is lent to each call of a series: settings of ten octets, and octets
abbrev pub IsSet : Lent → Type 0
IsSet c = (length c.settings ≡ 10) × Octets c.octets

abbrev pub AllSet : List Lent → Type 0
AllSet [] = Unit {0}
AllSet (c ∷ cs) = IsSet c × AllSet cs

lent-right : (block : List ℕ) (c : Lent) → length block ≡ 530 → IsSet c → lent_right c.settings block ≡ true
lent-right block c n a = rw (eq-eqb (length c.settings) 10 a.0, eq-eqb (length block) 530 n) refl

pub series-is-inside : (block : List ℕ) (cs : List Lent) (ls : List Left) → length block ≡ 530 → AllSet cs → FollowsThrough block cs ls
    → Follows (memory_in block) (map input_in cs) (map done_in ls) × AllTold ls
series-is-inside block [] [] n a f = (tt, tt)
series-is-inside block [] (l ∷ ls) n a f = absurd f
series-is-inside block (c ∷ cs) [] n a f = absurd f
series-is-inside block (c ∷ cs) (l ∷ ls) n a f =
    let right = lent-right block c n a.0 in
    let size = right-block c.settings block in
    let here = step-inside size a.0.1 f.0 right in
    let rest = series-is-inside l.block cs ls (step-size size a.0.1 f.0 right) a.1 f.1 in
    ((here.0, rest.0), (here.1, rest.1))

-- a call with settings of another size is refused and leaves the block, so that every call leaves what was accepted last; its block has 530
-- octets again
call-leaves : (block : List ℕ) (c : Lent) (l : Left) → length block ≡ 530 → Octets c.octets
    → SteppedThrough (lent_right c.settings block) (input_in c).coupler block c.octets c.room l.answer l.block l.room
    → AfterStep (memory_in block) (input_in c) (done_in l) × (length l.block ≡ 530)
unfolding heard_through
call-leaves block c l n o w = by_cases (lent_right c.settings block) inside refused
  where
    size : lent_right c.settings block ≡ true → length block ≡ 530
    size e = n

    inside : lent_right c.settings block ≡ true → AfterStep (memory_in block) (input_in c) (done_in l) × (length l.block ≡ 530)
    inside e = (after-step (memory_in block) (input_in c) (done_in l) (block-roomy block n) o (step-inside size o w e).0, step-size size o w e)

    refused : lent_right c.settings block ≡ false → AfterStep (memory_in block) (input_in c) (done_in l) × (length l.block ≡ 530)
    refused e =
        let same : l.block ≡ block = w.memory ∙ rw e in
        let some : number_in l.answer ≡ 0 → ⊥ = λ z. (step-told o w).accepted.0 z OutOfRange (rw e refl) in
        (unchanged (memory_in block) (input_in c) (done_in l) (block-roomy block n) (ap memory_in same) (λ side. rw (ne_eqb (number_in l.answer) 0 some) refl), ap length same ∙ n)

last-through : (block : List ℕ) (cs : List Lent) (ls : List Left) (c : Lent) (l : Left) → length block ≡ 530 → AllOctets (map input_in cs) → IsSet c → FollowsThrough block (cs ++ (c ∷ [])) (ls ++ (l ∷ []))
    → Last (memory_in block) (map input_in cs) (map done_in ls) (input_in c) (done_in l)
last-through block [] [] c l n a own f = record { memory = memory_in block; recalls = λ side b. refl; did = (step-inside (λ e. n) own.1 f.0 (lent-right block c n own)).0 }
last-through block [] (g ∷ []) c l n a own f = absurd f.1
last-through block [] (g ∷ k ∷ ls) c l n a own f = absurd f.1
last-through block (e ∷ []) [] c l n a own f = absurd f.1
last-through block (e ∷ k ∷ cs) [] c l n a own f = absurd f.1
last-through block (e ∷ cs) (g ∷ ls) c l n a own f =
    let then = call-leaves block e g n a.0 f.0 in
    one_more (input_in e) (done_in g) then.0 (last-through g.block cs ls c l then.1 a.1 own f.1)

-- a block of zeros remembers nothing
zeros-hold : memory_in (replicate 530 0) ≡ no_memory
unfolding zeros
zeros-hold = refl

-- any series of calls from a block of zeros on, whatever is lent before the last, which has settings of ten octets and hears a frame from TP1
-- that address, codes and count let through
module _ (cs : List Lent) (ls : List Left) (c : Lent) (l : Left) (octets : AllOctets (map input_in cs)) (own : IsSet c) (calls : FollowsThrough (replicate 530 0) (cs ++ (c ∷ [])) (ls ++ (l ∷ []))) where
  last : Last no_memory (map input_in cs) (map done_in ls) (input_in c) (done_in l)
  last = subst (λ (m : Memory). Last m (map input_in cs) (map done_in ls) (input_in c) (done_in l)) zeros-hold (last-through (replicate 530 0) cs ls c l (length-replicate {A = ℕ} 530 0) octets own calls)

  -- what was accepted last before it from its side, by the calls' numbers; no octets if nothing was
  abbrev pub preceding : List ℕ
  preceding = last_accepted c.side [] (map input_in cs) (map done_in ls)

  module _ {x : Meaning} {p : List ℕ} (on-tp1 : from_ip (input_in c).coupler ≡ false) (h : Hears (input_in c).coupler c.octets (length c.room) x p) (allowed : is_allowed (input_in c).coupler x ≡ true) where
    pub stopped-in-a-series-through-c : forwarded_in l.answer ≡ 0 ↔ ((x.first ≡ false) × Agrees preceding c.octets)
    stopped-in-a-series-through-c = stopped-after own.1 last on-tp1 h allowed

    pub acknowledged-in-a-series-through-c : (x.first ≡ false) × Agrees preceding c.octets → Stopped c.room (outcome_in l.answer) l.room
    acknowledged-in-a-series-through-c = acknowledged-after own.1 last on-tp1 h allowed

    pub forwarded-in-a-series-through-c : ((x.first ≡ false) × Agrees preceding c.octets → ⊥) → Survives (input_in c).coupler x p c.room (outcome_in l.answer) l.room
    forwarded-in-a-series-through-c = forwarded-after own.1 last on-tp1 h allowed
