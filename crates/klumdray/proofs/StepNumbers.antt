-- A step's number is its fields one above the other. No step forwards more than 270 octets, so that `% 65536` loses nothing.
use Prim.Native.Nat.{ℕ, ◌^◌, ◌≤◌, ◌<◌}
use mathlib.Core.Bool.{Bool, true, false, cond}
use mathlib.Core.List.{List, [], ◌∷◌}
use mathlib.Core.Path.{◌≡◌, refl}
use native.Mathlib.Omega.{arith}
use lib.ListN.{length}
use Rattle.coupler.proofs.Answers.{acknowledgement-fits}
use Rattle.coupler.proofs.Refusals.{number-iff, zero-iff}
use Rattle.coupler.proofs.StepLaws.{heard-valid}
use Rattle.coupler.specs.Memory.{recalled, side_of}
use Rattle.coupler.specs.Step.{Coupler, Heard, frame, nothing, heard, to_ip, is_forwarded, repeats, forwarded_meaning, indication, form_of, acknowledgement_number, outcome_of, outcome_by}
use Rattle.coupler.specs.declared.Outcome.{Outcome}
use Rattle.coupler.specs.declared.Setting.{Setting}
use Rattle.frame.proofs.Numbers.{number-listed}
use Rattle.frame.specs.Answers.{refusal_number}
use Rattle.frame.proofs.Valid.{most-payload}
use Rattle.frame.specs.Refusals.{last_number}
use Rattle.frame.specs.declared.Meaning.{Meaning}
use Rattle.frame.specs.declared.Refusal.TheVariants.{OutOfRange}
use Rattle.klumdray.proofs.Bits.{bit-fits, Field, ◌holding◌, packed, Fit, read_back, below}
use Rattle.klumdray.specs.Block.{memory_in, outcome_number, heard_through, SteppedThrough}
use Rattle.klumdray.specs.Decoding.{bits, number_in, outcome_numbered, outcome_from, forwarded_in, TellsParts}
use Rattle.octets.specs.Octets.{Octets, weigh}
use Rattle.routing.proofs.LayoutLaws.{length-routing}
use Rattle.tp1.proofs.LayoutLaws.{head-most, length-octets}

outcome_fields : Outcome → List Field
outcome_fields o =
    8 holding refusal_number o.refusal
    ∷ 8 holding acknowledgement_number o.acknowledgement
    ∷ 1 holding weigh o.own 1
    ∷ 15 holding 0
    ∷ 32 holding o.forwarded
    ∷ []

module _ (o : Outcome) (n : refusal_number o.refusal ≤ last_number) (h : o.forwarded ≤ 270) where
  outcome-fit : Fit (outcome_fields o)
  unfolding outcome_fields
  outcome-fit = (omega arith, (acknowledgement-fits o.acknowledgement, (bit-fits o.own, (omega arith, (omega arith, tt)))))

  outcome-packed : outcome_number o ≡ packed (outcome_fields o)
  unfolding outcome_number outcome_fields
  outcome-packed = omega arith

  outcome-number : number_in (outcome_number o) ≡ refusal_number o.refusal
  unfolding outcome_fields
  outcome-number = read_back (outcome_fields o) (outcome_number o) outcome-fit outcome-packed 0 (omega arith)

  outcome-forwarded : forwarded_in (outcome_number o) ≡ o.forwarded
  unfolding outcome_fields
  outcome-forwarded = read_back (outcome_fields o) (outcome_number o) outcome-fit outcome-packed 4 (omega arith)

  outcome-decoded : outcome_from (outcome_number o) ≡ outcome_numbered o
  unfolding outcome_fields
  outcome-decoded =
      let field = read_back (outcome_fields o) (outcome_number o) outcome-fit outcome-packed in
      rw (field 0 (omega arith), field 1 (omega arith), field 2 (omega arith), field 4 (omega arith))

  outcome-between : bits 17 15 (outcome_number o) ≡ 0
  unfolding outcome_fields
  outcome-between = read_back (outcome_fields o) (outcome_number o) outcome-fit outcome-packed 3 (omega arith)

  outcome_fits : outcome_number o < 2 ^ 64
  unfolding outcome_fields
  outcome_fits = below (outcome_fields o) (outcome_number o) outcome-fit outcome-packed

-- a step forwards at most 270 octets, the size of the longest routing datagram in the plain form

form-most : (ip : Bool) (k : Setting) (m : Meaning) (p : List ℕ) → length p ≤ 255 → length (form_of ip k m p) ≤ 270
unfolding form_of
form-most true k m p h = omega (arith, length-routing (indication (forwarded_meaning k m)) p)
form-most false k m p h = omega (arith, length-octets (forwarded_meaning k m) p, head-most m.extended)

if-most : (b : Bool) (l : List ℕ) → length l ≤ 270 → length (cond b l []) ≤ 270
if-most true l h = h
if-most false l h = omega arith

pub at-most-270 : (k : Coupler) (remembered s : List ℕ) (room : ℕ) → Octets s → (outcome_of k remembered s room).forwarded ≤ 270
at-most-270 k remembered s room o = go (heard k s room) refl
  where
    go : (h : Heard) → heard k s room ≡ h → (outcome_by k remembered s h).forwarded ≤ 270
    go (frame m p) e = if-most (is_forwarded k (repeats k remembered s) m) (form_of (to_ip k) k.setting m p) (form-most (to_ip k) k.setting m p (most-payload m (length p) (heard-valid k s room m p o e).ranges))
    go (nothing r) e = omega arith

numbered-most : (k : Coupler) (remembered s : List ℕ) (h : Heard) → refusal_number (outcome_by k remembered s h).refusal ≤ last_number
numbered-most k remembered s (frame m p) = omega arith
numbered-most k remembered s (nothing q) = (number-listed q).1

outcome-answer : (k : Coupler) (remembered s : List ℕ) (h : Heard) → (outcome_by k remembered s h).forwarded ≤ 270
    → TellsParts 64 outcome_from (outcome_number (outcome_by k remembered s h)) (outcome_numbered (outcome_by k remembered s h)) (λ r. h ≡ nothing r)
outcome-answer k remembered s h most =
    let o : Outcome = outcome_by k remembered s h in
    let listed : refusal_number o.refusal ≤ last_number = numbered-most k remembered s h in
    let e : number_in (outcome_number o) ≡ refusal_number o.refusal = outcome-number o listed most in
    record {
      fits = outcome_fits o listed most;
      decoded = outcome-decoded o listed most;
      accepted = rw e (zero-iff k remembered s h);
      refused = λ r. rw e (number-iff k remembered s h r);
    }

-- the same through the surface
module _ {right : Bool} {k : Coupler} {block s room : List ℕ} {answer : ℕ} {block' room' : List ℕ} (os : Octets s) (w : SteppedThrough right k block s room answer block' room') where
  remembered : List ℕ
  remembered = recalled (side_of (memory_in block) k.setting.side)

  through-most : (outcome_by k remembered s (heard_through right k s (length room))).forwarded ≤ 270
  unfolding heard_through
  through-most = go right
    where
      go : (b : Bool) → (outcome_by k remembered s (cond b (heard k s (length room)) (nothing OutOfRange))).forwarded ≤ 270
      go true = at-most-270 k remembered s (length room) os
      go false = omega arith

  pub step-told : TellsParts 64 outcome_from answer (outcome_numbered (outcome_by k (recalled (side_of (memory_in block) k.setting.side)) s (heard_through right k s (length room)))) (λ r. heard_through right k s (length room) ≡ nothing r)
  unfolding remembered
  step-told = rw w.answered (outcome-answer k remembered s (heard_through right k s (length room)) through-most)

  pub step-between : bits 17 15 answer ≡ 0
  unfolding remembered
  step-between =
      let h : Heard = heard_through right k s (length room) in
      rw w.answered (outcome-between (outcome_by k remembered s h) (numbered-most k remembered s h) through-most)

  pub step-most : forwarded_in answer ≤ 270
  unfolding remembered
  step-most =
      let h : Heard = heard_through right k s (length room) in
      rw (w.answered, outcome-forwarded (outcome_by k remembered s h) (numbered-most k remembered s h) through-most) through-most
