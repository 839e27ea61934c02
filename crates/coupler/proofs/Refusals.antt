-- Each refusal of the settings exactly in its listed case, then the reader's, then an accepted frame: corollaries of the law of tests in
-- order. Neither reader gives 15, 18, 14 or 13, and the outcome's refusal and its number tell the refusals apart.
use Rattle.std.specs.Prelude.{Result, Ok, Err, Some, None}
use Prim.Native.Nat.{ℕ}
use mathlib.Core.Bool.{Bool, true, false, not, ◌&&◌, ◌||◌}
use mathlib.Core.List.{List, [], ◌∷◌, ◌++◌}
use mathlib.Core.Logic.{◌↔◌}
use mathlib.Core.Path.{◌≡◌, refl, sym, ap, ◌∙◌}
use lib.Dec.{ltb, eqb}
use lib.ListN.{length, take, drop}
use borrow.Author.Tests.{eqb-false}
use Rattle.coupler.proofs.Apart.{frame-nothing, nothing-one}
use Rattle.passing.specs.Settings.{are_codes, table_fits}
use Rattle.coupler.specs.Step.{Coupler, setting_tests, from_ip, Heard, heard_tp1, heard_ip, read_by, after, heard, outcome_by, frame, nothing}
use Rattle.frame.proofs.Apart.{none-some, some-one}
use Rattle.frame.proofs.Numbers.{refused-number, number-apart}
use Rattle.frame.specs.Answers.{refusal_number}
use Rattle.frame.specs.Order.{Test, first_of, answer_by, NoneOf, ◌gives◌}
use Rattle.frame.specs.Refusals.{number}
use Rattle.frame.specs.declared.Meaning.{Meaning}
use Rattle.frame.specs.declared.Refusal.TheVariants.{SmallRoom, OutOfRange, WrongSetting, NoTable}
use Rattle.frame.specs.declared.Refusal.{Refusal}
use Rattle.routing.specs.Reading.{routing_tests, read_routing}
use Rattle.tp1.specs.Reading.{tp1_tests, read_tp1}
use Rattle.frame.proofs.Order.{passed-iff, refused-iff as order-iff, gives_not, never-given, answer-iff, refusal-once}
use Rattle.routing.proofs.Refusals.{refused-iff as routing-refused-iff}
use Rattle.tp1.proofs.Refusals.{refused-iff as tp1-refused-iff}
use Rattle.cemi.specs.declared.Message.{Message}

never-read : (b : Bool) (s : List ℕ) (r : Refusal) → gives_not (tp1_tests s) r ≡ true → gives_not (routing_tests s) r ≡ true → nothing r ≡ read_by b s → ⊥
never-read b s r g h e = by b e
  where
    by-tp1 : (a : Result Meaning Refusal) → read_tp1 s ≡ a → nothing r ≡ heard_tp1 a s → ⊥
    by-tp1 (Ok m) q z = frame-nothing z
    by-tp1 (Err x) q z = never-given (tp1_tests s) r g ((order-iff (tp1_tests s) r).1 ((tp1-refused-iff s r).0 (q ∙ ap Err (nothing-one (sym z)))))

    by-ip : (a : Result Message Refusal) → read_routing s ≡ a → nothing r ≡ heard_ip a s → ⊥
    by-ip (Ok x) q z = frame-nothing z
    by-ip (Err x) q z = never-given (routing_tests s) r h ((order-iff (routing_tests s) r).1 ((routing-refused-iff s r).0 (q ∙ ap Err (nothing-one (sym z)))))

    by : (b : Bool) → nothing r ≡ read_by b s → ⊥
    by true z = by-ip (read_routing s) refl z
    by false z = by-tp1 (read_tp1 s) refl z

-- the settings' word, then the reader's: an answer by a verdict
after-answer : (v : Result (Unit {0}) Refusal) (h : Heard) → after v h ≡ answer_by nothing h v
after-answer (Ok _) h = refl
after-answer (Err r) h = refl

behind-iff : (ts : List Test) (h : Heard) (r : Refusal) → gives_not ts r ≡ true → answer_by nothing h (first_of ts) ≡ nothing r ↔ (NoneOf ts × (h ≡ nothing r))
behind-iff ts h r g = (go (first_of ts) refl, λ x. ap (answer_by nothing h) ((passed-iff ts).1 x.0) ∙ x.1)
  where
    go : (v : Result (Unit {0}) Refusal) → first_of ts ≡ v → answer_by nothing h v ≡ nothing r → NoneOf ts × (h ≡ nothing r)
    go (Ok _) q e = ((passed-iff ts).0 q, e)
    go (Err x) q e = never-given ts r g (q ∙ ap Err (nothing-one e))

module _ (k : Coupler) (s : List ℕ) (room : ℕ) where
  answered : heard k s room ≡ answer_by nothing (read_by (from_ip k) s) (first_of (setting_tests k room))
  unfolding heard
  answered = after-answer (first_of (setting_tests k room)) (read_by (from_ip k) s)

  -- a frame is accepted exactly if no test of the settings is true and the reader accepts it
  pub accepted-iff : (m : Meaning) (p : List ℕ) → heard k s room ≡ frame m p ↔ (NoneOf (setting_tests k room) × (read_by (from_ip k) s ≡ frame m p))
  accepted-iff m p = rw answered (answer-iff nothing (λ q r. nothing-one) (setting_tests k room) (read_by (from_ip k) s) (frame m p) (λ r. frame-nothing))

  -- ", then the reader's": a refusal that is none of the settings' is the reader's
  pub reader-iff : (r : Refusal) → gives_not (setting_tests k room) r ≡ true → heard k s room ≡ nothing r ↔ (NoneOf (setting_tests k room) × (read_by (from_ip k) s ≡ nothing r))
  reader-iff r g = rw answered (behind-iff (setting_tests k room) (read_by (from_ip k) s) r g)

  once-at : (ts us : List Test) (b : Bool) (r : Refusal) → setting_tests k room ≡ ts ++ (b gives r ∷ us) → gives_not ts r ≡ true → gives_not us r ≡ true
      → gives_not (tp1_tests s) r ≡ true → gives_not (routing_tests s) r ≡ true → heard k s room ≡ nothing r ↔ (NoneOf ts × (b ≡ true))
  once-at ts us b r e g h i j = rw (answered ∙ ap (λ (l : List Test). answer_by nothing (read_by (from_ip k) s) (first_of l)) e) (refusal-once nothing (λ q r. nothing-one) ts us b (read_by (from_ip k) s) r (never-read (from_ip k) s r i j) g h)

  -- "Order: 15, 18 .., 14 .., 13 (room below 272)": each exactly if its test is true and none before it is
  pub refused-15 : heard k s room ≡ nothing WrongSetting ↔ (eqb k.setting.line 0 || not (are_codes k.codes) ≡ true)
  refused-15 = let w = once-at [] (drop 1 (setting_tests k room)) _ WrongSetting refl refl refl refl refl in ((λ e. (w.0 e).1), λ x. w.1 (tt, x))

  pub refused-18 : heard k s room ≡ nothing NoTable ↔ (NoneOf (take 1 (setting_tests k room)) × (not (table_fits k.codes (length k.table)) ≡ true))
  refused-18 = once-at (take 1 (setting_tests k room)) (drop 2 (setting_tests k room)) _ NoTable refl refl refl refl refl

  pub refused-14 : heard k s room ≡ nothing OutOfRange ↔ (NoneOf (take 2 (setting_tests k room)) × (not (ltb k.setting.side 2 && ltb k.setting.medium 2) ≡ true))
  refused-14 = once-at (take 2 (setting_tests k room)) (drop 3 (setting_tests k room)) _ OutOfRange refl refl refl refl refl

  pub refused-13 : heard k s room ≡ nothing SmallRoom ↔ (NoneOf (take 3 (setting_tests k room)) × (ltb room 272 ≡ true))
  refused-13 = once-at (take 3 (setting_tests k room)) [] _ SmallRoom refl refl refl refl refl

-- the outcome has a refusal exactly if that refusal was heard, and none exactly if none was
pub refusal-iff : (k : Coupler) (remembered s : List ℕ) (h : Heard) (r : Refusal) → (outcome_by k remembered s h).refusal ≡ Some r ↔ (h ≡ nothing r)
refusal-iff k remembered s (frame m p) r = ((λ e. none-some e), λ e. absurd (frame-nothing (sym e)))
refusal-iff k remembered s (nothing q) r = ((λ e. ap nothing (some-one e)), λ e. ap Some (nothing-one e))

pub none-iff : (k : Coupler) (remembered s : List ℕ) (h : Heard) → (outcome_by k remembered s h).refusal ≡ None ↔ ((r : Refusal) → h ≡ nothing r → ⊥)
none-iff k remembered s (frame m p) = ((λ e r z. frame-nothing (sym z)), λ f. refl)
none-iff k remembered s (nothing r) = ((λ e. none-some (sym e)), λ f. absurd (f r refl))

-- its number is a refusal's exactly if that refusal was heard, and 0 exactly if none was
pub number-iff : (k : Coupler) (remembered s : List ℕ) (h : Heard) (r : Refusal) → refusal_number (outcome_by k remembered s h).refusal ≡ number r ↔ (h ≡ nothing r)
number-iff k remembered s (frame m p) r = ((λ e. absurd (eqb-false (number r) 0 (refused-number r) (sym e))), λ e. absurd (frame-nothing (sym e)))
number-iff k remembered s (nothing q) r = ((λ e. ap nothing (number-apart q r e)), λ e. ap number (nothing-one e))

pub zero-iff : (k : Coupler) (remembered s : List ℕ) (h : Heard) → refusal_number (outcome_by k remembered s h).refusal ≡ 0 ↔ ((r : Refusal) → h ≡ nothing r → ⊥)
zero-iff k remembered s (frame m p) = ((λ e r z. frame-nothing (sym z)), λ f. refl)
zero-iff k remembered s (nothing r) = ((λ e. absurd (eqb-false (number r) 0 (refused-number r) e)), λ f. absurd (f r refl))
