-- What the reader accepts, and each refusal exactly in its listed case: frame's laws of a reader's tests in order, cited.
use Rattle.std.specs.Prelude.{Ok, Err}
use Prim.Native.Nat.{ℕ, suc}
use mathlib.Core.Bool.{Bool, true, not}
use mathlib.Core.List.{List, ◌∷◌, ◌++◌}
use mathlib.Core.Logic.{◌↔◌}
use mathlib.Core.Path.{◌≡◌, refl}
use lib.Dec.{ltb}
use lib.ListN.{length, take, drop}
use Rattle.frame.proofs.Order.{gives_not, accepted-by, refused-by, once_by, results-differ}
use Rattle.frame.specs.Fields.{is_control}
use Rattle.frame.specs.Order.{NoneOf, FirstIs, ◌gives◌}
use Rattle.frame.specs.declared.Meaning.{Meaning}
use Rattle.frame.specs.declared.Refusal.TheVariants.{NotData, OtherFormat, Escape, LeftOver, WrongCheck}
use Rattle.frame.specs.declared.Refusal.{Refusal}
use Rattle.octets.specs.Octets.{octet_at}
use Rattle.tp1.specs.Reading.{is_other_format, is_escape, frame_size, is_checked, meaning_in, tp1_tests, read_tp1}

module _ (s : List ℕ) where
  -- accepted with the meaning m exactly if no test of the order is true and the octets mean m
  pub accepted-iff : (m : Meaning) → read_tp1 s ≡ Ok m ↔ (NoneOf (tp1_tests s) × (meaning_in s ≡ m))
  unfolding read_tp1
  accepted-iff = accepted-by results-differ (tp1_tests s) (meaning_in s)

  -- refused with r exactly if a test of the order that gives r is true and none before it is
  pub refused-iff : (r : Refusal) → read_tp1 s ≡ Err r ↔ FirstIs (tp1_tests s) r
  unfolding read_tp1
  refused-iff = refused-by results-differ (tp1_tests s) (meaning_in s)

  once-at : (k : ℕ) (b : Bool) (r : Refusal) → tp1_tests s ≡ take k (tp1_tests s) ++ (b gives r ∷ drop (suc k) (tp1_tests s))
      → gives_not (take k (tp1_tests s)) r ≡ true → gives_not (drop (suc k) (tp1_tests s)) r ≡ true
      → read_tp1 s ≡ Err r ↔ (NoneOf (take k (tp1_tests s)) × (b ≡ true))
  unfolding read_tp1
  once-at = once_by results-differ (tp1_tests s) (meaning_in s)

  -- the refusals that one test alone gives: exactly if that test is true and none before it is
  pub refused-2 : read_tp1 s ≡ Err NotData ↔ (NoneOf (take 1 (tp1_tests s)) × (not (is_control (octet_at s 0)) ≡ true))
  refused-2 = once-at 1 _ NotData refl refl refl

  pub refused-3 : read_tp1 s ≡ Err OtherFormat ↔ (NoneOf (take 3 (tp1_tests s)) × (is_other_format s ≡ true))
  refused-3 = once-at 3 _ OtherFormat refl refl refl

  pub refused-4 : read_tp1 s ≡ Err Escape ↔ (NoneOf (take 4 (tp1_tests s)) × (is_escape s ≡ true))
  refused-4 = once-at 4 _ Escape refl refl refl

  pub refused-5 : read_tp1 s ≡ Err LeftOver ↔ (NoneOf (take 6 (tp1_tests s)) × (ltb (frame_size s) (length s) ≡ true))
  refused-5 = once-at 6 _ LeftOver refl refl refl

  pub refused-6 : read_tp1 s ≡ Err WrongCheck ↔ (NoneOf (take 7 (tp1_tests s)) × (not (is_checked s) ≡ true))
  refused-6 = once-at 7 _ WrongCheck refl refl refl
