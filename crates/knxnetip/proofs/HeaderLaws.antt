-- What the verdict of the header's reader says of its tests; and header and tests are inverse: the header over octets that fill the
-- datagram passes, of whichever service, and what passes is such a header.
use Rattle.std.specs.Prelude.{Result, Ok}
use Prim.Native.Nat.{ℕ, ◌+◌, ◌-◌, ◌≤◌}
use mathlib.Core.Bool.{not}
use mathlib.Core.List.{List, ◌∷◌, ◌++◌}
use mathlib.Core.Path.{◌≡◌, refl, ap, ◌∙◌}
use native.Mathlib.Omega.{arith}
use lib.ListN.{length, drop, length-drop}
use borrow.Author.Tests.{ltb-false, eqb-true, not-false, le-ltb, eq-eqb}
use Rattle.octets.proofs.Split.{head-rest}
use Rattle.octets.proofs.Truth.{and-true}
use Rattle.octets.specs.Octets.{octet_at, Octets}
use Rattle.octets.specs.Word.{word_at, high, low}
use Rattle.frame.proofs.Order.{passed-iff}
use Rattle.frame.specs.Order.{first_of, NoneOf}
use Rattle.knxnetip.specs.Header.{header_of, is_other_header, is_other_service, is_other_length, header_tests, read_header}
use Rattle.frame.specs.declared.Refusal.{Refusal}

module _ (service : ℕ) (s : List ℕ) where
  pub header-verdict : {v : Result (Unit {0}) Refusal} → read_header service s ≡ v → first_of (header_tests service s) ≡ v
  unfolding read_header
  header-verdict e = e

  pub header-least : read_header service s ≡ Ok tt → 6 ≤ length s
  header-least e = ltb-false _ _ ((passed-iff (header_tests service s)).0 (header-verdict e)).0

module _ (service : ℕ) where
  -- the header over octets that fill the datagram
  abbrev pub headed : List ℕ → List ℕ
  headed o = header_of service (6 + length o) ++ o

  -- it passes (a total length that two octets cannot hold makes no octets of the datagram) ..
  pub header-laid : (o : List ℕ) → NoneOf (header_tests service (headed o))
  unfolding is_other_header is_other_service is_other_length
  header-laid o =
      let wanted : word_at (headed o) 2 ≡ service = omega arith in
      let total : word_at (headed o) 4 ≡ length (headed o) = omega arith in
      (le-ltb (length (headed o)) 6 (omega arith), (refl, (ap not (eq-eqb _ _ wanted), (ap not (eq-eqb _ _ total), tt))))

  -- .. and octets that pass are it
  pub header-back : (s : List ℕ) → Octets s → NoneOf (header_tests service s) → s ≡ headed (drop 6 s)
  unfolding is_other_header is_other_service is_other_length
  header-back s o n =
      let fits : 6 ≤ length s = ltb-false _ _ n.0 in
      let start = and-true _ _ (not-false _ n.1.0) in
      let wanted : word_at s 2 ≡ service = eqb-true _ _ (not-false _ n.1.1.0) in
      let total : word_at s 4 ≡ length s = eqb-true _ _ (not-false _ n.1.1.1.0) in
      let size : length (drop 6 s) ≡ length s - 6 = length-drop 6 s in
      let e₀ : octet_at s 0 ≡ 0x06 = eqb-true _ _ start.0 in
      let e₁ : octet_at s 1 ≡ 0x10 = eqb-true _ _ start.1 in
      let e₂ : octet_at s 2 ≡ high service = omega (arith, o 3) in
      let e₃ : octet_at s 3 ≡ low service = omega (arith, o 3) in
      let e₄ : octet_at s 4 ≡ high (6 + length (drop 6 s)) = omega (arith, o 5) in
      let e₅ : octet_at s 5 ≡ low (6 + length (drop 6 s)) = omega (arith, o 5) in
      head-rest 6 s fits ∙ (λ j. e₀ j ∷ e₁ j ∷ e₂ j ∷ e₃ j ∷ e₄ j ∷ e₅ j ∷ drop 6 s)
