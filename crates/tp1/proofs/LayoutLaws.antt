-- The layout taken apart: its head by the format, its length, its check octet, and how it comes to stand in a room.
use Prim.Native.Nat.{ℕ, suc, ◌+◌, ◌-◌, ◌≤◌, ◌<◌}
use mathlib.Core.Bool.{Bool, true, false, cond}
use mathlib.Core.List.{List, [], ◌∷◌, ◌++◌}
use mathlib.Core.Path.{◌≡◌, refl, sym, ap, ◌∙◌}
use native.Mathlib.Omega.{arith}
use lib.ListN.{length, drop, set, length-append}
use Rattle.frame.proofs.Valid.{most-payload}
use Rattle.frame.specs.Valid.{in_range}
use Rattle.frame.specs.declared.Meaning.{Meaning}
use Rattle.octets.proofs.Room.{laid-front, laid-behind, set-behind}
use Rattle.octets.specs.Check.{xor_from, check_octet}
use Rattle.octets.proofs.ExclusiveOr.{xor-append}
use Rattle.octets.specs.Room.{laid, over}
use Rattle.tp1.specs.Layout.{standard_head, extended_head, head, head_of, sealed, tp1_octets}

pub head-extended : (m : Meaning) (lg : ℕ) → m.extended ≡ true → head m lg ≡ extended_head m lg
unfolding head
head-extended m lg e = ap (λ (b : Bool). cond b (extended_head m lg) (standard_head m lg)) e

pub head-standard : (m : Meaning) (lg : ℕ) → m.extended ≡ false → head m lg ≡ standard_head m lg
unfolding head
head-standard m lg e = ap (λ (b : Bool). cond b (extended_head m lg) (standard_head m lg)) e

pub length-head : (m : Meaning) (lg : ℕ) → length (head m lg) ≡ head_of m.extended
length-head m lg = go m.extended refl
  where
    go : (b : Bool) → m.extended ≡ b → length (head m lg) ≡ head_of b
    go true e = ap length (head-extended m lg e)
    go false e = ap length (head-standard m lg e)

pub head-least : (b : Bool) → 6 ≤ head_of b
head-least true = omega arith
head-least false = omega arith

pub head-most : (b : Bool) → head_of b ≤ 7
head-most true = omega arith
head-most false = omega arith

pub length-octets : (m : Meaning) (p : List ℕ) → length (tp1_octets m p) ≡ head_of m.extended + length p + 1
unfolding tp1_octets sealed
length-octets m p = rw (length-append (head m (length p - 1) ++ p), length-append (head m (length p - 1)) p, length-head m (length p - 1))

-- head, payload and check octet, each laid behind the one before, are the frame over the room
pub frame-room : (m : Meaning) (p room : List ℕ) (n front : ℕ) {r₁ r₂ r₃ : List ℕ} → n ≡ head_of m.extended → head_of m.extended + length p < length room
    → r₁ ≡ laid (head m (length p - 1)) 0 room
    → front ≡ xor_from 0 (head m (length p - 1))
    → r₂ ≡ laid p n r₁
    → r₃ ≡ set r₂ (n + length p) (255 - xor_from front p)
    → r₃ ≡ over (tp1_octets m p) room
unfolding tp1_octets sealed check_octet
frame-room m p room n front {r₁} {r₂} {r₃} en h e₁ ex e₂ e₃ =
    let H : List ℕ = head m (length p - 1) in
    let k : n ≡ length H = en ∙ sym (length-head m (length p - 1)) in
    let fits : length H + length p < length room = omega (arith, k, en) in
    let laid₂ : r₂ ≡ (H ++ p) ++ drop (length H + length p) room = e₂ ∙ rw (k, e₁ ∙ laid-front H room (omega arith)) (laid-behind H p room (omega arith)) in
    let size : length (H ++ p ++ (check_octet (H ++ p) ∷ [])) ≡ suc (length H + length p) = simp length-append (omega arith) in
    let check : 255 - xor_from front p ≡ check_octet (H ++ p) = ap (λ (x : ℕ). 255 - x) (ap (λ (x : ℕ). xor_from x p) ex ∙ sym (xor-append 0 H p)) in
    e₃ ∙ rw (laid₂, k, check, size) (set-behind H p room (check_octet (H ++ p)) fits)

-- the longest frame has 263 octets
pub octets-most : (m : Meaning) (p : List ℕ) → in_range m (length p) ≡ true → length (tp1_octets m p) ≤ 263
octets-most m p e = omega (arith, length-octets m p, head-most m.extended, most-payload m (length p) e)
