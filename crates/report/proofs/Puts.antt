-- Two texts put one behind the other are one text put: so each function's pieces are joined from left to right.
use Prim.Native.Nat.{ℕ, zero, suc, ◌+◌, ◌≤◌, ◌<◌}
use mathlib.Core.List.{List, [], ◌∷◌, ◌++◌, append_assoc}
use mathlib.Core.Path.{◌≡◌, refl, sym, ap, ◌∙◌, subst}
use native.Mathlib.Omega.{arith}
use lib.ListN.{length, length-append, set, take, drop}
use Rattle.octets.proofs.Room.{laid-fits, laid-length, laid_then}
use Rattle.octets.specs.Room.{laid}
use Rattle.report.specs.declared.text.Writer.{Writer}
use Rattle.report.specs.Stages.{Fits, HasPlace, Puts, Wrote}

-- one octet written is that octet laid
set-taken : (room : List ℕ) (at octet : ℕ) → at < length room → set room at octet ≡ take at room ++ octet ∷ drop (suc at) room
set-taken [] at octet h = absurd (omega arith)
set-taken (a ∷ room) zero octet h = refl
set-taken (a ∷ room) (suc at) octet h = ap (λ (l : List ℕ). a ∷ l) (set-taken room at octet (omega (arith, h)))

pub set-laid : (room : List ℕ) (at octet : ℕ) → at + 1 ≤ length room → set room at octet ≡ laid (octet ∷ []) at room
set-laid room at octet h =
    let next : suc at ≡ at + length (octet ∷ []) = omega arith in
    set-taken room at octet (omega (arith, h)) ∙ ap (λ (k : ℕ). take at room ++ octet ∷ drop k room) next ∙ sym (laid-fits (octet ∷ []) at room h ∙ append_assoc (take at room) (octet ∷ []) (drop (at + length (octet ∷ [])) room))

module _ (a b : List ℕ) (w : Writer) (h : HasPlace w (a ++ b)) where
  fits_both : w.at + (length a + length b) ≤ length w.room.now
  fits_both = rw length-append at h

  pub has-first : HasPlace w a
  has-first = omega (arith, fits_both)

  module _ {w₁ : Writer} (x : Wrote w a w₁) where
    -- the second text has its place
    pub has-then : HasPlace w₁ b
    has-then = rw (x.put.ends, x.put.put, laid-length a w.at w.room.now has-first) (omega (arith, fits_both))

    pub wrote-then : {w₂ : Writer} → Wrote w₁ b w₂ → Wrote w (a ++ b) w₂
    wrote-then y =
        record {
          lent = y.lent ∙ x.lent;
          put = record {
            fits = h;
            ends = rw (y.put.ends, x.put.ends, length-append) (omega arith);
            put = y.put.put ∙ rw (x.put.ends, x.put.put) (laid_then a b w.at w.room.now h);
          };
        }

pub has-as : {a b : List ℕ} (w : Writer) → a ≡ b → HasPlace w a → HasPlace w b
has-as w e x = subst (λ (s : List ℕ). HasPlace w s) e x

pub wrote-as : {a b : List ℕ} {w w' : Writer} → a ≡ b → Wrote w a w' → Wrote w b w'
wrote-as {w = w} {w'} e x = subst (λ (s : List ℕ). Wrote w s w') e x

-- a writer that was made for a room; what the room is at the end, by another name of it
module _ (w : Writer) {room : List ℕ} (first : w.at ≡ 0) (same : w.room.now ≡ room) where
  pub made-has : (text : List ℕ) → Fits text 0 room → HasPlace w text
  made-has text f = rw (first, same) f

  pub made-puts : {text left : List ℕ} {w' : Writer} → Wrote w text w' → left ≡ w'.room.now → Puts text 0 room w'.at left
  made-puts x e = record { fits = rw (first, same) at x.put.fits; ends = rw first at x.put.ends; put = e ∙ rw (first, same) at x.put.put }
