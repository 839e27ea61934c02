-- The list as text, line by line: the text of the entries that are left, laid over the room as it stands, gives what the whole text laid
-- over the room as it was gives.
use Prim.Native.Nat.{ℕ, ◌+◌, ◌≤◌, ◌<◌}
use mathlib.Core.List.{List, [], ◌∷◌, ◌++◌, append-nil}
use mathlib.Core.Path.{◌≡◌, refl, sym, ap, ◌∙◌}
use native.Mathlib.Omega.{arith}
use lib.ListN.{length, get_or, length-append, take-append-drop}
use Rattle.octets.proofs.Room.{laid-fits}
use Rattle.octets.specs.Room.{laid}
use Rattle.octets.proofs.Room.{laid_then}
use Rattle.report.proofs.Puts.{has-first, has-then, has-as}
use Rattle.report.specs.Text.{line_text, list_text}
use Rattle.report.specs.declared.text.Writer.{Writer}
use Rattle.report.specs.Stages.{HasPlace, Wrote}

short-list : (s : List ℕ) → length s < 3 → list_text s ≡ []
short-list [] h = refl
short-list (a ∷ []) h = refl
short-list (a ∷ b ∷ []) h = refl
short-list (a ∷ b ∷ c ∷ s) h = absurd (omega arith)

laid_none : (at : ℕ) (room : List ℕ) → at ≤ length room → laid [] at room ≡ room
laid_none at room h =
    let e : at + 0 ≡ at = omega arith in
    laid-fits [] at room (omega arith) ∙ rw (append-nil, e) (take-append-drop at room)

-- the text of the next entry and of those behind it
list-next : (entry rest : List ℕ) → length entry ≡ 3
    → list_text (entry ++ rest) ≡ line_text (get_or entry 0 0) (get_or entry 1 0) (get_or entry 2 0) ++ list_text rest
list-next [] rest h = absurd (omega arith)
list-next (a ∷ []) rest h = absurd (omega arith)
list-next (a ∷ b ∷ []) rest h = absurd (omega arith)
list-next (a ∷ b ∷ c ∷ []) rest h = refl
list-next (a ∷ b ∷ c ∷ d ∷ s) rest h = absurd (omega arith)

-- the entries that are left, of a list that a writer puts
pub record Rest (list left : List ℕ) (w₀ w : Writer) : Type 0 where
  pub lent : w.room.ghost_name ≡ w₀.room.ghost_name
  pub fits : HasPlace w (list_text left)
  pub ends : w.at + length (list_text left) ≡ w₀.at + length (list_text list)
  pub rest : laid (list_text left) w.at w.room.now ≡ laid (list_text list) w₀.at w₀.room.now

pub rest-none : {list : List ℕ} {w : Writer} → HasPlace w (list_text list) → Rest list list w w
rest-none h = record { lent = refl; fits = h; ends = refl; rest = refl }

module _ {list left : List ℕ} {w₀ w : Writer} (x : Rest list left w₀ w) where
  module _ (entry behind : List ℕ) (e : left ≡ entry ++ behind) (h : length entry ≡ 3) where
    abbrev text : List ℕ
    text = line_text (get_or entry 0 0) (get_or entry 1 0) (get_or entry 2 0)

    next : list_text left ≡ text ++ list_text behind
    next = ap list_text e ∙ list-next entry behind h

    fits_both : HasPlace w (text ++ list_text behind)
    fits_both = has-as w next x.fits

    pub fits-entry : HasPlace w text
    fits-entry = has-first text (list_text behind) w fits_both

    pub rest_more : {w' : Writer} → Wrote w text w' → Rest list behind w₀ w'
    rest_more y =
        record {
          lent = y.lent ∙ x.lent;
          fits = has-then text (list_text behind) w fits_both y;
          ends = rw (y.put.ends, ← x.ends, next, length-append) (omega arith);
          rest = rw (y.put.ends, y.put.put) (laid_then text (list_text behind) w.at w.room.now fits_both ∙ rw next at x.rest);
        }

  pub rest_all : HasPlace w₀ (list_text list) → length left < 3 → Wrote w₀ (list_text list) w
  rest_all f h =
      let e : list_text left ≡ [] = short-list left h in
      record {
        lent = x.lent;
        put = record {
          fits = f;
          ends = omega (arith, rw e at x.ends);
          put = sym (laid_none w.at w.room.now (omega (arith, rw e at x.fits))) ∙ rw e at x.rest;
        };
      }
