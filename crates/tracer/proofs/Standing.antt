-- What stands in the room of a trace: line, count on arrival and couplers crossed stand in one of its places exactly if the line is listed
-- with them. By the lines below a number: the entry of each stands behind those of the lines before it, three octets for each.
use Prim.Native.Nat.{ℕ, zero, suc, ◌*◌, ◌<◌}
use mathlib.Core.Bool.{Bool, true}
use mathlib.Core.List.{List, [], ◌∷◌, ◌++◌, append_assoc}
use mathlib.Core.Logic.{◌↔◌}
use mathlib.Core.Path.{◌≡◌, refl, sym, ap, ◌∙◌}
use native.Mathlib.Omega.{arith}
use lib.Dec.{ltb, eqb}
use lib.ListN.{length, take, drop}
use lib.Seq.{drop-append_seam}
use borrow.Author.Tests.{ltb-true, ltb-false, eqb-true, eqb-false}
use Rattle.octets.proofs.Truth.{by_cases}
use Rattle.octets.specs.Octets.{octet_at}
use Rattle.octets.specs.Room.{over}
use Rattle.site.specs.Stores.{Stores}
use Rattle.tracer.proofs.ListLaws.{three-each}
use Rattle.tracer.specs.Lines.{distance}
use Rattle.tracer.specs.Query.{on_arrival}
use Rattle.tracer.specs.Listing.{crossing_passes, is_listed, entry, StandsIn, each_below, count_below, listed, lines_listed}
use Rattle.tracer.specs.declared.Query.{Query}

-- a line is listed with this count on arrival and so many couplers crossed
pub record ListedWith (st : Stores) (site : List ℕ) (q : Query) (line count crossed : ℕ) : Type 0 where
  pub lists : is_listed (crossing_passes st site q) q.start q.count line ≡ true
  pub counts : on_arrival q (distance q.start line) ≡ count
  pub crosses : distance q.start line ≡ crossed

module _ (st : Stores) (site : List ℕ) (q : Query) where
  abbrev lists : ℕ → Bool
  lists = is_listed (crossing_passes st site q) q.start q.count

  abbrev entry_of : ℕ → List ℕ
  entry_of = entry (crossing_passes st site q) q

  -- the entry of line n stands behind those of the lines below it
  entry-stands : (n : ℕ) (rest : List ℕ) → lists n ≡ true
      → take 3 (drop (count_below lists n * 3) ((each_below entry_of n ++ entry_of n) ++ rest)) ≡ n ∷ on_arrival q (distance q.start n) ∷ distance q.start n ∷ []
  unfolding entry
  entry-stands n rest l =
      let e : drop (count_below lists n * 3) ((each_below entry_of n ++ entry_of n) ++ rest) ≡ entry_of n ++ rest =
      rw (← three-each (crossing_passes st site q) q n, append_assoc (each_below entry_of n) (entry_of n) rest) (drop-append_seam (each_below entry_of n) (entry_of n ++ rest)) in
      ap (take 3) e ∙ rw l refl

  -- so many listed lines come before it
  stands-listed : (n : ℕ) (rest : List ℕ) (t k d : ℕ) (x : StandsIn (each_below entry_of n ++ rest) (count_below lists n) t k d)
      → (x.place ≡ count_below lists t) × ((t < n) × ListedWith st site q t k d)
  stands-listed zero rest t k d x = absurd (omega (arith, x.among))
  stands-listed (suc n) rest t k d x =
      by_cases (ltb x.place (count_below lists n))
      (λ e.
      let a : List ℕ → List ℕ = λ l. take 3 (drop (x.place * 3) l) in
      let y = stands-listed n (entry_of n ++ rest) t k d (record { place = x.place; among = ltb-true x.place (count_below lists n) e; three = ap a (sym (append_assoc (each_below entry_of n) (entry_of n) rest)) ∙ x.three }) in
      (y.0, (omega (arith, y.1.0), y.1.1)))
      (λ e.
      let h = ltb-false x.place (count_below lists n) e in
      by_cases (lists n)
      (λ l.
      let g : x.place ≡ count_below lists n = omega (arith, h, rw l at x.among) in
      let f : t ∷ k ∷ d ∷ [] ≡ n ∷ on_arrival q (distance q.start n) ∷ distance q.start n ∷ [] =
      sym x.three ∙ ap (λ (i : ℕ). take 3 (drop (i * 3) ((each_below entry_of n ++ entry_of n) ++ rest))) g ∙ entry-stands n rest l in
      let same : t ≡ n = ap (λ (o : List ℕ). octet_at o 0) f in
      (g ∙ ap (count_below lists) (sym same), (omega (arith, same), rw same (record { lists = l; counts = sym (ap (λ (o : List ℕ). octet_at o 1) f); crosses = sym (ap (λ (o : List ℕ). octet_at o 2) f) }))))
      (λ l. absurd (omega (arith, h, rw l at x.among))))

  listed-stands : (n : ℕ) (rest : List ℕ) (t k d : ℕ) → t < n → ListedWith st site q t k d → StandsIn (each_below entry_of n ++ rest) (count_below lists n) t k d
  listed-stands zero rest t k d h x = absurd (omega arith)
  listed-stands (suc n) rest t k d h x =
      by_cases (eqb t n)
      (λ e.
      let same : t ≡ n = eqb-true t n e in
      let l : lists n ≡ true = rw same at x.lists in
      record { place = count_below lists n; among = rw l (omega arith); three = entry-stands n rest l ∙ rw (← same, x.counts, x.crosses) refl })
      (λ e.
      let y = listed-stands n (entry_of n ++ rest) t k d (omega (arith, eqb-false t n e)) x in
      record { place = y.place; among = omega (arith, y.among); three = ap (λ (l : List ℕ). take 3 (drop (y.place * 3) l)) (append_assoc (each_below entry_of n) (entry_of n) rest) ∙ y.three })

  -- in a room that begins with the list
  module _ (room : List ℕ) where
    pub stands-iff : (t k d : ℕ) → StandsIn (over (listed st site q) room) (lines_listed st site q) t k d ↔ ((t < 256) × ListedWith st site q t k d)
    unfolding listed lines_listed
    stands-iff t k d = (
      (λ x. (stands-listed 256 (drop (length (each_below entry_of 256)) room) t k d x).1),
      (λ x. listed-stands 256 (drop (length (each_below entry_of 256)) room) t k d x.0 x.1),
    )

    -- a line stands in one place
    pub stands-once : (t : ℕ) {k₁ k₂ d₁ d₂ : ℕ} (a : StandsIn (over (listed st site q) room) (lines_listed st site q) t k₁ d₁) (b : StandsIn (over (listed st site q) room) (lines_listed st site q) t k₂ d₂)
        → a.place ≡ b.place
    unfolding listed lines_listed
    stands-once t {k₁} {k₂} {d₁} {d₂} a b =
        let rest : List ℕ = drop (length (each_below entry_of 256)) room in
        (stands-listed 256 rest t k₁ d₁ a).0 ∙ sym (stands-listed 256 rest t k₂ d₂ b).0
