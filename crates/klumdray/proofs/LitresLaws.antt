-- The lent blocks of a total and of a station: what the calls inside leave, laid over the blocks, is what the surface says.
use Rattle.std.specs.Prelude.{Result, Ok, Err}
use Prim.Native.Nat.{ℕ, ◌≤◌, ◌<◌}
use mathlib.Core.Bool.{Bool, true, false, cond, ◌&&◌}
use mathlib.Core.List.{List, [], ◌++◌}
use mathlib.Core.Path.{◌≡◌, refl, sym, ap, ◌∙◌, subst}
use native.Mathlib.Omega.{arith}
use lib.Dec.{ltb, eqb}
use lib.IntN.{ℤ}
use lib.ListN.{length, take, drop}
use mathlib.Core.List.{append-nil}
use lib.Seq.{drop-length}
use borrow.Author.Tests.{eqb-true, ltb-true}
use Rattle.octets.proofs.Room.{laid-front, laid-length}
use Rattle.octets.proofs.Truth.{by_cases, never, and-true}
use Rattle.octets.specs.Octets.{Octets}
use Rattle.octets.specs.Room.{laid}
use Rattle.frame.specs.declared.Refusal.TheVariants.{OutOfRange}
use Rattle.tp1.specs.Reading.{read_tp1}
use Rattle.coupler.proofs.StepLaws.{tp1-most}
use Rattle.coupler.proofs.Promised.{recalls}
use Rattle.coupler.specs.Memory.{recalled, remembering}
use Rattle.coupler.specs.declared.Remembered.{Remembered}
use Rattle.leak.specs.Total.{add_to}
use Rattle.station.specs.Taking.{telegram_in, telegram_for, counted_by, taken_by}
use Rattle.station.specs.declared.Telegram.{Telegram}
use Rattle.station.specs.declared.Telegram.TheVariants.{Increment, Repetition, OtherGroup, NoIncrement}
use Rattle.station.specs.declared.Tally.{Tally}
use Rattle.klumdray.specs.Block.{remembered_in, half_of}
use Rattle.klumdray.specs.Litres.{is_total, total_in, total_octets, added_number, block_added, added_through, AddedThrough, telegram_number, memory_taken, total_taken, is_lent, taken_through, TookFrame}
use Rattle.klumdray.specs.Stages.{kept_in, remembered_at, sum_laid, taken_laid, is_accepted}
use Rattle.klumdray.proofs.BlockLaws.{half-remembered, half-recalled}
use Rattle.klumdray.proofs.Remembered.{half-read, octets-263}
use Rattle.frame.specs.declared.Refusal.{Refusal}
use Rattle.frame.specs.declared.Meaning.{Meaning}

-- a total fills its block
whole : (z : ℤ) (block : List ℕ) → length block ≡ 8 → laid (total_octets z) 0 block ≡ total_octets z
unfolding total_octets
whole z block n =
    let none : drop 8 block ≡ [] = subst (λ (k : ℕ). drop k block ≡ []) n (drop-length block) in
    laid-front (total_octets z) block (omega (arith, n)) ∙ ap (λ (l : List ℕ). total_octets z ++ l) none ∙ append-nil (total_octets z)

sum_laid-is_block : (a : Result ℤ Refusal) (block : List ℕ) → length block ≡ 8 → sum_laid a block ≡ block_added a block
sum_laid-is_block (Ok s) block n = whole s block n
sum_laid-is_block (Err r) block n = refl

-- adding, of a block and a code that fit, and of those that do not
inside-adds : (block : List ℕ) (code : ℕ) → is_total block && ltb code 65536 ≡ true → added_through block code ≡ add_to (total_in block) code
unfolding added_through
inside-adds block code right = rw right

pub added-fit : (block : List ℕ) (code : ℕ) {block' : List ℕ} {a : Result ℤ Refusal} {t : ℤ} {answer : ℕ} → is_total block && ltb code 65536 ≡ true
    → t ≡ total_in block → a ≡ add_to t code → block' ≡ sum_laid a block → answer ≡ added_number a
    → AddedThrough block code answer block'
added-fit block code {a = a} right et ea eb en =
    let e : a ≡ added_through block code = ea ∙ ap (λ (z : ℤ). add_to z code) et ∙ sym (inside-adds block code right) in
    record {
      answers = en ∙ ap added_number e;
      counted = eb ∙ sum_laid-is_block a block (eqb-true (length block) 8 (and-true (is_total block) (ltb code 65536) right).0) ∙ ap (λ (x : Result ℤ Refusal). block_added x block) e;
    }

inside-adds-not : (block : List ℕ) (code : ℕ) → is_total block && ltb code 65536 ≡ false → added_through block code ≡ Err OutOfRange
unfolding added_through
inside-adds-not block code wrong = rw wrong

pub added-unfit : (block : List ℕ) (code : ℕ) → is_total block && ltb code 65536 ≡ false → AddedThrough block code 14 block
added-unfit block code wrong =
    let e = sym (inside-adds-not block code wrong) in
    record { answers = ap added_number e; counted = ap (λ (x : Result ℤ Refusal). block_added x block) e }

-- taking

taken-laid : (z : ℤ) (t : Result Telegram Refusal) (block : List ℕ) → length block ≡ 8 → taken_laid z t block ≡ total_taken z t block
taken-laid z (Ok (Increment code)) block n = whole z block n
taken-laid z (Ok Repetition) block n = refl
taken-laid z (Ok OtherGroup) block n = refl
taken-laid z (Ok NoIncrement) block n = refl
taken-laid z (Err r) block n = refl

-- a frame of the reader's fits the memory
frame-kept : (t : Result Telegram Refusal) (block s : List ℕ) → length block ≡ 265 → length s ≤ 263 → cond (is_accepted t) (remembered_at 0 s block) block ≡ memory_taken t block s
frame-kept (Ok (Increment code)) block s n k = half-remembered block s n k
frame-kept (Ok Repetition) block s n k = half-remembered block s n k
frame-kept (Ok OtherGroup) block s n k = half-remembered block s n k
frame-kept (Ok NoIncrement) block s n k = half-remembered block s n k
frame-kept (Err r) block s n k = refl

kept-as : (total : ℤ) (group : ℕ) (remembered block s : List ℕ) → length block ≡ 265 → Octets s
    → cond (is_accepted (taken_by total group remembered s).telegram) (remembered_at 0 s block) block ≡ memory_taken (taken_by total group remembered s).telegram block s
unfolding taken_by telegram_in
kept-as total group remembered block s n o = go (read_tp1 s) refl
  where
    go : (a : Result Meaning Refusal) → read_tp1 s ≡ a
        → cond (is_accepted (counted_by total (telegram_for group remembered s a)).telegram) (remembered_at 0 s block) block ≡ memory_taken (counted_by total (telegram_for group remembered s a)).telegram block s
    go (Ok m) e = frame-kept (counted_by total (telegram_for group remembered s (Ok m))).telegram block s n (tp1-most s m o e)
    go (Err r) e = refl

module _ (total memory : List ℕ) (group : ℕ) (s : List ℕ) where
  pub lent_fits : is_lent total memory group ≡ true → (length total ≡ 8) × ((length memory ≡ 265) × (group < 65536))
  lent_fits right =
      let outer = and-true (is_total total && eqb (length memory) 265) (ltb group 65536) right in
      let inner = and-true (is_total total) (eqb (length memory) 265) outer.0 in
      (eqb-true (length total) 8 inner.0, (eqb-true (length memory) 265 inner.1, ltb-true group 65536 outer.1))

  pub inside-takes : is_lent total memory group ≡ true → taken_through total memory group s ≡ taken_by (total_in total) group (recalled (remembered_in memory)) s
  unfolding taken_through
  inside-takes right = rw right

  pub inside-not : is_lent total memory group ≡ false → taken_through total memory group s ≡ record { telegram = Err OutOfRange; total = total_in total }
  unfolding taken_through
  inside-not wrong = rw wrong

  pub taken-fit : {total' memory' : List ℕ} {a : Tally} {t : ℤ} {n answer : ℕ} {accepted : Bool} → is_lent total memory group ≡ true → Octets s
      → t ≡ total_in total → n ≡ kept_in memory 0 → a ≡ taken_by t group (take n (drop 2 memory)) s
      → total' ≡ taken_laid a.total a.telegram total → accepted ≡ is_accepted a.telegram
      → memory' ≡ cond accepted (remembered_at 0 s memory) memory → answer ≡ telegram_number a.telegram
      → TookFrame total memory group s answer total' memory'
  taken-fit {a = a} {n = n} right o et en ea eb ex em ew =
      let fits = lent_fits right in
      let frame : List ℕ = recalled (remembered_in memory) in
      let held : take n (drop 2 memory) ≡ frame = ap (λ (k : ℕ). take k (drop 2 memory)) en ∙ sym (half-recalled memory) in
      let inner : a ≡ taken_by (total_in total) group frame s =
      ea ∙ ap (λ (z : ℤ). taken_by z group (take n (drop 2 memory)) s) et ∙ ap (λ (l : List ℕ). taken_by (total_in total) group l s) held in
      let e : a ≡ taken_through total memory group s = inner ∙ sym (inside-takes right) in
      let kept : cond (is_accepted a.telegram) (remembered_at 0 s memory) memory ≡ memory_taken a.telegram memory s =
      subst (λ (x : Tally). cond (is_accepted x.telegram) (remembered_at 0 s memory) memory ≡ memory_taken x.telegram memory s) (sym inner) (kept-as (total_in total) group frame memory s fits.1.0 o) in
      record {
        answers = ew ∙ ap (λ (x : Tally). telegram_number x.telegram) e;
        counted = eb ∙ taken-laid a.total a.telegram total fits.0 ∙ ap (λ (x : Tally). total_taken x.total x.telegram total) e;
        remembered = em ∙ ap (λ (b : Bool). cond b (remembered_at 0 s memory) memory) ex ∙ kept ∙ ap (λ (x : Tally). memory_taken x.telegram memory s) e;
      }

  pub taken-unfit : is_lent total memory group ≡ false → TookFrame total memory group s 14 total memory
  taken-unfit wrong =
      let e = sym (inside-not wrong) in
      record {
        answers = ap (λ (x : Tally). telegram_number x.telegram) e;
        counted = ap (λ (x : Tally). total_taken x.total x.telegram total) e;
        remembered = ap (λ (x : Tally). memory_taken x.telegram memory s) e;
      }

-- what is not refused was read as a frame, so that it fits
accepted-size : (total : ℤ) (group : ℕ) (remembered s : List ℕ) → Octets s → is_accepted (taken_by total group remembered s).telegram ≡ true → length s ≤ 263
unfolding taken_by telegram_in
accepted-size total group remembered s o = go (read_tp1 s) refl
  where
    go : (a : Result Meaning Refusal) → read_tp1 s ≡ a → is_accepted (counted_by total (telegram_for group remembered s a)).telegram ≡ true → length s ≤ 263
    go (Ok m) e x = tp1-most s m o e
    go (Err r) e x = never (sym x)

-- and is the remembered frame then
kept-recalled : (memory s : List ℕ) → length memory ≡ 265 → length s ≤ 263 → recalled (remembered_in (half_of (remembering (remembered_in memory) s))) ≡ s
unfolding remembering
kept-recalled memory s n k =
    let r : Remembered = remembered_in memory in
    let size : length r.octets ≡ 263 = octets-263 memory n in
    let after : length (laid s 0 r.octets) ≡ 263 = laid-length s 0 r.octets (omega (arith, size)) ∙ size in
    ap recalled (half-read (remembering r s) after) ∙ recalls r s size k

pub taken-remembered : (total memory : List ℕ) (group : ℕ) (s : List ℕ) {answer : ℕ} {total' memory' : List ℕ} → Octets s → TookFrame total memory group s answer total' memory'
    → is_accepted (taken_through total memory group s).telegram ≡ true → recalled (remembered_in memory') ≡ s
taken-remembered total memory group s {memory' = memory'} o w a =
    by_cases (is_lent total memory group)
    (λ right.
    let inner = taken_by (total_in total) group (recalled (remembered_in memory)) s in
    let accepted : is_accepted inner.telegram ≡ true = subst (λ (x : Tally). is_accepted x.telegram ≡ true) (inside-takes total memory group s right) a in
    let k = accepted-size (total_in total) group (recalled (remembered_in memory)) s o accepted in
    let n = (lent_fits total memory group s right).1.0 in
    ap (λ (l : List ℕ). recalled (remembered_in l)) (w.remembered ∙ held (taken_through total memory group s).telegram a) ∙ kept-recalled memory s n k)
    (λ wrong. never (sym (subst (λ (x : Tally). is_accepted x.telegram ≡ true) (inside-not total memory group s wrong) a)))
  where
    held : (t : Result Telegram Refusal) → is_accepted t ≡ true → memory_taken t memory s ≡ half_of (remembering (remembered_in memory) s)
    held (Ok (Increment code)) e = refl
    held (Ok Repetition) e = refl
    held (Ok OtherGroup) e = refl
    held (Ok NoIncrement) e = refl
    held (Err r) e = never (sym e)

-- two outcomes that a contract allows coincide
pub added-through-one : {block : List ℕ} {code r₁ r₂ : ℕ} {b₁ b₂ : List ℕ} → AddedThrough block code r₁ b₁ → AddedThrough block code r₂ b₂ → (r₁ ≡ r₂) × (b₁ ≡ b₂)
added-through-one x y = (x.answers ∙ sym y.answers, x.counted ∙ sym y.counted)

pub took-frame-one : {total memory s : List ℕ} {group r₁ r₂ : ℕ} {t₁ t₂ m₁ m₂ : List ℕ}
    → TookFrame total memory group s r₁ t₁ m₁ → TookFrame total memory group s r₂ t₂ m₂ → (r₁ ≡ r₂) × ((t₁ ≡ t₂) × (m₁ ≡ m₂))
took-frame-one x y = (x.answers ∙ sym y.answers, (x.counted ∙ sym y.counted, x.remembered ∙ sym y.remembered))
