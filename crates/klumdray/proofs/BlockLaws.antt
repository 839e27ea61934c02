-- The block is two halves of 265 octets, each the remembered frame of a side: read out of the block, and put into it, as the step inside
-- has it by value.
use Rattle.std.specs.Prelude.{Err, is_some, is_none}
use Prim.Native.Nat.{ℕ, ◌+◌, ◌-◌, ◌%◌, ◌≤◌}
use mathlib.Core.Bool.{Bool, true, false, not, cond, ◌&&◌, ◌||◌}
use mathlib.Core.List.{List, [], ◌∷◌, ◌++◌}
use mathlib.Core.Path.{◌≡◌, refl, sym, ap, ◌∙◌, subst}
use native.Mathlib.Omega.{arith}
use lib.Dec.{ltb, leb, eqb}
use lib.ListN.{length, take, drop, take-append-drop, length-drop, get_or-append}
use lib.Seq.{length-take-le, take_all, take-append-le, drop-append-le, drop-append-add, get_or-append-add, take-take, take_at, drop_at}
use borrow.Author.Tests.{leb-true, eqb-true}
use Rattle.coupler.proofs.StepLaws.{heard-size, none-told}
use Rattle.coupler.specs.Memory.{kept, recalled, remembering, side_of, remembered_on}
use Rattle.coupler.specs.Step.{Coupler, from_ip, Heard, read_by, after, heard, outcome_by, sent_by, HandedOn, memory_after, frame, nothing}
use Rattle.coupler.specs.declared.Memory.{Memory}
use Rattle.coupler.specs.declared.Outcome.{Outcome}
use Rattle.frame.specs.declared.Meaning.{Meaning}
use Rattle.frame.specs.declared.Refusal.{Refusal}
use Rattle.frame.specs.declared.Refusal.TheVariants.{WrongSetting, NoTable, OutOfRange}
use Rattle.klumdray.specs.Block.{remembered_in, memory_in, half_of, block_of, codes_in, coupler_set, outcome_number, are_settings, lent_right, heard_through, SteppedThrough}
use Rattle.klumdray.specs.Stages.{side_or_none, start_of, kept_in, remembered_at}
use Rattle.octets.proofs.Octets.{octets-take, octets-drop}
use Rattle.octets.proofs.Room.{laid-front, laid-left, laid-right}
use Rattle.octets.proofs.Split.{head-rest}
use Rattle.octets.proofs.Truth.{by_cases, and-true}
use Rattle.octets.proofs.Word.{high_word, low_word}
use Rattle.octets.specs.Octets.{octet_at, Octets}
use Rattle.octets.specs.Room.{laid, over}
use Rattle.octets.specs.Word.{word_at, high, low}
use Rattle.passing.specs.Settings.{are_codes, table_fits}

-- one half

half_back : (C : List ℕ) → length C ≡ 265 → Octets C → half_of (remembered_in C) ≡ C
half_back C n o =
    let rest : take 263 (drop 2 C) ≡ drop 2 C = take_all 263 (drop 2 C) (rw length-drop (omega arith)) in
    let h : high (word_at C 0) ≡ octet_at C 0 = high_word (octet_at C 0) (octet_at C 1) (o 1) in
    let l : low (word_at C 0) ≡ octet_at C 1 = low_word (octet_at C 0) (octet_at C 1) (o 1) in
    rw (rest, h, l) (sym (head-rest 2 C (omega arith)))

pub half-remembered : (C s : List ℕ) → length C ≡ 265 → length s ≤ 263 → remembered_at 0 s C ≡ half_of (remembering (remembered_in C) s)
unfolding remembered_at remembering
half-remembered C s n k =
    let m : length s % 65536 ≡ length s = omega arith in
    let rest : take 263 (drop 2 C) ≡ drop 2 C = take_all 263 (drop 2 C) (rw length-drop (omega arith)) in
    let H : List ℕ = high (length s) ∷ low (length s) ∷ [] in
    let j : length s ≤ length (drop 2 C) = rw length-drop (omega arith) in
    rw (m, rest, laid-front H C (omega arith), laid-right H (drop 2 C) s 0 (omega arith))

pub half-recalled : (C : List ℕ) → recalled (remembered_in C) ≡ take (kept_in C 0) (drop 2 C)
unfolding recalled kept
half-recalled C = go (leb (word_at C 0) 263) refl
  where
    go : (b : Bool) → leb (word_at C 0) 263 ≡ b → take (cond b (word_at C 0) 0) (take 263 (drop 2 C)) ≡ take (cond b (word_at C 0) 0) (drop 2 C)
    go true e = take-take (word_at C 0) 263 (drop 2 C) (leb-true _ _ e)
    go false e = refl

kept-most : (C : List ℕ) → kept_in C 0 ≤ 265 - 2
kept-most C = go (leb (word_at C 0) 263) refl
  where
    go : (b : Bool) → leb (word_at C 0) 263 ≡ b → cond b (word_at C 0) 0 ≤ 265 - 2
    go true e = leb-true _ _ e
    go false e = omega arith

-- both

module _ (A B : List ℕ) (na : length A ≡ 265) (nb : length B ≡ 265) where
  split-memory : memory_in (A ++ B) ≡ record { main = remembered_in A; sub = remembered_in B }
  split-memory = rw (take_at A B 265 na, drop_at A B 265 na)

  remembered-main : (s : List ℕ) → length s ≤ 263 → remembered_at 0 s (A ++ B) ≡ remembered_at 0 s A ++ B
  unfolding remembered_at
  remembered-main s k =
      let H : List ℕ = high (length s % 65536) ∷ low (length s % 65536) ∷ [] in
      let j : 0 + 2 + length s ≤ length (laid H 0 A) = rw (laid-front H A (omega arith), length-drop 2 A) (omega arith) in
      rw (laid-left A B H 0 (omega arith)) (laid-left (laid H 0 A) B s (0 + 2) j)

  remembered-sub : (s : List ℕ) → length s ≤ 263 → remembered_at 265 s (A ++ B) ≡ A ++ remembered_at 0 s B
  unfolding remembered_at
  remembered-sub s k =
      let H : List ℕ = high (length s % 65536) ∷ low (length s % 65536) ∷ [] in
      let a : 265 ≡ length A + 0 = omega arith in
      let b : 265 + 2 ≡ length A + (0 + 2) = omega arith in
      let j : 0 + 2 + length s ≤ length (laid H 0 B) = rw (laid-front H B (omega arith), length-drop 2 B) (omega arith) in
      ap (λ (l : List ℕ). laid s (265 + 2) l) (ap (λ (i : ℕ). laid H i (A ++ B)) a ∙ laid-right A B H 0 (omega arith))
      ∙ ap (λ (i : ℕ). laid s i (A ++ laid H 0 B)) b ∙ laid-right A (laid H 0 B) s (0 + 2) j

  recalled-main : take (kept_in (A ++ B) 0) (drop 2 (A ++ B)) ≡ recalled (remembered_in A)
  recalled-main =
      let e₀ : octet_at (A ++ B) 0 ≡ octet_at A 0 = get_or-append A B 0 0 (omega arith) in
      let e₁ : octet_at (A ++ B) 1 ≡ octet_at A 1 = get_or-append A B 0 1 (omega arith) in
      let n : kept_in A 0 ≤ length (drop 2 A) = rw (length-drop 2 A, na) (kept-most A) in
      rw (e₀, e₁, drop-append-le 2 A B (omega arith), take-append-le (kept_in A 0) (drop 2 A) B n) (sym (half-recalled A))

  recalled-sub : take (kept_in (A ++ B) 265) (drop (265 + 2) (A ++ B)) ≡ recalled (remembered_in B)
  recalled-sub =
      let a : 265 ≡ length A + 0 = omega arith in
      let b : 265 + 1 ≡ length A + 1 = omega arith in
      let d : 265 + 2 ≡ length A + 2 = omega arith in
      let e₀ : octet_at (A ++ B) 265 ≡ octet_at B 0 = ap (octet_at (A ++ B)) a ∙ get_or-append-add A B 0 0 in
      let e₁ : octet_at (A ++ B) (265 + 1) ≡ octet_at B 1 = ap (octet_at (A ++ B)) b ∙ get_or-append-add A B 1 0 in
      let e₂ : drop (265 + 2) (A ++ B) ≡ drop 2 B = ap (λ (i : ℕ). drop i (A ++ B)) d ∙ drop-append-add A B 2 in
      rw (e₀, e₁, e₂) (sym (half-recalled B))

-- a lent block of 530 octets is two halves
in_halves : (P : List ℕ → Type 0) (block : List ℕ) → length block ≡ 530 → ((A B : List ℕ) → length A ≡ 265 → length B ≡ 265 → P (A ++ B)) → P block
in_halves P block n f =
    subst P (take-append-drop 265 block)
    (f (take 265 block) (drop 265 block) (length-take-le 265 block (omega arith)) (length-drop 265 block ∙ omega arith))

-- what a side remembers, as the code finds it
pub recalled-block : (block : List ℕ) (side : ℕ) → length block ≡ 530 → take (kept_in block (start_of side)) (drop (start_of side + 2) block) ≡ recalled (side_of (memory_in block) side)
recalled-block block side n =
    in_halves (λ (l : List ℕ). take (kept_in l (start_of side)) (drop (start_of side + 2) l) ≡ recalled (side_of (memory_in l) side)) block n (λ A B na nb. go A B na nb (eqb side 0))
  where
    go : (A B : List ℕ) → length A ≡ 265 → length B ≡ 265 → (b : Bool) → take (kept_in (A ++ B) (cond b 0 265)) (drop (cond b 0 265 + 2) (A ++ B)) ≡ recalled (cond b (memory_in (A ++ B)).main (memory_in (A ++ B)).sub)
    go A B na nb true = recalled-main A B na nb ∙ ap (λ (m : Memory). recalled m.main) (sym (split-memory A B na nb))
    go A B na nb false = recalled-sub A B na nb ∙ ap (λ (m : Memory). recalled m.sub) (sym (split-memory A B na nb))

-- halves of octets
octets-of : (A B : List ℕ) → length A ≡ 265 → Octets (A ++ B) → Octets A × Octets B
octets-of A B n o = (subst Octets (take_at A B 265 n) (octets-take 265 (A ++ B) o), subst Octets (drop_at A B 265 n) (octets-drop 265 (A ++ B) o))

-- the block as it was is its memory's
pub unchanged-block : (block : List ℕ) → length block ≡ 530 → Octets block → block ≡ block_of (memory_in block)
unfolding block_of
unchanged-block block n =
    in_halves (λ (l : List ℕ). Octets l → l ≡ block_of (memory_in l)) block n (λ A B na nb o.
    let q = octets-of A B na o in
    let e : block_of (memory_in (A ++ B)) ≡ half_of (remembered_in A) ++ half_of (remembered_in B) = ap block_of (split-memory A B na nb) in
    sym (e ∙ ap (λ (l : List ℕ). l ++ half_of (remembered_in B)) (half_back A na q.0) ∙ ap (λ (l : List ℕ). A ++ l) (half_back B nb q.1)))

-- a frame put into a side's half
pub remembered-block : (block s : List ℕ) (side : ℕ) → length block ≡ 530 → length s ≤ 263 → Octets block → remembered_at (start_of side) s block ≡ block_of (remembered_on (memory_in block) side s)
unfolding block_of remembered_on
remembered-block block s side n k =
    in_halves (λ (l : List ℕ). Octets l → remembered_at (start_of side) s l ≡ block_of (remembered_on (memory_in l) side s)) block n (λ A B na nb o. put A B na nb (octets-of A B na o) (eqb side 0) refl)
  where
    put : (A B : List ℕ) → length A ≡ 265 → length B ≡ 265 → Octets A × Octets B → (b : Bool) → eqb side 0 ≡ b → remembered_at (cond (eqb side 0) 0 265) s (A ++ B) ≡ block_of (remembered_on (memory_in (A ++ B)) side s)
    put A B na nb q true e =
        let put = half_of (remembering (remembered_in A) s) in
        let split = ap (λ (m : Memory). half_of (remembering m.main s) ++ half_of m.sub) (split-memory A B na nb) in
        rw e (remembered-main A B na nb s k ∙ ap (λ (l : List ℕ). l ++ B) (half-remembered A s na k) ∙ ap (λ (l : List ℕ). put ++ l) (sym (half_back B nb q.1)) ∙ sym split)
    put A B na nb q false e =
        let put = half_of (remembering (remembered_in B) s) in
        let split = ap (λ (m : Memory). half_of m.main ++ half_of (remembering m.sub s)) (split-memory A B na nb) in
        rw e (remembered-sub A B na nb s k ∙ ap (λ (l : List ℕ). A ++ l) (half-remembered B s nb k) ∙ ap (λ (l : List ℕ). l ++ put) (sym (half_back A na q.0)) ∙ sym split)

-- the block that the code leaves is the memory of the step inside: a remembered frame fits its half
pub memory-block : (k : Coupler) (remembered block s : List ℕ) (h : Heard) → length block ≡ 530 → Octets block → ((m : Meaning) (p : List ℕ) → h ≡ frame m p → from_ip k ≡ false → length s ≤ 263)
    → cond (is_none (outcome_by k remembered s h).refusal && not (from_ip k)) (remembered_at (start_of k.setting.side) s block) block ≡ block_of (memory_after k (memory_in block) s h)
memory-block k remembered block s (frame m p) n o size = go (from_ip k) refl
  where
    go : (b : Bool) → from_ip k ≡ b → cond (not (from_ip k)) (remembered_at (start_of k.setting.side) s block) block ≡ block_of (cond (from_ip k) (memory_in block) (remembered_on (memory_in block) k.setting.side s))
    go true e = rw e (unchanged-block block n o)
    go false e = rw e (remembered-block block s k.setting.side n (size m p refl e) o)
memory-block k remembered block s (nothing r) n o size = unchanged-block block n o

pub right-block : (settings block : List ℕ) → lent_right settings block ≡ true → length block ≡ 530
right-block settings block e = eqb-true (length block) 530 (and-true (are_settings settings) (eqb (length block) 530) e).1

-- handing on with the frame that a side's half holds, and putting the frame there by the outcome's refusal, is the step inside
pub stepped : (k : Coupler) (block s : List ℕ) (fine : Bool) {ip : Bool} {room room' block' : List ℕ} {o : Outcome} {start n answer : ℕ} → length block ≡ 530 → Octets block → Octets s
    → start ≡ start_of k.setting.side → n ≡ kept_in block start
    → HandedOn k (take n (drop (start + 2) block)) s room o room'
    → is_some o.refusal ≡ not fine → ip ≡ from_ip k
    → block' ≡ cond (fine && not ip) (remembered_at start s block) block
    → answer ≡ outcome_number o
    → SteppedThrough true k block s room answer block' room'
unfolding heard_through
stepped k block s fine {ip} {room} {room'} {block'} {o} {start} {n} size ob os es en x f g eb ea =
    let q : take n (drop (start + 2) block) ≡ recalled (side_of (memory_in block) k.setting.side) = rw (en, es) (recalled-block block k.setting.side size) in
    let y : HandedOn k (recalled (side_of (memory_in block) k.setting.side)) s room o room' = subst (λ (l : List ℕ). HandedOn k l s room o room') q x in
    record {
      answered = ea ∙ ap outcome_number y.outcome;
      left = y.left;
      memory = rw (none-told o.refusal fine f, g) at eb ∙ rw (y.outcome, es) (memory-block k (recalled (side_of (memory_in block) k.setting.side)) block s (heard k s (length room)) size ob (λ m p e f. heard-size k s (length room) m p os e f));
    }

-- a number that is no side is refused, whichever it is: by 15, 18 or 14, the first that applies
abbrev pub unsided : List ℕ → List ℕ → Refusal
unsided settings table =
    cond (eqb (octet_at settings 0) 0 || not (are_codes (codes_in settings))) WrongSetting
    (cond (not (table_fits (codes_in settings) (length table))) NoTable OutOfRange)

pub unsided-heard : (settings table s : List ℕ) (room side : ℕ) → ltb side 2 ≡ false → heard (coupler_set settings side table) s room ≡ nothing (unsided settings table)
unfolding heard
unsided-heard settings table s room side e =
    rw e (go (eqb (octet_at settings 0) 0 || not (are_codes (codes_in settings))) (not (table_fits (codes_in settings) (length table))))
  where
    h : Heard
    h = read_by (from_ip (coupler_set settings side table)) s

    go : (wrong untabled : Bool) → after (cond wrong (Err WrongSetting) (cond untabled (Err NoTable) (Err OutOfRange))) h ≡ nothing (cond wrong WrongSetting (cond untabled NoTable OutOfRange))
    go true untabled = refl
    go false true = refl
    go false false = refl

-- two couplers that refuse octets alike do the same with them
refused-alike : (k k' : Coupler) (block s : List ℕ) {room : List ℕ} {answer : ℕ} {block' room' : List ℕ} (r : Refusal) → heard k s (length room) ≡ nothing r → heard k' s (length room) ≡ nothing r
    → SteppedThrough true k block s room answer block' room' → SteppedThrough true k' block s room answer block' room'
unfolding heard_through
refused-alike k k' block s {room} r e e' w =
    let m : List ℕ = recalled (side_of (memory_in block) k.setting.side) in
    let m' : List ℕ = recalled (side_of (memory_in block) k'.setting.side) in
    record {
      answered = w.answered ∙ ap (λ (h : Heard). outcome_number (outcome_by k m s h)) e ∙ sym (ap (λ (h : Heard). outcome_number (outcome_by k' m' s h)) e');
      left = w.left ∙ ap (λ (h : Heard). over (sent_by k m s h) room) e ∙ sym (ap (λ (h : Heard). over (sent_by k' m' s h) room) e');
      memory = w.memory ∙ ap (λ (h : Heard). block_of (memory_after k (memory_in block) s h)) e ∙ sym (ap (λ (h : Heard). block_of (memory_after k' (memory_in block) s h)) e');
    }

-- the step with the side that the code hands on is the step with the side given
pub side-kept : (settings table block s : List ℕ) (side receiving : ℕ) {room : List ℕ} {answer : ℕ} {block' room' : List ℕ} → receiving ≡ side_or_none side
    → SteppedThrough true (coupler_set settings receiving table) block s room answer block' room' → SteppedThrough true (coupler_set settings side table) block s room answer block' room'
side-kept settings table block s side receiving {room} {answer} {block'} {room'} h w =
    by_cases (ltb side 2)
    (λ e. subst (λ (n : ℕ). SteppedThrough true (coupler_set settings n table) block s room answer block' room') (rw e at h) w)
    (λ e.
    let none : ltb receiving 2 ≡ false = rw (h, e) in
    refused-alike (coupler_set settings receiving table) (coupler_set settings side table) block s (unsided settings table) (unsided-heard settings table s (length room) receiving none) (unsided-heard settings table s (length room) side e) w)

-- settings or a memory of another size
pub stepped-wrong : (k : Coupler) (block s room : List ℕ) → SteppedThrough false k block s room 14 block room
unfolding heard_through outcome_number
stepped-wrong k block s room = record { answered = refl; left = refl; memory = refl }

-- two outcomes that the contract allows coincide
pub stepped-one : {right : Bool} {k : Coupler} {block s room : List ℕ} {r₁ r₂ : ℕ} {b₁ b₂ a₁ a₂ : List ℕ}
    → SteppedThrough right k block s room r₁ b₁ a₁ → SteppedThrough right k block s room r₂ b₂ a₂ → (r₁ ≡ r₂) × ((b₁ ≡ b₂) × (a₁ ≡ a₂))
stepped-one x y = (x.answered ∙ sym y.answered, (x.memory ∙ sym y.memory, x.left ∙ sym y.left))
