-- The C surface of R-4. Each sentence of include/klumdray.h about the answers, the total's block and a station's memory, as a theorem of every
-- answer that the call's contract allows. A decoder is what the header's helpers work out (klumdray Decoding, specs).
use Rattle.std.specs.Prelude.{Result, Ok, Err, Some}
use Prim.Native.Nat.{ℕ, ◌≤◌, ◌<◌}
use mathlib.Core.Bool.{true, false, ◌&&◌}
use mathlib.Core.List.{List}
use mathlib.Core.Path.{◌≡◌, refl, sym, ap, ◌∙◌, subst}
use native.Mathlib.Omega.{arith}
use lib.Dec.{ltb}
use lib.IntN.{ℤ, ◌+ℤ◌}
use lib.ListN.{length}
use lib.Signed.{mag}
use borrow.Author.Tests.{ltb-true, lt-ltb}
use Rattle.octets.proofs.Truth.{by_cases}
use Rattle.octets.proofs.Word.{word_below}
use Rattle.octets.specs.Octets.{octet_at, Octets}
use Rattle.octets.specs.Word.{word_at}
use Rattle.frame.specs.declared.Refusal.TheVariants.{OutOfRange}
use Rattle.coupler.specs.Memory.{recalled}
use Rattle.frame.proofs.Apart.{err-ok, none-some, ok-err, some-one}
use Rattle.leak.specs.Answers.{value_numbered, coded_numbered, carried_numbered, added_numbered}
use Rattle.leak.specs.Increment.{is_increment, increment_in}
use Rattle.leak.specs.Reading.{read_code, read_octets}
use Rattle.leak.specs.Series.{sum_of}
use Rattle.leak.specs.Total.{add_to}
use Rattle.leak.specs.Writing.{write_code}
use Rattle.station.proofs.Exactly.{code-small, After, tallied}
use Rattle.station.specs.Answers.{telegram_numbered}
use Rattle.station.specs.Taking.{taken_by}
use Rattle.station.specs.declared.Tally.{Tally}
use Rattle.station.specs.declared.Telegram.{Telegram}
use Rattle.station.specs.declared.Telegram.TheVariants.{Increment, Repetition, OtherGroup, NoIncrement}
use Rattle.klumdray.proofs.LineTotal.{AllOctets, total-through}
use Rattle.klumdray.proofs.LitresLaws.{inside-takes, inside-not, taken-remembered}
use Rattle.klumdray.proofs.LitresNumbers.{value_tells, coded-tells, carried-tells, telegram-tells, added-tells, total-back, read_small, write-small, sum-small}
use Rattle.klumdray.specs.Block.{remembered_in}
use Rattle.klumdray.specs.Decoding.{number_in, value_from, coded_from, carried_from, added_from, telegram_from, Tells}
use Rattle.klumdray.specs.LineSeries.{Took, FollowsTaking, last_total, counted_codes}
use Rattle.klumdray.specs.Stages.{is_accepted}
use Rattle.klumdray.specs.Litres.{value_number, value_given, coded_number, carried_number, total_in, total_octets, is_total, added_number, added_through, block_added, AddedThrough, telegram_number, memory_taken, total_taken, is_lent, taken_through, TookFrame}
use Rattle.frame.specs.declared.Refusal.{Refusal}

-- the float

-- "the hundredths in two's complement"; a code above FFFFh is 14, then 23
given_inside : (code : ℕ) → code < 65536 → value_given code ≡ read_code code
unfolding value_given
given_inside code h = rw (lt-ltb code 65536 h)

given-outside : (code : ℕ) → ltb code 65536 ≡ false → value_given code ≡ Err OutOfRange
unfolding value_given
given-outside code e = rw e

pub float-value-told : (code : ℕ) → Tells 64 value_from (value_number (value_given code)) (value_numbered (value_given code)) (λ r. value_given code ≡ Err r)
float-value-told code =
    value_tells (value_given code) (λ z e.
    by_cases (ltb code 65536)
    (λ p. let h = ltb-true code 65536 p in read_small code h z (sym (given_inside code h) ∙ e))
    (λ p. ok-err (sym e ∙ given-outside code p)))

pub float-value-inside : (code : ℕ) → code < 65536 → value_numbered (value_given code) ≡ value_numbered (read_code code)
float-value-inside code h = ap value_numbered (given_inside code h)

pub float-value-outside : (code : ℕ) → 65536 ≤ code → value_number (value_given code) ≡ 14
float-value-outside code h =
    by_cases (ltb code 65536)
    (λ p. let l = ltb-true code 65536 p in absurd (omega arith))
    (λ p. ap value_number (given-outside code p))

-- of octets
octets-small : (s : List ℕ) → Octets s → (z : ℤ) → read_octets s ≡ Ok z → mag z < 2147483648
unfolding read_octets read_code
octets-small s o z e =
    let small : word_at s 0 < 65536 = word_below (octet_at s 0) (octet_at s 1) (o 0) (o 1) in
    by_cases (ltb (length s) 2)
    (λ p. ok-err (sym (rw p at e)))
    (λ p. by_cases (ltb 2 (length s)) (λ q. ok-err (sym (rw (p, q) at e))) (λ q. read_small (word_at s 0) small z (rw (p, q) at e)))

pub float-read-told : (s : List ℕ) → Octets s → Tells 64 value_from (value_number (read_octets s)) (value_numbered (read_octets s)) (λ r. read_octets s ≡ Err r)
float-read-told s o = value_tells (read_octets s) (octets-small s o)

pub float-write-told : (z : ℤ) → Tells 32 coded_from (coded_number (write_code z)) (coded_numbered (write_code z)) (λ r. write_code z ≡ Err r)
float-write-told z = coded-tells (write_code z) (write-small z)

-- the increment of a payload, or none; nothing is refused
carried-small : (p : List ℕ) → Octets p → (n : ℕ) → increment_in p ≡ Some n → n < 65536
unfolding increment_in
carried-small p o n e =
    let small : word_at p 2 < 65536 = word_below (octet_at p 2) (octet_at p 3) (o 2) (o 3) in
    by_cases (is_increment p)
    (λ i. subst (λ (m : ℕ). m < 65536) (some-one (rw i at e)) small)
    (λ i. none-some (rw i at e))

pub increment-told : (p : List ℕ) → Octets p → Tells 32 carried_from (carried_number (increment_in p)) (carried_numbered (increment_in p)) (λ r. ⊥)
increment-told p o = carried-tells (increment_in p) (carried-small p o)

-- the total's block

-- klumdray_total reads what klumdray_total_put has put: 64 bits in two's complement, high octet first
pub total-put-back : (z : ℤ) → mag z < 9223372036854775808 → total_in (total_octets z) ≡ z
total-put-back = total-back

module _ (block : List ℕ) (code answer : ℕ) (block' : List ℕ) (w : AddedThrough block code answer block') where
  adds-inside : is_total block && ltb code 65536 ≡ true → added_through block code ≡ add_to (total_in block) code
  unfolding added_through
  adds-inside right = rw right

  adds-not : is_total block && ltb code 65536 ≡ false → added_through block code ≡ Err OutOfRange
  unfolding added_through
  adds-not wrong = rw wrong

  -- the answer is the inner call's, its sum in the block
  pub total-add-told : Tells 8 (added_from block') answer (added_numbered (added_through block code)) (λ r. added_through block code ≡ Err r)
  total-add-told =
      rw (w.answers, w.counted)
      (added-tells (added_through block code) block (λ z e.
      by_cases (is_total block && ltb code 65536)
      (λ right. sum-small (total_in block) code z (sym (adds-inside right) ∙ e))
      (λ wrong. let x : ◌≡◌ {A = Result ℤ Refusal} (Err OutOfRange) (Ok z) = sym (adds-not wrong) ∙ e in let y : ◌≡◌ {A = ℕ} 0 1 = cc in absurd (omega arith))))

  -- a block of 8 octets and a code of 16 bits: the inner call, of the total that the block holds
  pub total-add-inside : length block ≡ 8 → code < 65536 → added_numbered (added_through block code) ≡ added_numbered (add_to (total_in block) code)
  total-add-inside n h = ap added_numbered (adds-inside (rw (n, lt-ltb code 65536 h)))

  -- anything else is refused by 14
  pub total-add-outside : is_total block && ltb code 65536 ≡ false → answer ≡ 14
  total-add-outside wrong = w.answers ∙ ap added_number (adds-not wrong)

  -- "A refused call leaves the total as it was."
  pub total-add-refused : (number_in answer ≡ 0 → ⊥) → block' ≡ block
  total-add-refused n = go (added_through block code) refl
    where
      go : (a : Result ℤ Refusal) → added_through block code ≡ a → block' ≡ block
      go (Ok s) e = absurd (n (ap number_in (w.answers ∙ ap added_number e)))
      go (Err r) e = w.counted ∙ ap (λ (x : Result ℤ Refusal). block_added x block) e

-- the station

module _ (total memory : List ℕ) (group : ℕ) (s : List ℕ) (o : Octets s) (answer : ℕ) (total' memory' : List ℕ) (w : TookFrame total memory group s answer total' memory') where
  -- what the station inside answers, of the total and the frame that the blocks hold
  abbrev pub taken : Tally
  taken = taken_through total memory group s

  -- blocks of 8 and 265 octets and a group of 16 bits: the station inside
  pub take-inside : length total ≡ 8 → length memory ≡ 265 → group < 65536 → taken ≡ taken_by (total_in total) group (recalled (remembered_in memory)) s
  take-inside n k h = inside-takes total memory group s (rw (n, k, lt-ltb group 65536 h))

  -- by what is lent: the station inside, or 14
  lent : (P : Tally → Type 0) → (is_lent total memory group ≡ true → P (taken_by (total_in total) group (recalled (remembered_in memory)) s))
      → (is_lent total memory group ≡ false → P (record { telegram = Err OutOfRange; total = total_in total })) → P taken
  lent P right wrong =
      by_cases (is_lent total memory group)
      (λ e. subst P (sym (inside-takes total memory group s e)) (right e))
      (λ e. subst P (sym (inside-not total memory group s e)) (wrong e))

  small : (n : ℕ) → taken.telegram ≡ Ok (Increment n) → n < 65536
  small =
      lent (λ x. (n : ℕ) → x.telegram ≡ Ok (Increment n) → n < 65536)
      (λ e n x. code-small group frame s n o (subst (λ (y : Result Telegram Refusal). After (total_in total) group frame s y inner.total) x (tallied (total_in total) group frame s)).0)
      (λ e n x. err-ok x)
    where
      frame : List ℕ
      frame = recalled (remembered_in memory)

      inner : Tally
      inner = taken_by (total_in total) group (recalled (remembered_in memory)) s

  -- "what the frame is", "the code that was added": taken apart, the answer is the station's
  pub take-told : Tells 32 telegram_from answer (telegram_numbered taken.telegram) (λ r. taken.telegram ≡ Err r)
  take-told = rw w.answers (telegram-tells taken.telegram small)

  -- anything lent but that is refused by 14
  pub take-outside : is_lent total memory group ≡ false → answer ≡ 14
  take-outside wrong = w.answers ∙ ap (λ (x : Tally). telegram_number x.telegram) (inside-not total memory group s wrong)

  -- "A refused call leaves total and memory as they were."
  pub take-refused : (number_in answer ≡ 0 → ⊥) → (total' ≡ total) × (memory' ≡ memory)
  take-refused n = go taken.telegram refl
    where
      none : (t : Result Telegram Refusal) → taken.telegram ≡ t → number_in (telegram_number t) ≡ 0 → ⊥
      none t e z = n (ap number_in (w.answers ∙ ap telegram_number e) ∙ z)

      go : (t : Result Telegram Refusal) → taken.telegram ≡ t → (total' ≡ total) × (memory' ≡ memory)
      go (Ok (Increment code)) e = absurd (none (Ok (Increment code)) e (let z : number_in (telegram_number (Ok (Increment code))) ≡ 0 = omega arith in z))
      go (Ok Repetition) e = absurd (none (Ok Repetition) e refl)
      go (Ok OtherGroup) e = absurd (none (Ok OtherGroup) e refl)
      go (Ok NoIncrement) e = absurd (none (Ok NoIncrement) e refl)
      go (Err r) e = (
        w.counted ∙ ap (λ (t : Result Telegram Refusal). total_taken taken.total t total) e,
        w.remembered ∙ ap (λ (t : Result Telegram Refusal). memory_taken t memory s) e,
      )

  -- "Every frame that is not refused is the one remembered"
  pub take-remembers : number_in answer ≡ 0 → recalled (remembered_in memory') ≡ s
  take-remembers z = taken-remembered total memory group s o w (go taken.telegram refl)
    where
      go : (t : Result Telegram Refusal) → taken.telegram ≡ t → is_accepted t ≡ true
      go (Ok (Increment code)) e = refl
      go (Ok Repetition) e = refl
      go (Ok OtherGroup) e = refl
      go (Ok NoIncrement) e = refl
      go (Err r) e = absurd (take-told.accepted.0 z r e)

  -- the block then holds the station's total
  pub take-total : total_in total' ≡ taken.total
  take-total =
      ap total_in w.counted
      ∙ lent (λ x. total_in (total_taken x.total x.telegram total) ≡ x.total)
      (λ e. by (taken_by (total_in total) group frame s).telegram (taken_by (total_in total) group frame s).total (tallied (total_in total) group frame s))
      (λ e. refl)
    where
      frame : List ℕ
      frame = recalled (remembered_in memory)

      by : (t : Result Telegram Refusal) (after : ℤ) → After (total_in total) group (recalled (remembered_in memory)) s t after → total_in (total_taken after t total) ≡ after
      by (Ok (Increment code)) after a = total-back after (sum-small (total_in total) code after a.1.0)
      by (Ok Repetition) after a = sym a
      by (Ok OtherGroup) after a = sym a
      by (Ok NoIncrement) after a = sym a
      by (Err r) after a = sym a

-- Any series of calls that is lent the blocks which the one before it left: the total in the block is the start plus the values of the codes that the
-- answers say were counted. Nothing is asked of the frames, and nothing of the blocks: calls that are lent others are refused and leave them.
pub litres-through-c : (group : ℕ) (total memory : List ℕ) (frames : List (List ℕ)) (calls : List Took) → AllOctets frames → FollowsTaking group total memory frames calls
    → total_in (last_total total calls) ≡ total_in total +ℤ sum_of (counted_codes calls)
litres-through-c = total-through
