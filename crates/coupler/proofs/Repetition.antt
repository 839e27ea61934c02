-- Octets that agree "except the repeat bit and the check octet": the laws of the loop that compares them; what agreement is, place by place;
-- and of frames, that it is the same frame sent again. For what is compared of a frame is its repeat without the check octet, and one layout
-- has one meaning.
use Prim.Native.Nat.{ℕ, zero, suc, ◌+◌, ◌-◌, ◌*◌, ◌/◌, ◌%◌, ◌<◌}
use mathlib.Core.Bool.{Bool, true, false, cond, not, ◌&&◌}
use mathlib.Core.List.{List, [], ◌∷◌, ◌++◌}
use mathlib.Core.Logic.{◌↔◌}
use mathlib.Core.Path.{◌≡◌, refl, sym, ap, ◌∙◌, subst}
use native.Mathlib.Omega.{arith}
use lib.Dec.{eqb}
use lib.ListN.{length, take, drop, length-append}
use lib.Seq.{length-take-le, get_or-take, ext_get_or, take_at}
use borrow.Author.Tests.{eq-eqb, ne_eqb, eqb-true, not-true}
use Rattle.octets.proofs.Same.{by-octets, told-by}
use Rattle.octets.proofs.Truth.{never, and-true, and_yes, one_truth}
use Rattle.octets.specs.Octets.{octet_at, weigh}
use Rattle.octets.specs.Check.{check_octet}
use Rattle.frame.specs.Fields.{control_of, ctrle_of, fields_of}
use Rattle.frame.specs.Valid.{in_range, Valid}
use Rattle.frame.specs.declared.Meaning.{Meaning}
use Rattle.tp1.proofs.LayoutLaws.{length-octets}
use Rattle.tp1.proofs.Refusals.{accepted-iff}
use Rattle.tp1.proofs.RoundTrip.{laid-read, layout-one}
use Rattle.tp1.specs.Layout.{standard_head, extended_head, head, head_of, sealed, tp1_octets}
use Rattle.tp1.specs.Reading.{meaning_in}
use Rattle.coupler.specs.Memory.{unmarked, compared, same, agree, is_repetition}

-- frames of other lengths do not agree
pub agree-length : (a b : List ℕ) → (length a ≡ length b → ⊥) → false ≡ agree a b
unfolding agree
agree-length a b n = rw (ne_eqb (length a) (length b) n) refl

-- of a frame's octets those behind the control octet and before the check octet
abbrev pub between : List ℕ → List ℕ
between s = take (length s - 1 - 1) (drop 1 s)

-- the control octets agree, and so does what is between
agree-parts : (a b : List ℕ) → length a ≡ length b → eqb (unmarked (octet_at a 0)) (unmarked (octet_at b 0)) && same (between a) (between b) ≡ agree a b
unfolding agree
agree-parts [] [] e = rw (eq-eqb (unmarked 0) (unmarked 0) refl) refl
agree-parts [] (y ∷ ys) e = absurd (omega (arith, e))
agree-parts (x ∷ xs) [] e = absurd (omega (arith, e))
agree-parts (x ∷ xs) (y ∷ ys) e = rw (eq-eqb (length (x ∷ xs)) (length (y ∷ ys)) e, behind xs, behind ys) refl
  where
    behind : (os : List ℕ) → suc (length os) - 1 - 1 ≡ length os - 1
    behind os = omega arith

-- what agreement is

same-iff : (a b : List ℕ) → same a b ≡ true ↔ (a ≡ b)
same-iff a b = (to a b, λ e. subst (λ (l : List ℕ). same a l ≡ true) e (self a))
  where
    self : (a : List ℕ) → same a a ≡ true
    self [] = refl
    self (o ∷ os) = rw (eq-eqb o o refl, self os) refl

    to : (a b : List ℕ) → same a b ≡ true → a ≡ b
    to [] [] e = refl
    to [] (p ∷ ps) e = never (sym e)
    to (o ∷ os) [] e = never (sym e)
    to (o ∷ os) (p ∷ ps) e =
        let q = and-true (eqb o p) (same os ps) e in
        ap (λ (n : ℕ). n ∷ os) (eqb-true o p q.0) ∙ ap (λ (l : List ℕ). p ∷ l) (to os ps q.1)

-- where nothing is between, and where it is told whether that is the same
pub agree-short : (a b : List ℕ) → length a ≡ length b → length b < 2 → eqb (unmarked (octet_at a 0)) (unmarked (octet_at b 0)) ≡ agree a b
agree-short a b e h =
    let k : length a - 1 - 1 ≡ 0 = omega (arith, e) in
    let l : length b - 1 - 1 ≡ 0 = omega arith in
    sym (and_yes (eqb (unmarked (octet_at a 0)) (unmarked (octet_at b 0)))) ∙ (rw (k, l) at (agree-parts a b e))

pub agree-told : (a b : List ℕ) (r : Bool) → length a ≡ length b
    → (let front = take (length b - 1 - 1) (drop 1 a) in r ≡ true ↔ ((length front ≡ length (between b)) × ((i : ℕ) → octet_at front i ≡ octet_at (between b) i))) → eqb (unmarked (octet_at a 0)) (unmarked (octet_at b 0)) && r ≡ agree a b
agree-told a b r e f =
    let back = by-octets (take (length b - 1 - 1) (drop 1 a)) (between b) in
    let told : r ≡ true ↔ (between a ≡ between b) = rw e (told-by f (back.1, back.0)) in
    ap (λ (t : Bool). eqb (unmarked (octet_at a 0)) (unmarked (octet_at b 0)) && t) (one_truth r (same (between a) (between b)) told (same-iff (between a) (between b))) ∙ agree-parts a b e

agree-iff : (a b : List ℕ) → agree a b ≡ true ↔ ((length a ≡ length b) × (compared a ≡ compared b))
unfolding agree
agree-iff a b = (
  (λ e.
      let q = and-true (eqb (length a) (length b)) (same (compared a) (compared b)) e in
      (eqb-true (length a) (length b) q.0, (same-iff (compared a) (compared b)).0 q.1)),
  (λ (e, f). rw (eq-eqb (length a) (length b) e) ((same-iff (compared a) (compared b)).1 f)),
)

-- place by place: as many octets, the control octets but for bit 5, and each octet between them and the last
pub record Agrees (before s : List ℕ) : Type 0 where
  pub number : length before ≡ length s
  pub above : octet_at before 0 / 64 ≡ octet_at s 0 / 64
  pub below : octet_at before 0 % 32 ≡ octet_at s 0 % 32
  pub between : (at : ℕ) → 0 < at → at + 1 < length s → octet_at before at ≡ octet_at s at

unmarked-bits : (c : ℕ) → unmarked c ≡ c / 64 * 64 + c % 32
unfolding unmarked
unmarked-bits c = omega arith

unmarked-iff : (c d : ℕ) → unmarked c ≡ unmarked d ↔ ((c / 64 ≡ d / 64) × (c % 32 ≡ d % 32))
unmarked-iff c d = (
  (λ e. let bits : c / 64 * 64 + c % 32 ≡ d / 64 * 64 + d % 32 = sym (unmarked-bits c) ∙ e ∙ unmarked-bits d in (omega arith, omega arith)),
  (λ (e, f). unmarked-bits c ∙ (λ i. e i * 64 + f i) ∙ sym (unmarked-bits d)),
)

pub places-iff : (a b : List ℕ) → agree a b ≡ true ↔ Agrees a b
places-iff a b = ((λ e. let q = (agree-iff a b).0 e in to a b q.0 q.1), λ g. (agree-iff a b).1 (g.number, from a b g))
  where
    to : (a b : List ℕ) → length a ≡ length b → compared a ≡ compared b → Agrees a b
    to [] [] n e = record { number = n; above = refl; below = refl; between = λ at h l. absurd (omega arith) }
    to [] (y ∷ ys) n e = absurd (omega (arith, n))
    to (x ∷ xs) [] n e = absurd (omega (arith, n))
    to (x ∷ xs) (y ∷ ys) n e =
        let control = (unmarked-iff x y).0 (ap (λ (l : List ℕ). octet_at l 0) e) in
        record { number = n; above = control.0; below = control.1; between = between }
      where
        between : (at : ℕ) → 0 < at → at + 1 < length (y ∷ ys) → octet_at (x ∷ xs) at ≡ octet_at (y ∷ ys) at
        between zero h l = absurd (omega arith)
        between (suc i) h l =
            sym (get_or-take (length xs - 1) xs i 0 (omega (arith, n)))
            ∙ ap (λ (l : List ℕ). octet_at l (suc i)) e
            ∙ get_or-take (length ys - 1) ys i 0 (omega arith)

    from : (a b : List ℕ) → Agrees a b → compared a ≡ compared b
    from [] [] g = refl
    from [] (y ∷ ys) g = absurd (omega (arith, g.number))
    from (x ∷ xs) [] g = absurd (omega (arith, g.number))
    from (x ∷ xs) (y ∷ ys) g =
        let control : unmarked x ≡ unmarked y = (unmarked-iff x y).1 (g.above, g.below) in
        let long : length xs ≡ length ys = omega (arith, g.number) in
        let sizes : length (take (length xs - 1) xs) ≡ length xs - 1 = length-take-le (length xs - 1) xs (omega arith) in
        let behind : take (length xs - 1) xs ≡ take (length ys - 1) ys =
        ext_get_or 0 _ _ (sizes ∙ ap (λ (n : ℕ). n - 1) long ∙ sym (length-take-le (length ys - 1) ys (omega arith)))
        (λ i h.
        get_or-take (length xs - 1) xs i 0 (omega (arith, sizes))
        ∙ g.between (suc i) (omega arith) (omega (arith, sizes))
        ∙ sym (get_or-take (length ys - 1) ys i 0 (omega (arith, sizes)))) in
        λ i. control i ∷ behind i

-- the frame as it is sent again
abbrev pub repeated : Meaning → Meaning
repeated m = record {
  extended = m.extended;
  first = false;
  priority = m.priority;
  source = m.source;
  group = m.group;
  destination = m.destination;
  count = m.count;
}

repeated-control : (m : Meaning) → unmarked (control_of m) ≡ control_of (repeated m)
unfolding unmarked control_of
repeated-control m = go m.extended m.first (m.priority % 4 * 4) (omega arith)
  where
    go : (extended first : Bool) (n : ℕ) → n < 16
        → (let c = weigh (not extended) 128 + weigh first 32 + 16 + n in c - c / 32 % 2 * 32) ≡ weigh (not extended) 128 + 0 + 16 + n
    go true true n h = omega arith
    go true false n h = omega arith
    go false true n h = omega arith
    go false false n h = omega arith

-- what is compared of a frame is what its repeat has before the check octet
compared-frame : (m : Meaning) (p : List ℕ) → compared (tp1_octets m p) ≡ head (repeated m) (length p - 1) ++ p
unfolding tp1_octets sealed head ctrle_of
compared-frame m p = go m.extended
  where
    lg : ℕ
    lg = length p - 1

    behind : (control : ℕ) (t : List ℕ) (c : ℕ) → compared ((control ∷ t) ++ (c ∷ [])) ≡ unmarked control ∷ t
    behind control t c =
        let n : length (t ++ (c ∷ [])) - 1 ≡ length t = rw (length-append t (c ∷ [])) (omega arith) in
        rw (n, take_at t (c ∷ []) (length t) refl) refl

    go : (extended : Bool) → compared (cond extended (extended_head m lg) (standard_head m lg) ++ p ++ (check_octet (cond extended (extended_head m lg) (standard_head m lg) ++ p) ∷ []))
        ≡ cond extended (extended_head (repeated m) lg) (standard_head (repeated m) lg) ++ p
    go true = behind (control_of m) (fields_of m lg ++ p) _ ∙ ap (λ (c : ℕ). c ∷ fields_of m lg ++ p) (repeated-control m)
    go false = behind (control_of m) (drop 1 (standard_head m lg) ++ p) _ ∙ ap (λ (c : ℕ). c ∷ drop 1 (standard_head m lg) ++ p) (repeated-control m)

-- a frame's repeat is a frame
repeated-valid : (m : Meaning) (p : List ℕ) → Valid m p → Valid (repeated m) p
unfolding in_range
repeated-valid m p v = record { ranges = v.ranges; source = v.source; destination = v.destination; octets = v.octets }

-- frames agree exactly if their repeats are one frame
pub frames-agree : (x y : Meaning) (p q : List ℕ) → Valid x p → Valid y q → agree (tp1_octets x p) (tp1_octets y q) ≡ true ↔ ((repeated x ≡ repeated y) × (p ≡ q))
unfolding tp1_octets
frames-agree x y p q v w = (
  (λ e.
      let c = sym (compared-frame x p) ∙ ((agree-iff (tp1_octets x p) (tp1_octets y q)).0 e).1 ∙ compared-frame y q in
      layout-one (repeated x) (repeated y) p q (repeated-valid x p v) (repeated-valid y q w) (ap sealed c)),
  (λ (e, f).
      let heads : head (repeated x) (length p - 1) ++ p ≡ head (repeated y) (length q - 1) ++ q = λ i. head (e i) (length (f i) - 1) ++ f i in
      let number : length (tp1_octets x p) ≡ length (tp1_octets y q) = length-octets x p ∙ (λ i. head_of (e i).extended + length (f i) + 1) ∙ sym (length-octets y q) in
      (agree-iff (tp1_octets x p) (tp1_octets y q)).1 (number, compared-frame x p ∙ heads ∙ sym (compared-frame y q))),
)

-- a frame is a repetition if it is marked repeated and agrees with the remembered octets ..

marked-agrees : (before : List ℕ) (m : Meaning) (p : List ℕ) → Valid m p → is_repetition before (tp1_octets m p) ≡ true ↔ ((m.first ≡ false) × (agree before (tp1_octets m p) ≡ true))
unfolding is_repetition
marked-agrees before m p v = (
  (λ e. let both = and-true (not (meaning_in s).first) (agree before s) e in (sym means ∙ not-true (meaning_in s).first both.0, both.1)),
  (λ (e, f). rw (means ∙ e) f),
)
  where
    s : List ℕ
    s = tp1_octets m p

    means : (meaning_in s).first ≡ m.first
    means = ap (λ (y : Meaning). y.first) ((accepted-iff s m).0 (laid-read m p v)).1

pub repetition-iff : (before : List ℕ) (m : Meaning) (p : List ℕ) → Valid m p → is_repetition before (tp1_octets m p) ≡ true ↔ ((m.first ≡ false) × Agrees before (tp1_octets m p))
repetition-iff before m p v = (
  (λ e. let both = (marked-agrees before m p v).0 e in (both.0, (places-iff before (tp1_octets m p)).0 both.1)),
  (λ (e, g). (marked-agrees before m p v).1 (e, (places-iff before (tp1_octets m p)).1 g)),
)

-- .. and of a remembered frame, if it is that frame as it is sent again
pub frame-repeats : (x y : Meaning) (p q : List ℕ) → Valid x p → Valid y q → is_repetition (tp1_octets x p) (tp1_octets y q) ≡ true ↔ ((y ≡ repeated x) × (q ≡ p))
frame-repeats x y p q v w = (
  (λ e.
      let both = (marked-agrees (tp1_octets x p) y q w).0 e in
      let one = (frames-agree x y p q v w).0 both.1 in
      (marked y both.0 ∙ sym one.0, sym one.1)),
  (λ (e, f). (marked-agrees (tp1_octets x p) y q w).1 (ap (λ (m : Meaning). m.first) e, (frames-agree x y p q v w).1 (sym (ap repeated e), sym f))),
)
  where
    marked : (m : Meaning) → m.first ≡ false → m ≡ repeated m
    marked m e = λ i. record {
      extended = m.extended;
      first = e i;
      priority = m.priority;
      source = m.source;
      group = m.group;
      destination = m.destination;
      count = m.count;
    }
