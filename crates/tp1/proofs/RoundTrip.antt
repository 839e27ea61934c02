-- The layout and the reader are inverse: what is laid out is read back as just that, and what is accepted was laid out.
-- Both go by the format: the tests of the order are facts about head, payload and check octet.
use Rattle.std.specs.Prelude.{Result, Ok}
use Prim.Native.Nat.{ℕ, suc, ◌+◌, ◌-◌, ◌%◌, ◌≤◌, ◌<◌}
use mathlib.Core.Bool.{Bool, true, false, not}
use mathlib.Core.List.{List, [], ◌∷◌, ◌++◌, append_assoc}
use mathlib.Core.Path.{◌≡◌, refl, sym, ap, ◌∙◌, subst}
use native.Mathlib.Omega.{arith}
use lib.Dec.{ltb}
use lib.ListN.{length, take, drop, length-append, length-drop}
use lib.Seq.{length-take-le, take-add, take_at, drop_at, get_or_at}
use borrow.Author.Tests.{ltb-false, eqb-true, eqb-false, not-false, le-ltb, eq-eqb, ne_eqb}
use Rattle.frame.proofs.Fields.{control-back, ctrle-back, control-fields, ctrle-fields, meaning-back, fields_read, fields_back}
use Rattle.frame.proofs.Valid.{Ranges, ranges-of, ranged}
use Rattle.frame.specs.Fields.{control_of, is_control, ctrle_of, meaning_of, fields_of, fields_meaning}
use Rattle.frame.specs.Order.{NoneOf}
use Rattle.frame.specs.Valid.{Valid}
use Rattle.frame.specs.declared.Meaning.{Meaning}
use Rattle.octets.proofs.Octets.{octets-take, octets-drop}
use Rattle.octets.proofs.Split.{firsts, last, take-firsts}
use Rattle.octets.proofs.Word.{word_back, high_word, low_word, word_below}
use Rattle.octets.specs.Check.{check_octet}
use Rattle.octets.specs.Octets.{octet_at, Octets}
use Rattle.octets.specs.Word.{word_at, high, low}
use Rattle.tp1.proofs.LayoutLaws.{head-extended, head-standard, length-head, length-octets}
use Rattle.tp1.proofs.Refusals.{accepted-iff}
use Rattle.tp1.specs.Layout.{standard_head, extended_head, head, head_of, sealed, tp1_octets}
use Rattle.tp1.specs.Reading.{is_extended, head_size, is_other_format, is_escape, frame_size, is_checked, meaning_in, tp1_tests, read_tp1, payload_in}
use Rattle.frame.specs.declared.Refusal.{Refusal}

-- octets with the check octet of all before it: seen at the end, and put together again

sealed-checked : (t : List ℕ) → is_checked (sealed t) ≡ true
unfolding is_checked sealed
sealed-checked t =
    let n : length (t ++ (check_octet t ∷ [])) - 1 ≡ length t = rw (length-append t (check_octet t ∷ [])) (omega arith) in
    rw (n, take_at t (check_octet t ∷ []) (length t) refl, get_or_at t (check_octet t) [] 0 (length t) refl) (eq-eqb (check_octet t) (check_octet t) refl)

checked-sealed : (s : List ℕ) (k : ℕ) → length s ≡ suc k → is_checked s ≡ true → s ≡ sealed (take k s)
unfolding is_checked sealed
checked-sealed s k h e =
    let n : length s - 1 ≡ k = omega arith in
    let c : octet_at s k ≡ check_octet (take k s) = rw n at (eqb-true (octet_at s (length s - 1)) (check_octet (take (length s - 1) s)) e) in
    rw (← c) (last k s h)

-- a head of n octets, a payload and the check octet
parts : (s : List ℕ) (n k : ℕ) → length s ≡ n + k + 1 → is_checked s ≡ true → s ≡ sealed (firsts n 0 s ++ take k (drop n s))
parts s n k h e =
    let j : length s ≡ suc (n + k) = omega arith in
    checked-sealed s (n + k) j e ∙ ap sealed (take-add n k s ∙ ap (λ (l : List ℕ). l ++ take k (drop n s)) (take-firsts n s (omega arith)))

-- what is laid out is read back

standard_meaning : List ℕ → Meaning
standard_meaning s = meaning_of (octet_at s 0) (octet_at s 5) (word_at s 1) (word_at s 3)

means-extended : (s : List ℕ) → is_extended s ≡ true → meaning_in s ≡ fields_meaning s
unfolding meaning_in
means-extended s e = rw e

means-standard : (s : List ℕ) → is_extended s ≡ false → meaning_in s ≡ standard_meaning s
unfolding meaning_in standard_meaning
means-standard s e = rw e

-- a meaning read off octets has the format of their first
extended-format : (s : List ℕ) {b : Bool} → is_extended s ≡ b → (fields_meaning s).extended ≡ b
unfolding is_extended fields_meaning
extended-format s e = e

standard-format : (s : List ℕ) {b : Bool} → is_extended s ≡ b → (standard_meaning s).extended ≡ b
unfolding is_extended standard_meaning
standard-format s e = e

-- the head of a standard frame, put together again from its meaning
standard-back : (s : List ℕ) → Octets s → is_control (octet_at s 0) ≡ true → firsts 6 0 s ≡ standard_head (standard_meaning s) (octet_at s 5 % 16)
unfolding standard_meaning
standard-back s o h =
    let e₀ : control_of (standard_meaning s) ≡ octet_at s 0 = control-back (octet_at s 0) (octet_at s 5) (word_at s 1) (word_at s 3) (o 0) h in
    let e₁ : high (word_at s 1) ≡ octet_at s 1 = high_word (octet_at s 1) (octet_at s 2) (o 2) in
    let e₂ : low (word_at s 1) ≡ octet_at s 2 = low_word (octet_at s 1) (octet_at s 2) (o 2) in
    let e₃ : high (word_at s 3) ≡ octet_at s 3 = high_word (octet_at s 3) (octet_at s 4) (o 4) in
    let e₄ : low (word_at s 3) ≡ octet_at s 4 = low_word (octet_at s 3) (octet_at s 4) (o 4) in
    let e₅ : ctrle_of (standard_meaning s) (octet_at s 5 % 16) ≡ octet_at s 5 = ctrle-back (octet_at s 0) (octet_at s 5) (word_at s 1) (word_at s 3) (o 5) in
    cc

-- what the reader finds in the octets of a frame
record Laid (m : Meaning) (p s : List ℕ) : Type 0 where
  control : is_control (octet_at s 0) ≡ true
  extended : is_extended s ≡ m.extended
  format : is_other_format s ≡ false
  escape : is_escape s ≡ false
  size : frame_size s ≡ head_of m.extended + length p + 1
  means : meaning_in s ≡ m

laid-extended : (m : Meaning) (p : List ℕ) → Ranges m (length p) → m.extended ≡ true → Laid m p (sealed (extended_head m (length p - 1) ++ p))
unfolding sealed is_extended is_other_format is_escape frame_size
laid-extended m p r x =
    let f = control-fields m r.priority in
    let b : ltb (control_of m) 128 ≡ true = f.says.extended ∙ x in
    let most : length p ≤ 255 = rw x at r.most in
    let lg : length p - 1 ≡ 255 → ⊥ = λ z. omega (arith, r.some) in
    let eff : ctrle_of m 0 % 16 ≡ 0 = (ctrle-fields m 0 r.count (omega arith)).bits in
    record {
      control = f.control;
      extended = f.says.extended;
      format = rw (b, eff);
      escape = rw (b, ne_eqb (length p - 1) 255 lg);
      size = rw (b, x) (omega (arith, r.some));
      means = means-extended _ b ∙ fields_read m (control_of m) (length p - 1) (p ++ (check_octet (extended_head m (length p - 1) ++ p) ∷ [])) f.says r.count;
    }

laid-standard : (m : Meaning) (p : List ℕ) → Ranges m (length p) → m.extended ≡ false → Laid m p (sealed (standard_head m (length p - 1) ++ p))
unfolding sealed is_extended is_other_format is_escape frame_size standard_meaning
laid-standard m p r x =
    let f = control-fields m r.priority in
    let b : ltb (control_of m) 128 ≡ false = f.says.extended ∙ x in
    let most : length p ≤ 16 = rw x at r.most in
    let lg : ctrle_of m (length p - 1) % 16 ≡ length p - 1 = (ctrle-fields m (length p - 1) r.count (omega (arith, r.some))).bits in
    record {
      control = f.control;
      extended = f.says.extended;
      format = rw b;
      escape = rw b;
      size = rw (b, lg, x) (omega (arith, r.some));
      means = means-standard _ b ∙ meaning-back m (control_of m) (length p - 1) _ _ f.says r.count (omega (arith, r.some)) (word_back m.source) (word_back m.destination);
    }

laid-octets : (m : Meaning) (p : List ℕ) → Ranges m (length p) → Laid m p (tp1_octets m p)
unfolding tp1_octets
laid-octets m p r = go m.extended refl
  where
    go : (b : Bool) → m.extended ≡ b → Laid m p (sealed (head m (length p - 1) ++ p))
    go true e = rw (head-extended m (length p - 1) e) (laid-extended m p r e)
    go false e = rw (head-standard m (length p - 1) e) (laid-standard m p r e)

-- a valid meaning and payload's layout is accepted with just that meaning ..
pub laid-read : (m : Meaning) (p : List ℕ) → Valid m p → read_tp1 (tp1_octets m p) ≡ Ok m
unfolding head_size tp1_octets
laid-read m p v =
    let s : List ℕ = tp1_octets m p in
    let r = ranges-of m (length p) v.ranges in
    let l = laid-octets m p r in
    let size : length s ≡ head_of m.extended + length p + 1 = length-octets m p in
    let n : length s ≡ frame_size s = size ∙ sym l.size in
    let k : head_size s ≤ length s = rw (l.extended, size) (omega arith) in
    let some : length s ≡ 0 → ⊥ = λ z. omega (arith, size) in
    (accepted-iff s m).1 (
      (ne_eqb _ _ some, (ap not l.control, (le-ltb _ _ k, (l.format, (l.escape, (le-ltb (length s) (frame_size s) (omega arith), (le-ltb (frame_size s) (length s) (omega arith), (ap not (sealed-checked (head m (length p - 1) ++ p)), tt)))))))),
      l.means,
    )

-- .. and payload
pub laid-payload : (m : Meaning) (p : List ℕ) → payload_in (Ok m) (tp1_octets m p) ≡ p
unfolding tp1_octets sealed
laid-payload m p =
    let H : List ℕ = head m (length p - 1) in
    let c : ℕ = check_octet (H ++ p) in
    let n : length (tp1_octets m p) - 1 - head_of m.extended ≡ length p = rw (length-octets m p) (omega arith) in
    let h : length H ≡ head_of m.extended = length-head m (length p - 1) in
    rw (n, append_assoc H p (c ∷ []), drop_at H (p ++ (c ∷ [])) (head_of m.extended) h, take_at p (c ∷ []) (length p) refl)

-- what is accepted was laid out

-- accepted octets: the layout of a valid meaning and payload, the payload being the part that is handed out
pub record Sound (s : List ℕ) (m : Meaning) : Type 0 where
  pub layout : s ≡ tp1_octets m (payload_in (Ok m) s)
  pub valid : Valid m (payload_in (Ok m) s)

-- the facts from which this follows, of a head of n octets and a payload of k
record Found (s : List ℕ) (m : Meaning) (n k : ℕ) : Type 0 where
  format : head_of m.extended ≡ n
  size : length s ≡ n + k + 1
  checked : is_checked s ≡ true
  top : firsts n 0 s ≡ head m (k - 1)
  ranges : Ranges m k
  source : m.source < 65536
  destination : m.destination < 65536

sound : (s : List ℕ) (m : Meaning) (n k : ℕ) → Octets s → Found s m n k → Sound s m
unfolding tp1_octets
sound s m n k o f =
    let p : List ℕ = take k (drop n s) in
    let j : length s - 1 - n ≡ k = omega (arith, f.size) in
    let e : payload_in (Ok m) s ≡ p = rw (f.format, j) in
    let z : length p ≡ k = length-take-le k (drop n s) (rw length-drop (omega (arith, f.size))) in
    let top : firsts n 0 s ≡ head m (length p - 1) = f.top ∙ ap (λ (i : ℕ). head m (i - 1)) (sym z) in
    let ok : Valid m p = record { ranges = rw z (ranged m k f.ranges); source = f.source; destination = f.destination; octets = octets-take k (drop n s) (octets-drop n s o) } in
    record {
      layout = subst (λ (q : List ℕ). s ≡ tp1_octets m q) (sym e) (parts s n k f.size f.checked ∙ ap (λ (l : List ℕ). sealed (l ++ p)) top);
      valid = subst (Valid m) (sym e) ok;
    }

module _ (s : List ℕ) (o : Octets s) (x : NoneOf (tp1_tests s)) where
  control : is_control (octet_at s 0) ≡ true
  control = not-false _ x.1.0

  size : length s ≡ frame_size s
  size = omega (arith, ltb-false (length s) (frame_size s) x.1.1.1.1.1.0, ltb-false (frame_size s) (length s) x.1.1.1.1.1.1.0)

  checked : is_checked s ≡ true
  checked = not-false _ x.1.1.1.1.1.1.1.0

  sound-extended : is_extended s ≡ true → Sound s (fields_meaning s)
  unfolding is_other_format is_escape frame_size fields_meaning
  sound-extended q =
      let m : Meaning = fields_meaning s in
      let e : m.extended ≡ true = extended-format s q in
      let eff : octet_at s 1 % 16 ≡ 0 = eqb-true _ _ (not-false _ (rw q at x.1.1.1.0)) in
      let escape : octet_at s 6 ≡ 255 → ⊥ = eqb-false _ _ (rw q at x.1.1.1.1.0) in
      let n : length s ≡ 9 + octet_at s 6 = rw q at size in
      let k : octet_at s 6 + 1 - 1 ≡ octet_at s 6 = omega arith in
      sound s m 7 (octet_at s 6 + 1) o (record {
        format = ap head_of e;
        size = omega arith;
        checked = checked;
        top = rw k (ap (λ (l : List ℕ). octet_at s 0 ∷ l) (fields_back s o eff) ∙ ap (λ (c : ℕ). c ∷ fields_of m (octet_at s 6)) (sym (control-back (octet_at s 0) (octet_at s 1) (word_at s 2) (word_at s 4) (o 0) control)) ∙ sym (head-extended m (octet_at s 6) e));
        ranges = record { priority = omega arith; count = omega arith; some = omega arith; most = rw e (omega (arith, o 6, escape)) };
        source = word_below (octet_at s 2) (octet_at s 3) (o 2) (o 3);
        destination = word_below (octet_at s 4) (octet_at s 5) (o 4) (o 5);
      })

  sound-standard : is_extended s ≡ false → Sound s (standard_meaning s)
  unfolding frame_size standard_meaning
  sound-standard q =
      let m : Meaning = standard_meaning s in
      let e : m.extended ≡ false = standard-format s q in
      let n : length s ≡ 8 + octet_at s 5 % 16 = rw q at size in
      let k : octet_at s 5 % 16 + 1 - 1 ≡ octet_at s 5 % 16 = omega arith in
      sound s m 6 (octet_at s 5 % 16 + 1) o (record {
        format = ap head_of e;
        size = omega arith;
        checked = checked;
        top = rw k (standard-back s o control ∙ sym (head-standard m (octet_at s 5 % 16) e));
        ranges = record { priority = omega arith; count = omega arith; some = omega arith; most = rw e (omega arith) };
        source = word_below (octet_at s 1) (octet_at s 2) (o 1) (o 2);
        destination = word_below (octet_at s 3) (octet_at s 4) (o 3) (o 4);
      })

pub read-laid : (s : List ℕ) (m : Meaning) → Octets s → read_tp1 s ≡ Ok m → Sound s m
read-laid s m o e = go (is_extended s) refl
  where
    a : NoneOf (tp1_tests s) × (meaning_in s ≡ m)
    a = (accepted-iff s m).0 e

    go : (b : Bool) → is_extended s ≡ b → Sound s m
    go true q = subst (Sound s) (sym (means-extended s q) ∙ a.1) (sound-extended s o a.0 q)
    go false q = subst (Sound s) (sym (means-standard s q) ∙ a.1) (sound-standard s o a.0 q)

-- one layout has one meaning and one payload
pub layout-one : (m n : Meaning) (p q : List ℕ) → Valid m p → Valid n q → tp1_octets m p ≡ tp1_octets n q → (m ≡ n) × (p ≡ q)
layout-one m n p q v w e =
    let f : Ok m ≡ Ok n = sym (laid-read m p v) ∙ ap read_tp1 e ∙ laid-read n q w in
    (cc, sym (laid-payload m p) ∙ ap (payload_in (Ok m)) e ∙ ap (λ (a : Result Meaning Refusal). payload_in a (tp1_octets n q)) f ∙ laid-payload n q)
