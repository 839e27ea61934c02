-- The octets that the format's layout names, by where they stand: the addresses begin five octets before the head's end.
use Prim.Native.Nat.{ℕ, ◌+◌, ◌-◌, ◌≤◌}
use mathlib.Core.Bool.{Bool, true, false, cond}
use mathlib.Core.List.{List}
use mathlib.Core.Path.{◌≡◌, refl, ◌∙◌}
use native.Mathlib.Omega.{arith}
use Rattle.octets.specs.Octets.{octet_at}
use Rattle.octets.specs.Word.{word_at}
use Rattle.frame.specs.declared.Meaning.{Meaning}
use Rattle.frame.specs.Fields.{meaning_of, fields_meaning}
use Rattle.tp1.specs.Layout.{head_of}
use Rattle.tp1.specs.Reading.{is_extended, meaning_in}
use Rattle.tp1.proofs.reading.meaning_in.Goals as goal

placed : (s : List ℕ) (b : Bool)
    → meaning_of (octet_at s 0) (octet_at s (cond b 1 5)) (word_at s (head_of b - 5)) (word_at s (head_of b - 5 + 2))
    ≡ cond b (fields_meaning s) (meaning_of (octet_at s 0) (octet_at s 5) (word_at s 1) (word_at s 3))
unfolding fields_meaning
placed s true = refl
placed s false = refl

head-least : (b : Bool) → 5 ≤ head_of b
head-least true = omega arith
head-least false = omega arith

head-most : (b : Bool) → head_of b ≤ 7
head-most true = omega arith
head-most false = omega arith

-- the meaning of octets that were looked at where the format has them
looked-at : (s : List ℕ) (b : Bool) (at head control ctrle source destination : ℕ) (m : Meaning)
    → b ≡ is_extended s → at ≡ cond b 1 5 → head ≡ head_of b → control ≡ octet_at s 0 → ctrle ≡ octet_at s at
    → source ≡ word_at s (head - 5) → destination ≡ word_at s (head - 5 + 2) → m ≡ meaning_of control ctrle source destination
    → m ≡ meaning_in s
unfolding meaning_in
looked-at s b at head control ctrle source destination m e a p o x f t z = z ∙ rw (o, x, f, t, a, p, e) (placed s (is_extended s))

pub overflow_sub-start : goal.overflow_sub-start
overflow_sub-start c = omega (arith, c.head_of-head.ensures, head-least c.is_extended-extended.result)

pub overflow_add-start : goal.overflow_add-start
overflow_add-start c =
    omega (arith, c.head_of-head.ensures, head-most c.is_extended-extended.result)

pub returns : goal.returns
returns c =
    looked-at c.args.octets.now _ _ _ _ _ _ _ _ c.is_extended-extended.ensures c.ctrle_at-at.ensures c.head_of-head.ensures c.octet-control.ensures c.octet-ctrle.ensures c.word_at-source.ensures c.word_at-destination.ensures c.meaning_of.ensures
