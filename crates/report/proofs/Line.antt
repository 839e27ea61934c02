-- A listed line's text piece by piece: each piece has its place behind those before it, and all of them are the line.
use Prim.Native.Nat.{ℕ, ◌/◌, ◌%◌}
use mathlib.Core.List.{List, ◌++◌, append_assoc}
use mathlib.Core.Path.{◌≡◌, sym}
use Rattle.report.proofs.Puts.{has-first, has-then, has-as, wrote-then, wrote-as}
use Rattle.report.specs.Ascii.{ascii}
use Rattle.report.specs.Text.{decimal, told, told_line, line_text}
use Rattle.report.specs.declared.text.Writer.{Writer}
use Rattle.report.specs.Stages.{HasPlace, Wrote}

abbrev named : ℕ → List ℕ
named line = decimal (line / 16) ++ told (ascii ".") (line % 16)

abbrev counted : ℕ → ℕ → List ℕ
counted line count = named line ++ told (ascii " count ") count

line-is : (line count crossed : ℕ) → line_text line count crossed ≡ counted line count ++ told_line (ascii " crossed ") crossed
unfolding line_text told_line
line-is line count crossed = append_assoc (counted line count) (told (ascii " crossed ") crossed) (ascii "\n")

module _ (line count crossed : ℕ) (w : Writer) (h : HasPlace w (line_text line count crossed)) where
  has-line : HasPlace w (counted line count ++ told_line (ascii " crossed ") crossed)
  has-line = has-as w (line-is line count crossed) h

  has-counted : HasPlace w (counted line count)
  has-counted = has-first (counted line count) (told_line (ascii " crossed ") crossed) w has-line

  has-named : HasPlace w (named line)
  has-named = has-first (named line) (told (ascii " count ") count) w has-counted

  pub has-area : HasPlace w (decimal (line / 16))
  has-area = has-first (decimal (line / 16)) (told (ascii ".") (line % 16)) w has-named

  module _ {w₁ : Writer} (x₁ : Wrote w (decimal (line / 16)) w₁) where
    pub has-point : HasPlace w₁ (told (ascii ".") (line % 16))
    has-point = has-then _ _ w has-named x₁

    module _ {w₂ : Writer} (x₂ : Wrote w₁ (told (ascii ".") (line % 16)) w₂) where
      wrote-named : Wrote w (named line) w₂
      wrote-named = wrote-then _ _ w has-named x₁ x₂

      pub has_count : HasPlace w₂ (told (ascii " count ") count)
      has_count = has-then _ _ w has-counted wrote-named

      module _ {w₃ : Writer} (x₃ : Wrote w₂ (told (ascii " count ") count) w₃) where
        wrote-counted : Wrote w (counted line count) w₃
        wrote-counted = wrote-then _ _ w has-counted wrote-named x₃

        pub has-crossed : HasPlace w₃ (told_line (ascii " crossed ") crossed)
        has-crossed = has-then _ _ w has-line wrote-counted

        pub wrote-line : {w₄ : Writer} → Wrote w₃ (told_line (ascii " crossed ") crossed) w₄ → Wrote w (line_text line count crossed) w₄
        wrote-line x₄ = wrote-as (sym (line-is line count crossed)) (wrote-then _ _ w has-line wrote-counted x₄)
