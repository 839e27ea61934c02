-- Each return is the first test that is true, by those that led there.
use mathlib.Core.Path.{refl, sym, ◌∙◌}
use Rattle.site.proofs.judge_record.Goals as goal

pub returns-then-wrong : goal.returns-then-wrong
returns-then-wrong c =
    rw (
      sym c.is_marked.ensures ∙ c.if-not-is_marked.false,
      ← c.line_of.ensures,
      ← c.codes_of.ensures,
      ← c.are_codes-allowed.ensures,
      c.if-wrong.true,
    ) refl

pub returns-then-twice : goal.returns-then-twice
returns-then-twice c =
    rw (
      sym c.is_marked.ensures ∙ c.if-not-is_marked.false,
      ← c.line_of.ensures,
      ← c.codes_of.ensures,
      ← c.are_codes-allowed.ensures,
      c.if-wrong.false,
      sym c.has_table.ensures ∙ c.if-not-has_table.false,
      c.if-twice.true,
    ) refl

pub returns : goal.returns
returns c =
    rw (
      sym c.is_marked.ensures ∙ c.if-not-is_marked.false,
      ← c.line_of.ensures,
      ← c.codes_of.ensures,
      ← c.are_codes-allowed.ensures,
      c.if-wrong.false,
      sym c.has_table.ensures ∙ c.if-not-has_table.false,
      c.if-twice.false,
    ) refl

pub returns-then-not-has_table : goal.returns-then-not-has_table
returns-then-not-has_table c =
    rw (
      sym c.is_marked.ensures ∙ c.if-not-is_marked.false,
      ← c.line_of.ensures,
      ← c.codes_of.ensures,
      ← c.are_codes-allowed.ensures,
      c.if-wrong.false,
      sym c.has_table.ensures ∙ c.if-not-has_table.true,
    ) refl

pub returns-then-not-is_marked : goal.returns-then-not-is_marked
returns-then-not-is_marked c = rw (sym c.is_marked.ensures ∙ c.if-not-is_marked.true) refl
