-- Without a record no coupler is fitted; otherwise the coupler's own test both ways, with what the record says.
use mathlib.Core.Path.{sym, ◌∙◌}
use Rattle.site.proofs.LettingLaws.{asked, bare-asked, fitted-both}
use Rattle.site.proofs.lets_pass.Goals as goal

pub returns-then-address-eq1 : goal.returns-then-address-eq1
returns-then-address-eq1 c =
    let f = c.filter_of-filter.ensures in
    fitted-both _ _ _ _ (sym c.is_empty.ensures ∙ c.if-is_empty.false) (asked _ _ _ _ _ f c.may_pass.ensures) (asked _ _ _ _ _ f c.may_pass-then-address-eq1.ensures)

pub returns-else-address-eq1 : goal.returns-else-address-eq1
returns-else-address-eq1 c =
    let g = c.if-address-eq1.false in
    let l = c.line_of.ensures in
    let k = c.codes_of.ensures in
    fitted-both _ _ _ _ (sym c.is_empty.ensures ∙ c.if-is_empty.false) (bare-asked _ _ _ _ _ _ g l k c.may_pass-else-address-eq1.ensures) (bare-asked _ _ _ _ _ _ g l k c.may_pass-else-address-eq1-2.ensures)
