-- The room has the list's text and the last line behind it.
use Rattle.std.proofs.Common.{rules}
use native.Mathlib.Omega.{arith}
use Rattle.report.proofs.Puts.{has-first, has-then, wrote-then, made-has, made-puts}
use Rattle.report.proofs.ReportLaws.{listed-fits}
use Rattle.report.specs.Text.{list_text}
use Rattle.report.proofs.put_listed.Goals as goal

pub put_list-requires : goal.put_list-requires
put_list-requires c =
    let a = c.args in
    let w = c.new-writer.ensures in
    let fits = listed-fits a.list.now a.forwardings a.room.now (λ i. (c.type_inv.list i).fits) c.requires.0 (omega arith) c.requires.1 in
    has-first (list_text a.list.now) _ c.new-writer.result (made-has c.new-writer.result w.at w.same _ fits)

pub put_told_line-requires : goal.put_told_line-requires
put_told_line-requires c =
    let a = c.args in
    let w = c.new-writer.ensures in
    let fits = listed-fits a.list.now a.forwardings a.room.now (λ i. (c.type_inv.list i).fits) c.requires.0 (omega arith) c.requires.1 in
    has-then (list_text a.list.now) _ c.new-writer.result (made-has c.new-writer.result w.at w.same _ fits) c.put_list.ensures

pub returns : goal.returns
returns c =
    let a = c.args in
    let w = c.new-writer.ensures in
    let fits = listed-fits a.list.now a.forwardings a.room.now (λ i. (c.type_inv.list i).fits) c.requires.0 (omega arith) c.requires.1 in
    made-puts c.new-writer.result w.at w.same (wrote-then _ _ c.new-writer.result (made-has c.new-writer.result w.at w.same _ fits) c.put_list.ensures c.put_told_line.ensures) (search rules)
