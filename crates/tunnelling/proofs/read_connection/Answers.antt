-- The header's tests stand before the connection header's: they refuse, or the rest of the order decides.
use mathlib.Core.Path.{sym, ◌∙◌}
use Rattle.frame.proofs.HandedOn.{handed-on}
use Rattle.frame.proofs.Order.{first-passed, first-refused}
use Rattle.knxnetip.proofs.HeaderLaws.{header-verdict}
use Rattle.knxnetip.specs.Header.{header_tests}
use Rattle.tunnelling.specs.Reading.{connection_tests, read_connection}
use Rattle.tunnelling.specs.Stages.{judge_connection}
use Rattle.tunnelling.proofs.read_connection.Goals as goal

pub returns-in_err-read_header : goal.returns-in_err-read_header
unfolding read_connection
returns-in_err-read_header c =
    let a = c.args in
    let s = a.octets.now in
    handed-on c.from_residual.result c.from_residual.ensures.1 ∙ sym (first-refused (header_tests a.service s) (connection_tests s) _ (header-verdict a.service s (sym c.read_header.ensures ∙ c.in_err-read_header.was)))

pub returns : goal.returns
unfolding read_connection judge_connection
returns c =
    let a = c.args in
    let s = a.octets.now in
    c.judge_connection.ensures ∙ sym (first-passed (header_tests a.service s) (connection_tests s) (header-verdict a.service s (sym c.read_header.ensures ∙ c.in_ok-read_header.was)))
