-- The tests of header and connection header refuse, or the last one decides.
use mathlib.Core.List.{[], ◌∷◌}
use mathlib.Core.Path.{sym, ◌∙◌}
use lib.Dec.{ltb}
use lib.ListN.{length}
use borrow.Author.Tests.{lt-ltb, le-ltb}
use Rattle.frame.proofs.HandedOn.{handed-on}
use Rattle.frame.specs.Order.{◌gives◌}
use Rattle.frame.specs.declared.Refusal.TheVariants.{LeftOver}
use Rattle.tunnelling.proofs.ConnectionLaws.{connection-refused, connection-passed}
use Rattle.tunnelling.specs.Layout.{acknowledgement_service}
use Rattle.tunnelling.specs.Reading.{read_acknowledgement}
use Rattle.tunnelling.proofs.read_acknowledgement.Goals as goal

pub returns-in_err-read_connection : goal.returns-in_err-read_connection
unfolding read_acknowledgement
returns-in_err-read_connection c =
    let s = c.args.octets.now in
    handed-on c.from_residual.result c.from_residual.ensures.1 ∙ sym (rw (connection-refused acknowledgement_service s (ltb 10 (length s) gives LeftOver ∷ []) (sym c.read_connection.ensures ∙ c.in_err-read_connection.was)))

pub returns-then-octets-gt10 : goal.returns-then-octets-gt10
unfolding read_acknowledgement
returns-then-octets-gt10 c =
    let s = c.args.octets.now in
    rw (connection-passed acknowledgement_service s (ltb 10 (length s) gives LeftOver ∷ []) (sym c.read_connection.ensures ∙ c.in_ok-read_connection.was), lt-ltb 10 (length s) c.if-octets-gt10.true)

pub returns : goal.returns
unfolding read_acknowledgement
returns c =
    let s = c.args.octets.now in
    rw (connection-passed acknowledgement_service s (ltb 10 (length s) gives LeftOver ∷ []) (sym c.read_connection.ensures ∙ c.in_ok-read_connection.was), le-ltb 10 (length s) c.if-octets-gt10.false, c.octet.ensures, c.octet-2.ensures, c.octet-3.ensures)
