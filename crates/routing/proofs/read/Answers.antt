-- The header's tests stand before the message's: they refuse, or the rest of the order is `cemi`'s.
use mathlib.Core.Path.{sym, ◌∙◌}
use lib.ListN.{drop}
use Rattle.cemi.specs.Reading.{cemi_tests, read_cemi}
use Rattle.cemi.specs.declared.Codes.TheVariants.{IndicationOnly}
use Rattle.frame.proofs.Order.{first-passed, first-refused}
use Rattle.octets.proofs.Split.{rest-is}
use Rattle.knxnetip.proofs.HeaderLaws.{header-verdict, header-least}
use Rattle.knxnetip.specs.Header.{header_tests}
use Rattle.routing.specs.Layout.{routing_service}
use Rattle.routing.specs.Reading.{read_routing}
use Rattle.frame.proofs.HandedOn.{handed-on}
use Rattle.routing.proofs.read.Goals as goal

pub slice_bounds-read-count : goal.slice_bounds-read-count
slice_bounds-read-count c =
    header-least routing_service c.args.octets.now (sym c.read_header.ensures ∙ c.in_ok-read_header.was)

pub slice_bounds-read-start : goal.slice_bounds-read-start
slice_bounds-read-start c =
    header-least routing_service c.args.octets.now (sym c.read_header.ensures ∙ c.in_ok-read_header.was)

pub returns-in_err-read_header : goal.returns-in_err-read_header
unfolding read_routing
returns-in_err-read_header c =
    let s = c.args.octets.now in
    handed-on c.from_residual.result c.from_residual.ensures.1 ∙ sym (rw (first-refused (header_tests routing_service s) (cemi_tests IndicationOnly (drop 6 s)) _ (header-verdict routing_service s (sym c.read_header.ensures ∙ c.in_err-read_header.was))))

pub returns : goal.returns
unfolding read_routing read_cemi
returns c =
    let s = c.args.octets.now in
    rw (first-passed (header_tests routing_service s) (cemi_tests IndicationOnly (drop 6 s)) (header-verdict routing_service s (sym c.read_header.ensures ∙ c.in_ok-read_header.was))) (rw (rest-is 6 s) at c.read.ensures)
