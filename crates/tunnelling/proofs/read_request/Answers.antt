-- The tests of header and connection header stand before the message's: they refuse, or the rest of the order is `cemi`'s.
use mathlib.Core.Path.{sym, ◌∙◌}
use Rattle.cemi.proofs.Refusals.{accepted-iff as cemi-accepted, refused-iff as cemi-refused}
use Rattle.cemi.specs.Reading.{cemi_tests}
use Rattle.cemi.specs.declared.Codes.TheVariants.{All}
use Rattle.frame.proofs.HandedOn.{handed-on}
use Rattle.frame.proofs.Order.{passed-iff, refused-iff}
use Rattle.octets.proofs.Split.{rest-is}
use Rattle.tunnelling.proofs.ConnectionLaws.{connection-refused, connection-passed, connection-least}
use Rattle.tunnelling.specs.Layout.{request_service}
use Rattle.tunnelling.specs.Reading.{message, read_request}
use Rattle.tunnelling.proofs.read_request.Goals as goal

pub returns-in_err-read_connection : goal.returns-in_err-read_connection
unfolding read_request
returns-in_err-read_connection c =
    let s = c.args.octets.now in
    handed-on c.from_residual.result c.from_residual.ensures.1 ∙ sym (rw (connection-refused request_service s (cemi_tests All (message s)) (sym c.read_connection.ensures ∙ c.in_err-read_connection.was)))

pub slice_bounds-read-count : goal.slice_bounds-read-count
slice_bounds-read-count c =
    connection-least request_service c.args.octets.now (sym c.read_connection.ensures ∙ c.in_ok-read_connection.was)

pub slice_bounds-read-start : goal.slice_bounds-read-start
slice_bounds-read-start c =
    connection-least request_service c.args.octets.now (sym c.read_connection.ensures ∙ c.in_ok-read_connection.was)

pub returns-in_err-message : goal.returns-in_err-message
unfolding read_request
returns-in_err-message c =
    let s = c.args.octets.now in
    let passed = connection-passed request_service s (cemi_tests All (message s)) (sym c.read_connection.ensures ∙ c.in_ok-read_connection.was) in
    let read = sym (rw (rest-is 10 s) at c.read.ensures) ∙ c.in_err-message.was in
    handed-on c.from_residual-in_err-message.result c.from_residual-in_err-message.ensures.1 ∙ sym (rw (passed, (refused-iff (cemi_tests All (message s)) _).1 ((cemi-refused All (message s) _).0 read)))

pub returns : goal.returns
unfolding read_request
returns c =
    let s = c.args.octets.now in
    let passed = connection-passed request_service s (cemi_tests All (message s)) (sym c.read_connection.ensures ∙ c.in_ok-read_connection.was) in
    let read = sym (rw (rest-is 10 s) at c.read.ensures) ∙ c.in_ok-message.was in
    let w = (cemi-accepted All (message s) _).0 read in
    rw (passed, (passed-iff (cemi_tests All (message s))).1 w.0, w.1, c.octet.ensures, c.octet-2.ensures)
