-- The inner writer behind the test whether the numbers fit.
use mathlib.Core.Path.{sym, ◌∙◌}
use Rattle.klumdray.proofs.Surface.{sized, wrote-fit, unfit-alone}
use Rattle.klumdray.proofs.WriterNumbers.{acknowledgement-most}
use Rattle.klumdray.proofs.klumdray_tunnelling_ack_write.Goals as goal

pub of_written-requires : goal.of_written-requires
of_written-requires c =
    sized _ c.write_acknowledgement-written.ensures (λ e. acknowledgement-most c.acknowledgement_from-acknowledgement.result)

pub returns-then-not-are_connected : goal.returns-then-not-are_connected
returns-then-not-are_connected c = rw c.number.ensures (unfit-alone _ _ _ (sym c.are_connected.ensures ∙ c.if-not-are_connected.true))

pub returns : goal.returns
returns c =
    let fit = sym c.are_connected.ensures ∙ c.if-not-are_connected.false in
    wrote-fit _ fit (rw c.acknowledgement_from-acknowledgement.ensures at c.write_acknowledgement-written.ensures) c.of_written.ensures
