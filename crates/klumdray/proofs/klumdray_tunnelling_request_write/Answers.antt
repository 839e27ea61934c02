-- The inner writer of what the numbers give; numbers that give nothing are refused before it.
use mathlib.Core.Bool.{◌&&◌}
use lib.ListN.{length}
use Rattle.cemi.specs.Writing.{message_in_range}
use Rattle.cemi.specs.declared.Codes.TheVariants.{All}
use Rattle.klumdray.proofs.Surface.{sized, given-fits, given-none, wrote-number, unfit-refused, wrote-both}
use Rattle.klumdray.proofs.WriterNumbers.{request-most}
use Rattle.klumdray.specs.Numbers.{are_numbers, are_marks, are_octets, meaning_from, message_from}
use Rattle.klumdray.proofs.klumdray_tunnelling_request_write.Goals as goal

pub of_written-requires : goal.of_written-requires
of_written-requires c = sized _ c.write_request-written.ensures (request-most _ _ _ _ _)

pub returns-in_default : goal.returns-in_default
returns-in_default c =
    let a = c.args in
    let fit = are_numbers a.extended a.first a.priority a.source a.group a.destination a.count && are_marks a.code a.error in
    let x = message_from a.code a.error (meaning_from a.extended a.first a.priority a.source a.group a.destination a.count) in
    rw c.number.ensures (wrote-both fit (are_octets a.channel a.counter) (message_in_range All x (length a.payload.now)) (unfit-refused fit _ _ _ (given-none fit _ c.message_given.ensures c.in_default.is)))

pub returns : goal.returns
returns c =
    let a = c.args in
    let numbers = are_numbers a.extended a.first a.priority a.source a.group a.destination a.count && are_marks a.code a.error in
    let x = message_from a.code a.error (meaning_from a.extended a.first a.priority a.source a.group a.destination a.count) in
    let fit = given-fits numbers c.message_given.ensures c.in-Some.is in
    wrote-both numbers (are_octets a.channel a.counter) (message_in_range All x (length a.payload.now)) (wrote-number _ fit.0 (rw fit.1 at c.write_request-written.ensures) c.of_written.ensures)
