-- Each part as it stands in the input.
use Rattle.report.proofs.query_in.Goals as goal

pub returns : goal.returns
returns c =
    let octet = c.octet-start in
    rw (← octet.ensures, ← c.octet-kind.ensures, ← c.word_at-destination.ensures, ← c.octet-count.ensures) c.query_of.ensures
