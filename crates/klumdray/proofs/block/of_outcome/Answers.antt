-- The weights of the parts are apart, so that their sum fits; it is the definition's.
use Rattle.klumdray.specs.Block.{outcome_number}
use Rattle.klumdray.proofs.block.of_outcome.Goals as goal

pub returns : goal.returns
unfolding outcome_number
returns c = rw (c.of_refusal-number.ensures, c.of_acknowledgement-answer.ensures, c.flag-own.ensures)
