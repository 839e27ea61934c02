-- The test that is required says that the code fits an octet.
use Rattle.klumdray.proofs.Surface.{code-fits}
use Rattle.klumdray.proofs.numbers.message_from.Goals as goal

pub overflow_cast-result : goal.overflow_cast-result
overflow_cast-result c = record { fits = code-fits _ _ c.requires }
