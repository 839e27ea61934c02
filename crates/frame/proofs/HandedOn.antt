-- What `?` hands on: the very refusal that it was given.
use mathlib.Core.Path.{◌≡◌, ap, ◌∙◌}
use Rattle.std.specs.Prelude.{Result, Err}
use Rattle.std.specs.Result.{IsErrAnd}
use Rattle.std.proofs.lemmas.Result.{err_from_is_err_and}

pub handed-on : {V E : Type 0} (r : Result V E) {e : E} → IsErrAnd r (λ y. y ≡ e) → r ≡ Err e
handed-on r w = let k = err_from_is_err_and r w in k.1 ∙ ap Err k.2
