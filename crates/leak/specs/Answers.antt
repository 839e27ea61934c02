-- The answers of this crate as document 02's numbers and values. A signed number is its sign, 1 below zero, and its size.
use Rattle.std.specs.Prelude.{ℕ, suc, List, [], ◌∷◌, ℤ, pos, negsuc, Result, Ok, Err, Option, Some, None}
use Rattle.frame.specs.Answers.{Numbered, accepted, refused}
use Rattle.frame.specs.declared.Refusal.{Refusal}

abbrev pub signed_values : ℤ → List ℕ
signed_values (pos size) = 0 ∷ size ∷ []
signed_values (negsuc size) = 1 ∷ suc size ∷ []

abbrev pub value_numbered : Result ℤ Refusal → Numbered
value_numbered (Ok z) = accepted (signed_values z)
value_numbered (Err r) = refused r

abbrev pub coded_numbered : Result ℕ Refusal → Numbered
coded_numbered (Ok code) = accepted (code ∷ [])
coded_numbered (Err r) = refused r

-- otherwise no increment, and no refusal
abbrev pub carried_numbered : Option ℕ → Numbered
carried_numbered (Some code) = accepted (code ∷ [])
carried_numbered None = accepted []

abbrev pub added_numbered : Result ℤ Refusal → Numbered
added_numbered (Ok z) = accepted (signed_values z)
added_numbered (Err r) = refused r
