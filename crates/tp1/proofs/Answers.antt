-- The reader's answer by its number and values: frame's law, cited.
use Rattle.std.specs.Prelude.{Result, Ok, Err}
use mathlib.Core.Path.{refl}
use Rattle.frame.proofs.Answers.{Split, Tells, answers, refuses, tells, meaning-apart}
use Rattle.frame.specs.Answers.{meaning_values}
use Rattle.tp1.specs.Answers.{tp1_numbered}
use Rattle.frame.specs.declared.Refusal.{Refusal}
use Rattle.frame.specs.declared.Meaning.{Meaning}

split : (a : Result Meaning Refusal) → Split Ok Err a
split (Ok m) = answers m refl
split (Err r) = refuses r refl

pub tp1-tells : Tells Err tp1_numbered
tp1-tells = tells Ok Err meaning_values tp1_numbered split (λ m. refl) (λ r. refl) meaning-apart
