-- The TP1 reader's answer as document 01's number and values.
use Rattle.std.specs.Prelude.{Result, Ok, Err}
use Rattle.frame.specs.Answers.{Numbered, accepted, refused, meaning_values}
use Rattle.frame.specs.declared.Refusal.{Refusal}
use Rattle.frame.specs.declared.Meaning.{Meaning}

abbrev pub tp1_numbered : Result Meaning Refusal → Numbered
tp1_numbered (Ok m) = accepted (meaning_values m)
tp1_numbered (Err r) = refused r
