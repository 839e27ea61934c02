-- Parts of octets that are too few for a header.
use Rattle.std.specs.Prelude.{Result, Ok, Err}
use mathlib.Core.List.{[]}
use mathlib.Core.Path.{◌≡◌, refl}
use Rattle.cemi.specs.Reading.{payload_in, information_in}
use Rattle.frame.specs.declared.Refusal.{Refusal}
use Rattle.cemi.specs.declared.Message.{Message}

pub no_payload : (a : Result Message Refusal) → payload_in a [] ≡ []
no_payload (Ok x) = refl
no_payload (Err r) = refl

pub no-information : (a : Result Message Refusal) → information_in a [] ≡ []
no-information (Ok x) = refl
no-information (Err r) = refl
