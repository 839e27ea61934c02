-- Sending: two outcomes that a contract allows coincide.
use Rattle.std.specs.Prelude.{Result}
use Prim.Native.Nat.{ℕ}
use mathlib.Core.List.{List}
use mathlib.Core.Path.{◌≡◌, sym, ap, ◌∙◌}
use Rattle.frame.specs.Writing.{room_after}
use Rattle.cemi.specs.declared.Message.{Message}
use Rattle.channels.specs.Table.{channel_at}
use Rattle.channels.specs.declared.Channel.{Channel}
use Rattle.tunnelling.specs.Layout.{request_octets}
use Rattle.exchange.specs.Sending.{SentOn, Sent}
use Rattle.frame.specs.declared.Refusal.{Refusal}

module _ {k : ℕ} {x : Message} {p room : List ℕ} {a₁ a₂ : Result ℕ Refusal} {r₁ r₂ : List ℕ} where
  pub sent-on-one : {c : Channel} → SentOn c k x p room a₁ r₁ → SentOn c k x p room a₂ r₂ → (a₁ ≡ a₂) × (r₁ ≡ r₂)
  sent-on-one {c} y z =
      let e : a₁ ≡ a₂ = y.answers ∙ sym z.answers in
      (e, y.left ∙ ap (λ (a : Result ℕ Refusal). room_after a (request_octets k c.send x p) room) e ∙ sym z.left)

  pub sent-one : {cs : List Channel} → Sent cs k x p room a₁ r₁ → Sent cs k x p room a₂ r₂ → (a₁ ≡ a₂) × (r₁ ≡ r₂)
  sent-one {cs} y z =
      let e : a₁ ≡ a₂ = y.answers ∙ sym z.answers in
      (e, y.left ∙ ap (λ (a : Result ℕ Refusal). room_after a (request_octets k (channel_at cs k).send x p) room) e ∙ sym z.left)
