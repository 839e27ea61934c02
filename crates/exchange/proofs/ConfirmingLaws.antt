-- An acknowledgement judged behind the connection header's tests.
use Rattle.std.specs.Prelude.{Ok, Err}
use Prim.Native.Nat.{ℕ}
use mathlib.Core.List.{List, [], ◌∷◌, ◌++◌}
use mathlib.Core.Path.{◌≡◌, ap}
use lib.Dec.{ltb}
use lib.ListN.{length}
use Rattle.frame.specs.Order.{Test, answer_by, ◌gives◌}
use Rattle.frame.specs.declared.Refusal.TheVariants.{LeftOver}
use Rattle.frame.specs.declared.Refusal.{Refusal}
use Rattle.channels.specs.declared.Channel.{Channel}
use Rattle.tunnelling.proofs.ConnectionLaws.{connection-refused, connection-passed}
use Rattle.tunnelling.specs.Layout.{acknowledgement_service}
use Rattle.tunnelling.specs.Reading.{read_connection}
use Rattle.exchange.specs.Confirming.{is_sent, confirmed_by, confirmed}
use Rattle.exchange.specs.Receiving.{channel_tests}
use Rattle.exchange.specs.Stages.{confirmed_behind}

module _ (c : Channel) (s : List ℕ) where
  pub connection-refuses : (r : Refusal) → read_connection acknowledgement_service s ≡ Err r → confirmed c s ≡ Err r
  unfolding confirmed
  connection-refuses r e =
      let us : List Test = channel_tests c (is_sent c s) ++ (ltb 10 (length s) gives LeftOver ∷ []) in
      ap (answer_by Err (confirmed_by s)) (connection-refused acknowledgement_service s us e)

  pub connection-passes : read_connection acknowledgement_service s ≡ Ok tt → confirmed c s ≡ confirmed_behind c s
  unfolding confirmed confirmed_behind
  connection-passes e =
      let us : List Test = channel_tests c (is_sent c s) ++ (ltb 10 (length s) gives LeftOver ∷ []) in
      ap (answer_by Err (confirmed_by s)) (connection-passed acknowledgement_service s us e)
