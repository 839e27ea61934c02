-- What private functions answer: a request and an acknowledgement judged from the channel's tests on.
use Rattle.std.specs.Prelude.{ℕ, List, [], ◌∷◌, ◌++◌, Bool, ◌||◌, length, ltb, Result, Err}
use Rattle.frame.specs.Order.{◌gives◌, first_of, answer_by}
use Rattle.frame.specs.declared.Refusal.TheVariants.{LeftOver}
use Rattle.cemi.specs.Reading.{cemi_tests}
use Rattle.cemi.specs.declared.Codes.TheVariants.{All}
use Rattle.channels.specs.declared.Channel.{Channel}
use Rattle.tunnelling.specs.Reading.{message}
use Rattle.exchange.specs.Confirming.{is_sent, confirmed_by}
use Rattle.exchange.specs.Receiving.{is_expected, is_behind, channel_tests, taken_as}
use Rattle.exchange.specs.declared.Confirmed.{Confirmed}
use Rattle.exchange.specs.declared.Received.{Received}
use Rattle.frame.specs.declared.Refusal.{Refusal}

-- a request behind the connection header's tests
unfoldable pub received_behind : Channel → List ℕ → Result Received Refusal
received_behind c s = answer_by Err (taken_as (is_expected c s) s) (first_of (channel_tests c (is_expected c s || is_behind c s) ++ cemi_tests All (message s)))

-- and behind the channel's
unfoldable pub received_message : Bool → List ℕ → Result Received Refusal
received_message expected s = answer_by Err (taken_as expected s) (first_of (cemi_tests All (message s)))

-- an acknowledgement behind the connection header's tests
unfoldable pub confirmed_behind : Channel → List ℕ → Result Confirmed Refusal
confirmed_behind c s = answer_by Err (confirmed_by s) (first_of (channel_tests c (is_sent c s) ++ (ltb 10 (length s) gives LeftOver ∷ [])))
