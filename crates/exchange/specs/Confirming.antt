-- Document 02, R-1: an acknowledgement arrives. "an acknowledgement of that counter with status 00h raises it, with another status changes
-- nothing, and one of another counter is 21"; "for an acknowledgement 5 comes last".
use Rattle.std.specs.Prelude.{ℕ, List, [], ◌∷◌, ◌++◌, Bool, cond, length, ltb, eqb, Result, Ok, Err}
use Rattle.frame.specs.Order.{Test, ◌gives◌, first_of, answer_by}
use Rattle.frame.specs.declared.Refusal.TheVariants.{LeftOver}
use Rattle.channels.specs.Calls.{OnChannel}
use Rattle.channels.specs.Table.{counted, raised}
use Rattle.channels.specs.declared.Channel.{Channel}
use Rattle.tunnelling.specs.Layout.{acknowledgement_service}
use Rattle.tunnelling.specs.Reading.{channel_in, counter_in, status_in, connected_tests}
use Rattle.exchange.specs.Receiving.{channel_tests}
use Rattle.exchange.specs.declared.Confirmed.{Confirmed}
use Rattle.exchange.specs.declared.Confirmed.TheVariants.{Raised, Kept}
use Rattle.frame.specs.declared.Refusal.{Refusal}

-- "of that counter": the send counter, with which a request goes out
unfoldable pub is_sent : Channel → List ℕ → Bool
is_sent c s = eqb (counter_in s) c.send

abbrev pub confirm_tests : Channel → List ℕ → List Test
confirm_tests c s = connected_tests acknowledgement_service s ++ (channel_tests c (is_sent c s) ++ (ltb 10 (length s) gives LeftOver ∷ []))

-- "with status 00h raises it, with another status changes nothing"
abbrev pub confirmed_by : List ℕ → Result Confirmed Refusal
confirmed_by s = cond (eqb (status_in s) 0x00) (Ok Raised) (Ok Kept)

unfoldable pub confirmed : Channel → List ℕ → Result Confirmed Refusal
confirmed c s = answer_by Err (confirmed_by s) (first_of (confirm_tests c s))

abbrev pub channel_confirmed : Result Confirmed Refusal → Channel → Channel
channel_confirmed (Ok Raised) c = counted c c.receive (raised c.send)
channel_confirmed (Ok Kept) c = c
channel_confirmed (Err r) c = c

-- the call on the channel that the acknowledgement names
abbrev pub confirming : List ℕ → OnChannel (Result Confirmed Refusal)
confirming s = record { number = channel_in s; answer = λ c. confirmed c s; after = λ c. channel_confirmed (confirmed c s) c }
