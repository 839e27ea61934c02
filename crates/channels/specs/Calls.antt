-- A call that concerns one channel: which one, what it answers by what that channel is, and what it leaves there. Receiving a request,
-- sending one and receiving an acknowledgement are such calls; opening and closing are not.
use Rattle.std.specs.Prelude.{ℕ, ◌≡◌, List}
use Rattle.channels.specs.Table.{channel_at, put}
use Rattle.channels.specs.declared.Channel.{Channel}

pub record OnChannel (A : Type 0) : Type 0 where
  pub number : ℕ
  pub answer : Channel → A
  pub after : Channel → Channel

module _ {A : Type 0} (d : OnChannel A) (cs : List Channel) where
  abbrev pub answered : A
  answered = d.answer (channel_at cs d.number)

  abbrev pub leaves : List Channel
  leaves = put cs d.number (d.after (channel_at cs d.number))

-- what a call on a channel answers, and the channels that it leaves: "Each call must do what a plain table of counters does."
pub record Called {A : Type 0} (d : OnChannel A) (cs : List Channel) (a : A) (cs' : List Channel) : Type 0 where
  pub answers : a ≡ answered d cs
  pub table : cs' ≡ leaves d cs
