-- What a call on a channel leaves: two outcomes that its contract allows coincide, and a channel that is put back changes nothing.
use Prim.Native.Nat.{ℕ, zero, suc}
use mathlib.Core.List.{List}
use mathlib.Core.Path.{◌≡◌, refl, sym, ◌∙◌}
use lib.Seq.{set-get_or}
use Rattle.channels.specs.Calls.{OnChannel, Called}
use Rattle.channels.specs.Table.{closed, channel_at, put}
use Rattle.channels.specs.declared.Channel.{Channel}

pub put_back : (cs : List Channel) (k : ℕ) → put cs k (channel_at cs k) ≡ cs
put_back cs zero = refl
put_back cs (suc k) = set-get_or cs k closed

pub called-one : {A : Type 0} {d : OnChannel A} {cs : List Channel} {a₁ a₂ : A} {cs₁ cs₂ : List Channel} → Called d cs a₁ cs₁ → Called d cs a₂ cs₂ → (a₁ ≡ a₂) × (cs₁ ≡ cs₂)
called-one x y = (x.answers ∙ sym y.answers, x.table ∙ sym y.table)
