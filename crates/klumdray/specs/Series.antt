-- A series of steps through the surface: each is lent the block that the one before it left.
use Rattle.std.specs.Prelude.{List, [], ◌∷◌, ℕ}
use Rattle.coupler.specs.Series.{Input, Done}
use Rattle.klumdray.specs.Block.{memory_in, coupler_set, lent_right, SteppedThrough}
use Rattle.klumdray.specs.Decoding.{outcome_in}

-- what a call is lent but the block
pub record Lent : Type 0 where
  pub settings : List ℕ
  pub side : ℕ
  pub table : List ℕ
  pub octets : List ℕ
  pub room : List ℕ

-- what it leaves
pub record Left : Type 0 where
  pub answer : ℕ
  pub block : List ℕ
  pub room : List ℕ

abbrev pub FollowsThrough : List ℕ → List Lent → List Left → Type 0
FollowsThrough block [] [] = Unit {0}
FollowsThrough block [] (l ∷ ls) = ⊥
FollowsThrough block (c ∷ cs) [] = ⊥
FollowsThrough block (c ∷ cs) (l ∷ ls) =
    SteppedThrough (lent_right c.settings block) (coupler_set c.settings c.side c.table) block c.octets c.room l.answer l.block l.room × FollowsThrough l.block cs ls

-- the step inside that a call is, and what that leaves
abbrev pub input_in : Lent → Input
input_in c = record { coupler = coupler_set c.settings c.side c.table; octets = c.octets; room = c.room }

abbrev pub done_in : Left → Done
done_in l = record { outcome = outcome_in l.answer; memory = memory_in l.block; room = l.room }
