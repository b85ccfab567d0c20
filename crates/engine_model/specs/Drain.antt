-- A drain: two rounds, each of writes and barriers and then a pass.
use Rattle.std.specs.Prelude.{List, [], ℕ, ◌<◌, ◌≡◌}
use Rattle.order_model.specs.World.{Agree, Layout}
use Rattle.engine_model.specs.Entries.{cached_name}
use Rattle.engine_model.specs.Invariant.{Moment}
use Rattle.engine_model.specs.Schedule.{DeviceRun, NoNode, last_of}
use Rattle.engine_model.specs.SmallPass.{SmallPass}

-- one round: steps of the device, whatever their ends, and then a pass
pub record Round (lay : Layout) (top : ℕ) (m n : Moment) : Type 0 where
  pub flushed : List Moment
  pub run : DeviceRun lay top m flushed
  pub pass : SmallPass lay (last_of m flushed) [] (last_of m flushed).world.queue n

-- and one in which no call failed: no page is a node when the pass begins
pub record DoneRound (lay : Layout) (top : ℕ) (m n : Moment) : Type 0 where
  pub round : Round lay top m n
  pub done : NoNode (last_of m round.flushed)

-- what a round leaves as it was, whatever failed
pub record RoundLeaves (lay : Layout) (m n : Moment) : Type 0 where
  pub names : (l : ℕ) → l < lay.blocks → cached_name lay n.world l ≡ cached_name lay m.world l
  pub array : Agree n.array m.array

-- two rounds, in none of which a call failed
pub record DoneDrain (lay : Layout) (top : ℕ) (m n : Moment) : Type 0 where
  pub between : Moment
  pub first : DoneRound lay top m between
  pub second : DoneRound lay top between n
