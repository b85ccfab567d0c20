-- A pass over the queue, as a list of steps.
use Rattle.std.specs.Prelude.{List, [], ℕ, ◌++◌, ◌∷◌, ◌≡◌, ◌⊎◌}
use Rattle.order_model.specs.World.{Agree, Layout, Release}
use Rattle.engine_model.specs.Invariant.{Moment, ToldBirths, ToldZero, known_at}
use Rattle.engine_model.specs.DeviceSteps.{Same}
use Rattle.engine_model.specs.Commands.{DataKept}
use Rattle.engine_model.specs.Releases.{Applied, IsBlocked}
use Rattle.engine_model.specs.Drops.{Dropped}

abbrev pub Member : Release → List Release → Type 0
Member r [] = ⊥
Member r (x ∷ xs) = (r ≡ x) ⊎ Member r xs

-- r, which stood between before and after, is applied
pub record Lowers (lay : Layout) (m n : Moment) (r : Release) (before after : List Release) : Type 0 where
  pub applied : Applied lay (known_at lay m) m.world n.world r before after
  pub data_kept : DataKept lay m.world n.world
  pub array : Agree n.array m.array
  pub births : ToldBirths lay m n
  pub pool : ToldZero lay r.page m n

-- the dirty content of p is dropped, or nothing is
pub record Drops (lay : Layout) (m n : Moment) (p : ℕ) : Type 0 where
  pub world : (Same m.world n.world) ⊎ Dropped lay m.world n.world p
  pub array : Agree n.array m.array
  pub calls : n.calls ≡ m.calls
  pub pool : Agree n.pool m.pool

-- From m to n: kept are those that were looked at and stay, in order. A release stays where it is blocked at its turn, and is applied otherwise.
abbrev pub Pass : Layout → Moment → List Release → List Release → Moment → Type 0
Pass lay m kept [] n = n ≡ m
Pass lay m kept (r ∷ todo) n =
    (IsBlocked lay (known_at lay m) m.world r × Pass lay m (kept ++ r ∷ []) todo n)
    ⊎ ((j : Moment) × (k : Moment) × Lowers lay m j r kept todo × Drops lay j k r.page × Pass lay k kept todo n)

-- each release that is queued is blocked
abbrev pub AllBlocked : Layout → Moment → List Release → Type 0
AllBlocked lay m rs = (r : Release) → Member r rs → IsBlocked lay (known_at lay m) m.world r
