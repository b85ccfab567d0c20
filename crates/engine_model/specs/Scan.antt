-- A scan over the data pages, as a list of steps.
use Rattle.std.specs.Prelude.{List, [], false, ℕ, ◌+◌, ◌∷◌, ◌≡◌, ◌⊎◌}
use Rattle.order_model.specs.World.{Agree, Layout, World, queued}
use Rattle.engine_model.specs.Entries.{IsTable, cached_count, cached_names}
use Rattle.engine_model.specs.Invariant.{Moment, ToldBirths, ToldZero}
use Rattle.engine_model.specs.Commands.{DataKept}
use Rattle.engine_model.specs.Corrections.{Corrected}
use Rattle.engine_model.specs.Schedule.{Correct, DeviceStep, Step}

-- the step of a scan at p
pub record CorrectsAt (lay : Layout) (m n : Moment) (p : ℕ) : Type 0 where
  pub corrected : Corrected lay m.world n.world p
  pub data_kept : DataKept lay m.world n.world
  pub array : Agree n.array m.array
  pub births : ToldBirths lay m n
  pub pool : ToldZero lay p m n

-- the moments of a scan, of which p is the next data page: each step corrects it, or is one of the device
abbrev pub Scan : Layout → ℕ → ℕ → Moment → List Moment → Type 0
Scan lay top p m [] = p ≡ lay.pages + 1
Scan lay top p m (n ∷ ns) = (DeviceStep lay top m n × Scan lay top p n ns) ⊎ (CorrectsAt lay m n p × Scan lay top (p + 1) n ns)

-- no table page is a node
abbrev pub TablesSettled : Layout → Moment → Type 0
TablesSettled lay m = (page : ℕ) → IsTable lay page → (m.world.dirty page ≡ false) × (m.world.hung page ≡ false)

-- a step other than a scan's
abbrev pub CorrectsNothing : {lay : Layout} {top : ℕ} {m n : Moment} → Step lay top m n → Type 0
CorrectsNothing (Correct p x d e b q) = ⊥
CorrectsNothing step = Unit {0}

-- the count of p less its names and its queued releases is the same
abbrev pub SameWaste : Layout → World → World → ℕ → Type 0
SameWaste lay w v p = cached_names lay v p + queued v.queue p + cached_count lay w p ≡ cached_names lay w p + queued w.queue p + cached_count lay v p
