-- A scan by the small steps that code makes.
use Rattle.std.specs.Prelude.{List, None, Some, [], ℕ, ◌+◌, ◌<◌, ◌∷◌, ◌≡◌, ◌⊎◌, false}
use Rattle.order_model.specs.Pool.{Told}
use Rattle.order_model.specs.World.{IsData, Layout, World}
use Rattle.engine_model.specs.Entries.{NoEdge, cached_count, cached_names, cached_print}
use Rattle.engine_model.specs.Frames.{Reach, both, count_reach, live_reach, mark_reach, print_reach}
use Rattle.engine_model.specs.Invariant.{Moment, ToldZero}
use Rattle.engine_model.specs.Schedule.{DeviceStep}
use Rattle.engine_model.specs.SmallRuns.{in_state, with_count, with_print}
use Rattle.engine_model.specs.SmallSteps.{SetsCount, SetsPrint, ordered, touched}

-- A state in which counts may be corrected: nothing is queued, no map page is a node, and no edge leads to a print page. It is so after a drain.
pub record IsDrained (lay : Layout) (w : World) : Type 0 where
  pub queue : w.queue ≡ []
  pub maps : (l : ℕ) → l < lay.blocks → (w.dirty (lay.map_page l) ≡ false) × (w.hung (lay.map_page l) ≡ false)
  pub prints : (a q : ℕ) → IsData lay q → NoEdge w a (lay.print_page q)

-- The print of p is right; or it goes, as p has no name, ordered before the count page; or p has a name and gets its print.
pub data FixesPrint (lay : Layout) (p : ℕ) (m n : Moment) : Type 0 where
  PrintRight : ((0 < cached_names lay m.world p) × ((print : List ℕ) × (cached_print lay m.world p ≡ Some print)))
      ⊎ ((cached_names lay m.world p ≡ 0) × (cached_print lay m.world p ≡ None)) → n ≡ m → FixesPrint lay p m n
  PrintCleared : (c print : List ℕ) → cached_names lay m.world p ≡ 0 → cached_print lay m.world p ≡ Some print
      → SetsPrint lay (m.world.cached (lay.print_page p)) c p None
      → n ≡ with_print lay p c 1 0 (in_state (ordered (lay.print_page p) (lay.count_page p) (touched (lay.print_page p) (touched (lay.count_page p) m.world))) m)
      → FixesPrint lay p m n
  PrintMade : (c : List ℕ) → 0 < cached_names lay m.world p → cached_print lay m.world p ≡ None
      → SetsPrint lay (m.world.cached (lay.print_page p)) c p (Some (lay.finger (m.world.cached (lay.data_page p))))
      → n ≡ with_print lay p c 0 1 (in_state (touched (lay.print_page p) m.world) m) → FixesPrint lay p m n

-- The count of p is this one already, or it is set to it, and the pool is told.
pub data FixesCount (lay : Layout) (p count : ℕ) (m n : Moment) : Type 0 where
  CountRight : cached_count lay m.world p ≡ count → n ≡ m → FixesCount lay p count m n
  CountSet : (c : List ℕ) (pool : ℕ → Told) → SetsCount lay (m.world.cached (lay.count_page p)) c p count
      → n ≡ with_count lay p c pool (in_state (touched (lay.count_page p) m.world) m) → ToldZero lay p m n → FixesCount lay p count m n

-- p is corrected: its print, and then its count
pub record Fixes (lay : Layout) (m n : Moment) (p : ℕ) : Type 0 where
  pub is_data : IsData lay p
  pub printed : Moment
  pub print : FixesPrint lay p m printed
  pub count : FixesCount lay p (cached_names lay m.world p) printed n

-- how far a correction reaches
abbrev pub print_fix_reach : Layout → ℕ → Reach
print_fix_reach lay p = both (mark_reach (lay.count_page p)) (both (mark_reach (lay.print_page p)) (both (live_reach (lay.print_page p) (lay.count_page p)) (print_reach p)))

abbrev pub count_fix_reach : Layout → ℕ → Reach
count_fix_reach lay p = both (mark_reach (lay.count_page p)) (count_reach p false)

-- the moments of a scan, of which p is the next data page: each step corrects it, or is one of the device
abbrev pub SmallScan : Layout → ℕ → ℕ → Moment → List Moment → Type 0
SmallScan lay top p m [] = p ≡ lay.pages + 1
SmallScan lay top p m (n ∷ ns) = (DeviceStep lay top m n × SmallScan lay top p n ns) ⊎ (Fixes lay m n p × SmallScan lay top (p + 1) n ns)
