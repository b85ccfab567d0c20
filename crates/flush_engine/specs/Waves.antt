-- Waves: all pages that are due, in rising order, and then a barrier.
use Rattle.std.specs.Prelude.{◌≡◌, ◌<◌, ℕ, ◌++◌, true, false, List, [], ◌∷◌, length, map, slice_index, take, Option, Some, None, Result, Ok, Err}
use Rattle.page_device.specs.declared.error.Failed.{Failed}
use Rattle.order_model.specs.Paths.{Closes}
use Rattle.dep_graph.specs.Lists.{GraphLists, is_node, is_ready, live_in}
use Rattle.dep_graph.specs.Pages.{holds, IsLeast, IsRising}
use Rattle.dep_graph.specs.Schedules.{MakeBarrier, Schedule, Step, WritePage}
use Rattle.flush_engine.specs.Telling.{Telling}
use Rattle.flush_engine.specs.View.{Moment}
use Rattle.flush_engine.specs.Steps.{Chain, StepFailed}

-- A page is due where it is ready. In waves for one page it is moreover that page, or a way of Live edges leads from it to that page.
abbrev pub IsDue : GraphLists → Option ℕ → ℕ → Type 0
IsDue g None page = is_ready g page ≡ true
IsDue g (Some target) page = (is_ready g page ≡ true) × Closes (live_in g) target page

-- waves go on while some page is dirty or hung, and those for one page while that page is
abbrev pub GoesOn : GraphLists → Option ℕ → Type 0
GoesOn g None = (a : ℕ) × (is_node g a ≡ true)
GoesOn g (Some target) = is_node g target ≡ true

abbrev pub IsOver : GraphLists → Option ℕ → Type 0
IsOver g None = (a : ℕ) → is_node g a ≡ false
IsOver g (Some target) = is_node g target ≡ false

-- all pages that are due, in rising order
pub record AreDue (g : GraphLists) (target : Option ℕ) (pages : List ℕ) : Type 0 where
  pub rising : IsRising pages
  pub due : (a : ℕ) → holds pages a ≡ true → IsDue g target a
  pub all : (a : ℕ) → IsDue g target a → holds pages a ≡ true

-- those of them below a number
pub record AreDueBelow (g : GraphLists) (target : Option ℕ) (from : ℕ) (pages : List ℕ) : Type 0 where
  pub rising : IsRising pages
  pub due : (a : ℕ) → holds pages a ≡ true → IsDue g target a
  pub below : (a : ℕ) → holds pages a ≡ true → a < from
  pub all : (a : ℕ) → IsDue g target a → a < from → holds pages a ≡ true

-- these pages are written, one after another
abbrev pub writes : List ℕ → Schedule
writes pages = map WritePage pages

abbrev pub wave_steps : List ℕ → Schedule
wave_steps pages = writes pages ++ MakeBarrier ∷ []

-- the steps of these waves
unfoldable pub steps_of : List (List ℕ) → Schedule
steps_of [] = []
steps_of (pages ∷ waves) = wave_steps pages ++ steps_of waves

-- what a wave tries once the pages below a number are written: the least other one that is due, or the barrier where there is none
abbrev pub IsNext : GraphLists → Option ℕ → ℕ → Step → Type 0
IsNext g target from (WritePage page) = IsLeast (IsDue g target) from (Some page)
IsNext g target from MakeBarrier = IsLeast (IsDue g target) from None

module _ {W : Type 0} (T : Telling W) where
  -- these pages were written up to one of which the write failed
  pub record WritesFailed (pages : List ℕ) (old new : Moment W) : Type 0 where
    pub done : ℕ
    pub within : done < length pages
    pub last : Moment W
    pub chain : Chain T (writes (take done pages)) old last
    pub failed : StepFailed T (WritePage (slice_index pages done)) last new

  abbrev pub WritesEnd : List ℕ → Result Unit Failed → Moment W → Moment W → Type 0
  WritesEnd pages (Ok _) old new = Chain T (writes pages) old new
  WritesEnd pages (Err _) old new = WritesFailed pages old new

module _ {W : Type 0} (T : Telling W) (target : Option ℕ) where
  -- what is due is said of the graph at the start of the wave
  pub record WaveDone (pages : List ℕ) (old new : Moment W) : Type 0 where
    pub goes_on : GoesOn old.engine.graph target
    pub due : AreDue old.engine.graph target pages
    pub chain : Chain T (wave_steps pages) old new

  -- a wave that a failure ended: as each wave it was made only where one was to be made
  pub record WaveFailed (old new : Moment W) : Type 0 where
    pub goes_on : GoesOn old.engine.graph target
    pub from : ℕ
    pub pages : List ℕ
    pub written : AreDueBelow old.engine.graph target from pages
    pub last : Moment W
    pub chain : Chain T (writes pages) old last
    pub step : Step
    pub next : IsNext old.engine.graph target from step
    pub failed : StepFailed T step last new

  abbrev pub WaveEnds : Result Unit Failed → Moment W → Moment W → Type 0
  WaveEnds (Ok _) old new = (pages : List ℕ) × WaveDone pages old new
  WaveEnds (Err _) old new = WaveFailed old new

  -- waves of these pages, one after another
  unfoldable pub WavesDone : List (List ℕ) → Moment W → Moment W → Type 0
  WavesDone [] old new = old ≡ new
  WavesDone (pages ∷ waves) old new = (m : Moment W) × WaveDone pages old m × WavesDone waves m new

  -- waves until they are over
  pub record AllWaves (old new : Moment W) : Type 0 where
    pub waves : List (List ℕ)
    pub done : WavesDone waves old new
    pub over : IsOver new.engine.graph target

  -- some waves, and one that a failure ended
  pub record WavesFailed (old new : Moment W) : Type 0 where
    pub waves : List (List ℕ)
    pub last : Moment W
    pub done : WavesDone waves old last
    pub failed : WaveFailed last new

  abbrev pub WavesEnd : Result Unit Failed → Moment W → Moment W → Type 0
  WavesEnd (Ok _) old new = AllWaves old new
  WavesEnd (Err _) old new = WavesFailed old new
