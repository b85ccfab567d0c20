-- A flush: waves until no page is dirty or hung.
use Rattle.std.specs.Prelude.{◌≡◌, ◌≤◌, ◌+◌, ℕ, false, cond, eqb, List, [], ◌∷◌, None, Result, Ok, Err}
use Rattle.page_device.specs.declared.error.Failed.{Failed}
use Rattle.order_model.specs.Levels.{IsGreatestLevel}
use Rattle.dep_graph.specs.Lists.{dirty_in, is_node, marks_of}
use Rattle.dep_graph.specs.Schedules.{IsComplete, MakeBarrier, Respects, Schedule, WritePage, barriers}
use Rattle.flush_engine.specs.Telling.{Telling}
use Rattle.flush_engine.specs.View.{Moment}
use Rattle.flush_engine.specs.Waves.{WavesDone, WavesFailed, steps_of}

-- how often a schedule writes a page
unfoldable pub times : ℕ → Schedule → ℕ
times page [] = 0
times page (WritePage q ∷ steps) = cond (eqb q page) 1 0 + times page steps
times page (MakeBarrier ∷ steps) = times page steps

module _ {W : Type 0} (T : Telling W) where
  -- Each page that was dirty was written once, and no other. As many barriers were made as the greatest level of a page, and no complete schedule that respects the graph has fewer.
  pub record FlushDone (old new : Moment W) : Type 0 where
    pub waves : List (List ℕ)
    pub done : WavesDone T None waves old new
    pub none : (a : ℕ) → is_node new.engine.graph a ≡ false
    pub once : (a : ℕ) → times a (steps_of waves) ≡ cond (dirty_in old.engine.graph a) 1 0
    pub levels : IsGreatestLevel (marks_of old.engine.graph) (barriers (steps_of waves))
    pub fewest : (s : Schedule) → Respects (marks_of old.engine.graph) s → IsComplete (marks_of old.engine.graph) s → barriers (steps_of waves) ≤ barriers s

  abbrev pub FlushEnds : Result Unit Failed → Moment W → Moment W → Type 0
  FlushEnds (Ok _) old new = FlushDone old new
  FlushEnds (Err _) old new = WavesFailed T None old new
