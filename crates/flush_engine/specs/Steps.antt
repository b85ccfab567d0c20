-- The steps that a call of an engine makes.
use Rattle.std.specs.Prelude.{◌≡◌, ℕ, true, [], ◌∷◌, Result, Ok, Err}
use Rattle.page_device.specs.declared.error.Failed.{Failed}
use Rattle.page_device.specs.Meaning.{HasCause, Meaning, OneCall, FlushEntry}
use Rattle.page_cache.specs.View.{content_in}
use Rattle.page_cache.specs.Calls.{Tried, WritesPage, WrittenOut}
use Rattle.page_cache.specs.Calls.{Fixed as CacheFixed}
use Rattle.dep_graph.specs.Calls.{Wrote}
use Rattle.dep_graph.specs.Calls.{Fixed as GraphFixed}
use Rattle.dep_graph.specs.Lists.{is_ready}
use Rattle.dep_graph.specs.Schedules.{MakeBarrier, Schedule, Step, WritePage}
use Rattle.flush_engine.specs.Tallies.{left_out}
use Rattle.flush_engine.specs.Telling.{Telling}
use Rattle.flush_engine.specs.View.{Moment}

-- of one write or barrier: a failure is a counted fault
abbrev pub CountsFault : Result Unit Failed → Meaning → Meaning → Type 0
CountsFault result old new = HasCause result old new

module _ {W : Type 0} (T : Telling W) where
  -- A page that was ready was written: the device was handed its whole content of that moment, the cache keeps each content, and the watch was told of the try and then of the write.
  pub record WriteDone (page : ℕ) (old new : Moment W) : Type 0 where
    pub ready : is_ready old.engine.graph page ≡ true
    pub between : W
    pub tried : T.tried old.watch page between
    pub call : WritesPage (content_in old.engine.cache page) page (Ok tt) old.device new.device
    pub cause : CountsFault (Ok tt) old.device new.device
    pub cache : WrittenOut old.engine.cache new.engine.cache page
    pub graph : Wrote page old.engine.graph new.engine.graph
    pub tallies : new.engine.tallies ≡ left_out page old.engine.tallies
    pub room : new.engine.room ≡ old.engine.room
    pub written : T.written between page new.watch

  -- The write failed: each content, mark and edge is as before, and the watch was told of the try alone.
  pub record WriteFailed (page : ℕ) (old new : Moment W) : Type 0 where
    pub ready : is_ready old.engine.graph page ≡ true
    pub tried : T.tried old.watch page new.watch
    pub failed : Failed
    pub call : WritesPage (content_in old.engine.cache page) page (Err failed) old.device new.device
    pub cause : CountsFault (Err failed) old.device new.device
    pub cache : Tried old.engine.cache new.engine.cache
    pub graph : new.engine.graph ≡ old.engine.graph
    pub tallies : new.engine.tallies ≡ old.engine.tallies
    pub room : new.engine.room ≡ old.engine.room

  -- A barrier was made, and the watch was told of it. The cache keeps each content but those of clean pages that nobody holds, which it may let go for want of memory.
  pub record BarrierDone (old new : Moment W) : Type 0 where
    pub call : OneCall (FlushEntry (Ok tt)) old.device new.device
    pub cause : CountsFault (Ok tt) old.device new.device
    pub cache : CacheFixed old.engine.cache new.engine.cache
    pub graph : GraphFixed old.engine.graph new.engine.graph
    pub tallies : new.engine.tallies ≡ old.engine.tallies
    pub room : new.engine.room ≡ old.engine.room
    pub fixed : T.fixed old.watch new.watch

  -- The barrier failed: each content, mark and edge is as before, and the watch was told nothing.
  pub record BarrierFailed (old new : Moment W) : Type 0 where
    pub failed : Failed
    pub call : OneCall (FlushEntry (Err failed)) old.device new.device
    pub cause : CountsFault (Err failed) old.device new.device
    pub cache : Tried old.engine.cache new.engine.cache
    pub graph : new.engine.graph ≡ old.engine.graph
    pub tallies : new.engine.tallies ≡ old.engine.tallies
    pub room : new.engine.room ≡ old.engine.room
    pub watch : new.watch ≡ old.watch

  abbrev pub StepDone : Step → Moment W → Moment W → Type 0
  StepDone (WritePage page) old new = WriteDone page old new
  StepDone MakeBarrier old new = BarrierDone old new

  abbrev pub StepFailed : Step → Moment W → Moment W → Type 0
  StepFailed (WritePage page) old new = WriteFailed page old new
  StepFailed MakeBarrier old new = BarrierFailed old new

  -- one step, with its end
  abbrev pub StepEnds : Step → Result Unit Failed → Moment W → Moment W → Type 0
  StepEnds step (Ok _) old new = StepDone step old new
  StepEnds step (Err _) old new = StepFailed step old new

  -- each of these steps was made, one after another
  unfoldable pub Chain : Schedule → Moment W → Moment W → Type 0
  Chain [] old new = old ≡ new
  Chain (step ∷ steps) old new = (m : Moment W) × StepDone step old m × Chain steps m new

  -- one further step failed
  pub record Fails (old new : Moment W) : Type 0 where
    pub step : Step
    pub failed : StepFailed step old new

  abbrev pub Ends : {A : Type 0} → Result A Failed → Moment W → Moment W → Type 0
  Ends (Ok _) old new = old ≡ new
  Ends (Err _) old new = Fails old new

  -- A call is steps that were made, and one further step that failed exactly where the answer says so.
  pub record Steps {A : Type 0} (result : Result A Failed) (old new : Moment W) : Type 0 where
    pub done : Schedule
    pub last : Moment W
    pub chain : Chain done old last
    pub ends : Ends result last new
