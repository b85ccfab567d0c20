-- What a session has done, by its status, in one record for each.
use Rattle.std.specs.Prelude.{◌≡◌, ◌⊎◌, ℕ, true, List, ◌++◌}
use Rattle.byte_ports.specs.Source.{SourceMeaning, Gives}
use Rattle.byte_ports.specs.Sink.{SinkMeaning, Takes}
use Rattle.page_device.specs.declared.device.LogEntry.{LogEntry}
use Rattle.page_device.specs.Faults.{IsCalm}
use Rattle.page_device.specs.Gains.{Gains}
use Rattle.page_device.specs.Meaning.{Meaning}
use Rattle.page_layout.specs.Shape.{ShapeView}
use Rattle.image_reader.specs.Looked.{Holds, TellsShape}
use Rattle.array_model.specs.Images.{Mode, IsFit, IsGood}
use Rattle.dedup_writer.specs.Calls.{AllDone}
use Rattle.array_model.specs.Turns.{lines_in, lines_of, texts}
use Rattle.session.specs.declared.status.Status.{Status}
use Rattle.session.specs.declared.status.Status.TheVariants.{Usage, NotFormatted, Unsound}
use Rattle.session.specs.Answers.{shape_rules}
use Rattle.session.specs.Chain.{Link, turns_of, ArePlain, EachAnswer, IsSure, FaultsCounted, AreNumbered, NumbersAt, turn_calls}
use Rattle.session.specs.Session.{Close, closed, Kept, IsTold}
use Rattle.session.specs.Endings.{AllRead}
use Rattle.session.specs.Run.{IsReady, NoneDone, TraceOutcome, session_start}

-- Status 0. Over whatever device: one turn answers each line of the whole input, and its texts were put, and nothing else; the device
-- calls of the turns and of a closing flush that was done, and no others, were made, and each number counts those until then. Over a
-- ready device: the turns and the closing flush were all that was done over the array of its image, and the numbers of the replies are
-- those of the pages as long as no fault is counted.
pub record DoneSession (d d' : Meaning) (source source' : SourceMeaning) (sink sink' : SinkMeaning) : Type 0 where
  pub shape : ShapeView
  pub told : Holds (TellsShape shape) d
  pub fit : Holds IsFit d
  pub links : List Link
  pub calls : List LogEntry
  pub bytes : List ℕ
  pub gives : Gives bytes source source'
  pub read : AllRead bytes (turns_of links) source source'
  pub input : source.tells ≡ true → lines_of (turns_of links) ≡ lines_in source.left
  pub plain : ArePlain (shape_rules shape) (turns_of links)
  pub sure : EachAnswer (IsSure shape.pages) (turns_of links)
  pub faulted : FaultsCounted d d' (turns_of links)
  pub put : Takes (texts (turns_of links)) sink sink'
  pub numbered : AreNumbered 0 (turns_of links)
  pub gains : Gains (turn_calls (turns_of links) ++ calls) d d'
  pub done : IsCalm d d' → AllDone calls
  pub kept : IsReady d → (mode : Mode) → IsGood mode d.state.fixed → Kept (session_start mode d) (turns_of links) (closed calls) d'
  pub counted : IsReady d → IsTold d links (closed calls) d'
  pub calm : IsReady d → IsCalm d d' → NumbersAt d.state (turns_of links)

-- what a session with these words has done
abbrev pub Session : Status → Meaning → Meaning → SourceMeaning → SourceMeaning → SinkMeaning → SinkMeaning → Type 0
Session status d d' source source' sink sink' = NoneDone status d d' source source' sink sink' ⊎ TraceOutcome status d d' source source' sink sink'

-- how a session may end over a fit image: never with the statuses 2 and 6
abbrev pub EndsOverFit : Status → Type 0
EndsOverFit Usage = ⊥
EndsOverFit NotFormatted = ⊥
EndsOverFit (Unsound found) = ⊥
EndsOverFit status = Unit {0}
