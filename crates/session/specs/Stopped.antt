-- What a session has done that stopped before its end, or that was not opened, in one record for each status.
use Rattle.std.specs.Prelude.{◌≡◌, ℕ, ◌<◌, true, List, [], ◌++◌, length}
use Rattle.byte_ports.specs.Source.{SourceMeaning, Gives}
use Rattle.byte_ports.specs.Sink.{SinkMeaning, Takes, TakesFront}
use Rattle.page_device.specs.declared.device.LogEntry.{LogEntry}
use Rattle.page_device.specs.Gains.{Gains}
use Rattle.page_device.specs.Meaning.{Meaning, FaultRose}
use Rattle.page_layout.specs.Shape.{ShapeView}
use Rattle.image_reader.specs.Looked.{Looked, Holds, TellsShape}
use Rattle.array_model.specs.Images.{Mode, IsFit, IsGood}
use Rattle.array_model.specs.Turns.{Turn, lines_in, lines_of, texts}
use Rattle.dedup_writer.specs.Calls.{EndUndone}
use Rattle.mount_reader.specs.declared.error.MountError.{MountError}
use Rattle.mount_reader.specs.Mount.{MountCause, IsRefusal}
use Rattle.session.specs.declared.status.Status.{Status}
use Rattle.session.specs.declared.status.Status.TheVariants.{Done, SourceFault, DeviceFault, NoMemory, InputLimit}
use Rattle.session.specs.Statuses.{last_text}
use Rattle.session.specs.Opening.{mount_status}
use Rattle.session.specs.Answers.{shape_rules}
use Rattle.session.specs.Chain.{Link, turns_of, turn_calls, ArePlain, AreNumbered, EachAnswer, IsSure, FaultsCounted}
use Rattle.session.specs.Session.{Close, none, failed, close_calls, Kept}
use Rattle.session.specs.Endings.{input_limit, AllRead, SomeRead, SourceFailed, TextCut}
use Rattle.session.specs.Run.{IsReady, session_start}

-- what holds of the turns of a session and of this closing: over whatever device each number counts the device calls until then, and
-- these calls were made, and no others
pub record TurnsMade (d d' : Meaning) (links : List Link) (close : Close) : Type 0 where
  pub shape : ShapeView
  pub told : Holds (TellsShape shape) d
  pub fit : Holds IsFit d
  pub plain : ArePlain (shape_rules shape) (turns_of links)
  pub sure : EachAnswer (IsSure shape.pages) (turns_of links)
  pub faulted : FaultsCounted d d' (turns_of links)
  pub numbered : AreNumbered 0 (turns_of links)
  pub gains : Gains (turn_calls (turns_of links) ++ close_calls close) d d'
  pub kept : IsReady d → (mode : Mode) → IsGood mode d.state.fixed → Kept (session_start mode d) (turns_of links) close d'

-- how many bytes were taken by a session that stopped between two lines
abbrev pub TakenUntil : Status → ℕ → Type 0
TakenUntil SourceFault taken = taken < input_limit
TakenUntil InputLimit taken = taken ≡ input_limit
TakenUntil status taken = ⊥

-- Status 3 and 8. The lines that had ended were answered, and the texts were put, and the last line. Fewer bytes were taken than a session
-- takes at most where the source failed, and so many where that was the limit.
pub record StoppedSession (status : Status) (d d' : Meaning) (source source' : SourceMeaning) (sink sink' : SinkMeaning) : Type 0 where
  pub links : List Link
  pub made : TurnsMade d d' links none
  pub bytes : List ℕ
  pub gives : Gives bytes source source'
  pub read : SomeRead bytes (turns_of links) source source'
  pub source_failed : status ≡ SourceFault → SourceFailed source source'
  pub taken : TakenUntil status (length bytes)
  pub put : Takes (texts (turns_of links) ++ last_text status) sink sink'

-- Status 5 of a session whose closing flush failed: the whole input was answered, and the last call of the flush did not end `Done`.
pub record FailedClose (d d' : Meaning) (source source' : SourceMeaning) (sink sink' : SinkMeaning) : Type 0 where
  pub links : List Link
  pub calls : List LogEntry
  pub made : TurnsMade d d' links (failed calls)
  pub undone : EndUndone calls
  pub fault : FaultRose d d'
  pub bytes : List ℕ
  pub gives : Gives bytes source source'
  pub read : AllRead bytes (turns_of links) source source'
  pub put : Takes (texts (turns_of links) ++ last_text DeviceFault) sink sink'

-- The image was not opened: it is not fit where the device and memory did not fail, the device was only looked at, nothing was taken,
-- and the last line was put.
pub record NotOpened (status : Status) (d d' : Meaning) (source source' : SourceMeaning) (sink sink' : SinkMeaning) : Type 0 where
  pub why : MountError
  pub is : mount_status why ≡ status
  pub cause : MountCause why d d'
  pub not_fit : IsRefusal why d
  pub looked : Looked d d'
  pub nothing_read : source' ≡ source
  pub put : Takes (last_text status) sink sink'

-- the texts of these turns were put, and a front of the last line of this status
pub record LineCut (turns : List Turn) (last : Status) (old new : SinkMeaning) : Type 0 where
  pub after_texts : SinkMeaning
  pub put : Takes (texts turns) old after_texts
  pub part : TakesFront (last_text last) after_texts new

-- Where a session was whose sink failed, by the last line that it had begun; `Done` where it had begun none. At its start, for want of
-- memory; at the opening of the image, for this cause; at the text of a turn, which is the last; between two lines, for the source or for
-- the limit; or at the close, whose flush had failed.
pub data CutWhere (d d' : Meaning) (source source' : SourceMeaning) (sink sink' : SinkMeaning) (links : List Link) (last : Status) : Type 0 where
  at_start : last ≡ NoMemory → links ≡ [] → d' ≡ d → source' ≡ source → CutWhere d d' source source' sink sink' links last
  at_opening : (why : MountError) → last ≡ mount_status why → links ≡ [] → MountCause why d d' → IsRefusal why d → Looked d d' → source' ≡ source → CutWhere d d' source source' sink sink' links last
  at_text : (bytes : List ℕ) → last ≡ Done → TurnsMade d d' links none → Gives bytes source source' → TextCut bytes (turns_of links) source source' sink sink' → CutWhere d d' source source' sink sink' links last
  at_source : (bytes : List ℕ) → last ≡ SourceFault → TurnsMade d d' links none → Gives bytes source source' → SomeRead bytes (turns_of links) source source' → length bytes < input_limit → SourceFailed source source'
      → LineCut (turns_of links) last sink sink' → CutWhere d d' source source' sink sink' links last
  at_limit : (bytes : List ℕ) → last ≡ InputLimit → TurnsMade d d' links none → Gives bytes source source' → SomeRead bytes (turns_of links) source source' → length bytes ≡ input_limit
      → LineCut (turns_of links) last sink sink' → CutWhere d d' source source' sink sink' links last
  at_close : (bytes : List ℕ) (calls : List LogEntry) → last ≡ DeviceFault → TurnsMade d d' links (failed calls) → EndUndone calls → FaultRose d d' → Gives bytes source source' → AllRead bytes (turns_of links) source source'
      → LineCut (turns_of links) last sink sink' → CutWhere d d' source source' sink sink' links last

-- Status 4. Turns answer the first lines of the input, and the sink has a front of their texts with the last line behind them.
pub record CutSession (d d' : Meaning) (source source' : SourceMeaning) (sink sink' : SinkMeaning) : Type 0 where
  pub links : List Link
  pub last : Status
  pub lines : source.tells ≡ true → (more : List (List ℕ)) × (lines_in source.left ≡ lines_of (turns_of links) ++ more)
  pub front : TakesFront (texts (turns_of links) ++ last_text last) sink sink'
  pub cut : CutWhere d d' source source' sink sink' links last
