-- How a session ends, and what it has done then: the promise.
use Rattle.std.specs.Prelude.{◌≡◌, ℕ, ◌+◌, ◌<◌, ◌≤◌, ◌^◌, true, List, [], ◌∷◌, ◌++◌, length, Result, Ok, Err}
use Rattle.byte_ports.specs.Source.{SourceMeaning, Gives}
use Rattle.byte_ports.specs.Sink.{SinkMeaning, Takes, TakesFront}
use Rattle.page_device.specs.Counts.{raised}
use Rattle.page_device.specs.Meaning.{Meaning}
use Rattle.trace_text.specs.Texts.{text_of}
use Rattle.array_model.specs.Images.{Mode}
use Rattle.array_model.specs.Array.{BlockArray}
use Rattle.array_model.specs.Turns.{Turn, ended_lines, lines_in, lines_of, texts}
use Rattle.dedup_writer.specs.Core.{shape_in}
use Rattle.dedup_writer.specs.Stands.{StandsFor, IsInStep}
use Rattle.session.specs.declared.status.Status.{Status}
use Rattle.session.specs.declared.status.Status.TheVariants.{Done, SourceFault, SinkFault, DeviceFault, InputLimit}
use Rattle.session.specs.Statuses.{last_text}
use Rattle.session.specs.Answers.{Moment, rules_of}
use Rattle.session.specs.Chain.{Link, IsChain, turns_of, ArePlain, EachAnswer, IsSure, FaultsCounted}
use Rattle.session.specs.Session.{Begin, Close, none, closed, failed, IsClosed, Closes, LastCut, Kept, IsTold, start_of, works_done, StandsAfter}

-- the most bytes that one session takes
abbrev pub input_limit : ℕ
input_limit = 1099511627776

-- the whole input is lines, and each was answered
pub record AllAnswered (b : Begin) (bytes : List ℕ) (now : Moment) (sink : SinkMeaning) : Type 0 where
  pub links : List Link
  pub chain : IsChain b.moment links now
  pub lines : lines_of (turns_of links) ≡ lines_in bytes
  pub put : Takes (texts (turns_of links)) b.sink sink

-- the same, but the text of the last turn could not be put whole
pub record RestCut (b : Begin) (bytes : List ℕ) (now : Moment) (sink : SinkMeaning) : Type 0 where
  pub links : List Link
  pub last : Link
  pub cut : LastCut b links last now sink
  pub lines : lines_of (turns_of (links ++ last ∷ [])) ≡ lines_in bytes

-- a rest of the input that no LF ends was answered, where it is not empty
abbrev pub RestAnswered : {E : Type 0} → Result Unit E → Begin → List ℕ → Moment → SinkMeaning → Type 0
RestAnswered (Ok _) b bytes now sink = AllAnswered b bytes now sink
RestAnswered (Err _) b bytes now sink = RestCut b bytes now sink

-- a line was put whole, and the status is the one that was wanted; or a part of it, and the status is the sink's
pub data LinePut (text : List ℕ) (wanted status : Status) (old new : SinkMeaning) : Type 0 where
  put_whole : status ≡ wanted → Takes text old new → LinePut text wanted status old new
  put_part : status ≡ SinkFault → TakesFront text old new → LinePut text wanted status old new

-- so it was with the last line of a status
abbrev pub LastPut : Status → Status → SinkMeaning → SinkMeaning → Type 0
LastPut wanted status old new = LinePut (last_text wanted) wanted status old new

-- the texts of the turns were put, and then the last line
pub record TextsPut (wanted status : Status) (turns : List Turn) (old new : SinkMeaning) : Type 0 where
  pub after_texts : SinkMeaning
  pub put : Takes (texts turns) old after_texts
  pub last_line : LastPut wanted status after_texts new

-- the source is at its end, and has counted that once; or it has not come to its end
pub record AtEnd (source source' : SourceMeaning) : Type 0 where
  pub nothing_left : source'.tells ≡ true → source'.left ≡ []
  pub never_fewer : source.ends ≤ source'.ends
  pub ends : source'.ends ≡ raised source.ends 1

abbrev pub NotAtEnd : SourceMeaning → SourceMeaning → Type 0
NotAtEnd source source' = source'.ends ≡ source.ends

-- the input was read to its end, and its lines were answered
pub record AllRead (bytes : List ℕ) (turns : List Turn) (source source' : SourceMeaning) : Type 0 where
  pub lines : lines_of turns ≡ lines_in bytes
  pub few : length bytes < input_limit
  pub end : AtEnd source source'

-- the lines that had ended were answered
pub record SomeRead (bytes : List ℕ) (turns : List Turn) (source source' : SourceMeaning) : Type 0 where
  pub lines : lines_of turns ≡ ended_lines bytes
  pub not_end : NotAtEnd source source'

-- the line whose text was cut is the last of all that were answered: one that had ended, or the rest at the end of the input
pub data CutAt (bytes : List ℕ) (lines : List (List ℕ)) (source source' : SourceMeaning) : Type 0 where
  at_line : (more : List (List ℕ)) → ended_lines bytes ≡ lines ++ more → NotAtEnd source source' → CutAt bytes lines source source'
  at_rest : lines ≡ lines_in bytes → AtEnd source source' → CutAt bytes lines source source'

-- the text of the last turn could not be put whole, and no further line was answered
pub record TextCut (bytes : List ℕ) (turns : List Turn) (source source' : SourceMeaning) (old new : SinkMeaning) : Type 0 where
  pub before : List Turn
  pub last : Turn
  pub turns_are : turns ≡ before ++ last ∷ []
  pub cut_at : CutAt bytes (lines_of turns) source source'
  pub after_texts : SinkMeaning
  pub put : Takes (texts before) old after_texts
  pub part : TakesFront (text_of last.at last.answer) after_texts new

-- there was no closing flush, or it was done, or it failed
abbrev pub IsUnclosed : Close → Type 0
IsUnclosed none = Unit {0}
IsUnclosed (closed calls) = ⊥
IsUnclosed (failed calls) = ⊥

abbrev pub HasFailed : Close → Type 0
HasFailed none = ⊥
HasFailed (closed calls) = ⊥
HasFailed (failed calls) = Unit {0}

-- the source counted a fault; a count at its end may stand still
abbrev pub SourceFailed : SourceMeaning → SourceMeaning → Type 0
SourceFailed source source' = source.faults + 1 < 2 ^ 64 → source.faults < source'.faults

-- the ways in which a session over a store ends
pub data Ended (bytes : List ℕ) (turns : List Turn) (close : Close) (status : Status) (source source' : SourceMeaning) (old new : SinkMeaning) : Type 0 where
  all_done : status ≡ Done → IsClosed close → AllRead bytes turns source source' → Takes (texts turns) old new → Ended bytes turns close status source source' old new
  closing_failed : HasFailed close → AllRead bytes turns source source' → TextsPut DeviceFault status turns old new → Ended bytes turns close status source source' old new
  source_failed : IsUnclosed close → SomeRead bytes turns source source' → length bytes < input_limit → SourceFailed source source' → TextsPut SourceFault status turns old new → Ended bytes turns close status source source' old new
  limit_reached : IsUnclosed close → SomeRead bytes turns source source' → length bytes ≡ input_limit → TextsPut InputLimit status turns old new → Ended bytes turns close status source source' old new
  sink_failed : IsUnclosed close → TextCut bytes turns source source' old new → status ≡ SinkFault → Ended bytes turns close status source source' old new

-- what a session may end as whose input was read to its end
abbrev pub ClosesAs : Status → Type 0
ClosesAs Done = Unit {0}
ClosesAs SinkFault = Unit {0}
ClosesAs DeviceFault = Unit {0}
ClosesAs status = ⊥

-- what a session over a store may end as
abbrev pub EndsAs : Status → Type 0
EndsAs Done = Unit {0}
EndsAs SourceFault = Unit {0}
EndsAs SinkFault = Unit {0}
EndsAs DeviceFault = Unit {0}
EndsAs InputLimit = Unit {0}
EndsAs status = ⊥

-- the turns of a session and its closing flush, from where it began to where the device is now
pub record Course (first : Moment) (links : List Link) (close : Close) (d : Meaning) : Type 0 where
  pub last : Moment
  pub chain : IsChain first links last
  pub final : Moment
  pub closes : Closes close last final
  pub device : final.device ≡ d

-- the closing of a session whose input was read to its end
pub record Closed (b : Begin) (bytes : List ℕ) (status : Status) (now : Moment) (sink : SinkMeaning) : Type 0 where
  pub links : List Link
  pub close : Close
  pub course : Course b.moment links close now.device
  pub ends_at : course.final ≡ now
  pub ended : (source source' : SourceMeaning) → AtEnd source source' → length bytes < input_limit → Ended bytes (turns_of links) close status source source' b.sink sink

-- what was served: these bytes were taken, and these turns answer their lines
pub record Answered (b : Begin) (status : Status) (d : Meaning) (source source' : SourceMeaning) (sink : SinkMeaning) : Type 0 where
  pub bytes : List ℕ
  pub gives : Gives bytes source source'
  pub links : List Link
  pub close : Close
  pub course : Course b.moment links close d
  pub ended : Ended bytes (turns_of links) close status source source' b.sink sink

-- The promise. These bytes of the input were taken, and these turns answer their lines, over whatever device; the session ended where
-- the store and the device are now; each reply fits but for the contents of blocks, and the device counted each `fault`. And over each
-- array for which the store stood: what `Kept` says, and for which it stands now.
pub record Served (b : Begin) (status : Status) (now : Moment) (source source' : SourceMeaning) (sink : SinkMeaning) : Type 0 where
  pub answered : Answered b status now.device source source' sink
  pub ends_at : answered.course.final ≡ now
  pub plain : ArePlain (rules_of b.moment.store) (turns_of answered.links)
  pub sure : EachAnswer (IsSure (shape_in b.moment.store).pages) (turns_of answered.links)
  pub faulted : FaultsCounted b.moment.device now.device (turns_of answered.links)
  pub kept : (mode : Mode) (a : BlockArray) → StandsFor mode b.moment.store b.moment.device a → Kept (start_of b.moment mode a) (turns_of answered.links) answered.close now.device
  pub stands : (mode : Mode) (a : BlockArray) → StandsFor mode b.moment.store b.moment.device a → StandsAfter b.moment mode a (works_done (turns_of answered.links) answered.close) now
  pub counted : (mode : Mode) (a : BlockArray) → StandsFor mode b.moment.store b.moment.device a → IsInStep b.moment.store b.moment.device
      → IsTold b.moment.device answered.links answered.close now.device
