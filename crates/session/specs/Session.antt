-- What a session has done: the turns that it made, and the closing flush.
use Rattle.std.specs.Prelude.{◌≡◌, ℕ, ◌<◌, ◌^◌, Bool, true, false, List, [], ◌∷◌, ◌++◌, take, if◌then◌else◌, Result, Ok, Err}
use Rattle.byte_ports.specs.Sink.{SinkMeaning, Takes, TakesFront}
use Rattle.page_device.specs.declared.device.LogEntry.{LogEntry}
use Rattle.page_device.specs.Disk.{at_rest}
use Rattle.page_device.specs.Faults.{IsCalm}
use Rattle.page_device.specs.Gains.{Gains}
use Rattle.page_device.specs.Meaning.{Meaning}
use Rattle.page_layout.specs.Shape.{ShapeView}
use Rattle.trace_text.specs.Texts.{text_of}
use Rattle.array_model.specs.Images.{Mode, left_mode}
use Rattle.array_model.specs.Array.{BlockArray, flushed, writes_nothing}
use Rattle.array_model.specs.Turns.{Turn, Work, closing, Rules, RunState, IsRun, joined, IsLine, AreLines, lines_of, texts, works_of, calls_of_works, array_after_works, WorksLeave, SurvivesCrash}
use Rattle.dedup_writer.specs.Core.{CoreView, shape_in, calls_in}
use Rattle.dedup_writer.specs.Calls.{Called, EndUndone}
use Rattle.dedup_writer.specs.Stands.{StandsFor, IsInStep}
use Rattle.session.specs.Answers.{Moment, no_policies, shape_rules, rules_of}
use Rattle.session.specs.Chain.{Link, IsChain, turns_of, AreTold}

-- the most that is kept of a line: a longer one is bad
abbrev pub kept : List ℕ → List ℕ
kept line = take 8206 line

-- where a session begins, whatever the device is
pub record Begin : Type 0 where
  pub moment : Moment
  pub sink : SinkMeaning

-- whether there was a closing flush, and whether it was done; with its device calls
pub data Close : Type 0 where
  none : Close
  closed : List LogEntry → Close
  failed : List LogEntry → Close

-- a flush, by these device calls
pub record FlushesBy (done : Bool) (calls : List LogEntry) (from to : Moment) : Type 0 where
  pub call : Called from.store to.store from.device to.device (λ a. if done then flushed a else a) (λ _. writes_nothing)
  pub calls_are : call.calls ≡ calls

-- so it was; and the last call of one that failed did not end `Done`
abbrev pub Closes : Close → Moment → Moment → Type 0
Closes none from to = to ≡ from
Closes (closed calls) from to = FlushesBy true calls from to
Closes (failed calls) from to = FlushesBy false calls from to × EndUndone calls

-- the device calls of the closing
abbrev pub close_calls : Close → List LogEntry
close_calls none = []
close_calls (closed calls) = calls
close_calls (failed calls) = calls

-- over an array: where the session began, with the mode of the image, the shape, and the number of device calls so far
pub record Start : Type 0 where
  pub mode : Mode
  pub array : BlockArray
  pub shape : ShapeView
  pub at : ℕ
  pub device : Meaning

-- over this array, for which the store stands in this mode
abbrev pub start_of : Moment → Mode → BlockArray → Start
start_of m mode array = record { mode = mode; array = array; shape = shape_in m.store; at = calls_in m.store; device = m.device }

abbrev pub start_state : Start → RunState
start_state s = record { array = s.array; unused = no_policies }

abbrev pub start_rules : Start → Rules
start_rules s = shape_rules s.shape

-- what was done: the turns, and the closing flush, if there was one
abbrev pub closing_works : Close → List Work
closing_works none = []
closing_works (closed calls) = closing true calls ∷ []
closing_works (failed calls) = closing false calls ∷ []

abbrev pub works_done : List Turn → Close → List Work
works_done turns close = works_of turns ++ closing_works close

-- What was done over an array for which the store stood. Each reply is the block array's, and each number counts the device calls
-- so far. The device calls of the turns and of the closing flush, and no others, were made. After a crash at any of them each block
-- reads what is allowed after the works that had ended then, or what the work that was being done writes to it.
pub record Kept (s : Start) (turns : List Turn) (close : Close) (d : Meaning) : Type 0 where
  pub run : s.at < 2 ^ 64 → IsRun (start_rules s) (start_state s) s.at turns
  pub gains : Gains (calls_of_works (left_mode s.mode) (start_rules s) (works_done turns close)) s.device d
  pub leave : WorksLeave (left_mode s.mode) (start_rules s) s.array s.device.state (works_done turns close)
  pub survives : SurvivesCrash (left_mode s.mode) (start_rules s) s.array s.device.state (works_done turns close)

-- it was closed, and that was done
abbrev pub IsClosed : Close → Type 0
IsClosed none = ⊥
IsClosed (closed calls) = Unit {0}
IsClosed (failed calls) = ⊥

-- the numbers of the replies are those of the pages, as long as each device call ended `Done`; and where no fault was counted, the
-- device has nothing pending once the session is closed
pub record IsTold (start : Meaning) (links : List Link) (close : Close) (d : Meaning) : Type 0 where
  pub told : AreTold links
  pub rest : IsClosed close → IsCalm start d → d.state ≡ at_rest d.state.fixed

-- What a further session begins with: after these works the store stands for the array after them; and where no fault was counted, its
-- tables are in step if they were.
pub record StandsAfter (first : Moment) (mode : Mode) (a : BlockArray) (works : List Work) (now : Moment) : Type 0 where
  pub stands : StandsFor mode now.store now.device (array_after_works (left_mode mode) (rules_of first.store) a works)
  pub in_step : IsCalm first.device now.device → IsInStep first.store first.device → IsInStep now.store now.device

-- these bytes of the input are lines that were answered, and one that is begun
pub record SoFar (b : Begin) (bytes begun : List ℕ) (now : Moment) (sink : SinkMeaning) : Type 0 where
  pub links : List Link
  pub chain : IsChain b.moment links now
  pub split : bytes ≡ joined (lines_of (turns_of links)) begun
  pub lines : AreLines (lines_of (turns_of links))
  pub open_line : IsLine begun
  pub put : Takes (texts (turns_of links)) b.sink sink

-- turns, of which the text of the last could not be put whole
pub record LastCut (b : Begin) (links : List Link) (last : Link) (now : Moment) (sink : SinkMeaning) : Type 0 where
  pub chain : IsChain b.moment (links ++ last ∷ []) now
  pub whole : SinkMeaning
  pub put : Takes (texts (turns_of links)) b.sink whole
  pub part : TakesFront (text_of last.turn.at last.turn.answer) whole sink

-- the last of them answers a line that had ended; some of the bytes were not looked at
pub record CutShort (b : Begin) (bytes : List ℕ) (now : Moment) (sink : SinkMeaning) : Type 0 where
  pub links : List Link
  pub last : Link
  pub cut : LastCut b links last now sink
  pub rest : List ℕ
  pub split : bytes ≡ joined (lines_of (turns_of (links ++ last ∷ []))) rest
  pub lines : AreLines (lines_of (turns_of (links ++ last ∷ [])))

-- the same as `SoFar`, where the line that is begun is kept
pub record SoFarWith (b : Begin) (bytes line : List ℕ) (now : Moment) (sink : SinkMeaning) : Type 0 where
  pub begun : List ℕ
  pub is : line ≡ kept begun
  pub so_far : SoFar b bytes begun now sink

-- after these further bytes: they were answered, or a text could not be put
abbrev pub GoneOn : {E : Type 0} → Result Unit E → Begin → List ℕ → List ℕ → Moment → SinkMeaning → Type 0
GoneOn (Ok _) b bytes line now sink = SoFarWith b bytes line now sink
GoneOn (Err _) b bytes line now sink = CutShort b bytes now sink

-- a session goes on by these bytes
abbrev pub Goes : {E : Type 0} → Begin → List ℕ → List ℕ → Result Unit E → List ℕ → List ℕ → Moment → Moment → SinkMeaning → SinkMeaning → Type 0
Goes b bytes more result line line' from to sink sink' = SoFarWith b bytes line from sink → GoneOn result b (bytes ++ more) line' to sink'
