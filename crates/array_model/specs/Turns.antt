-- Lines, the turns that answer them, and what a crash within a session may leave.
use Rattle.std.specs.Prelude.{◌≡◌, ◌≢◌, ℕ, ◌+◌, ◌==◌, if◌then◌else◌, Bool, true, List, [], ◌∷◌, ◌++◌, length, Option, Some, None, map, take}
use Rattle.page_device.specs.Block.{Block}
use Rattle.page_device.specs.Counts.{raised}
use Rattle.page_device.specs.declared.device.LogEntry.{LogEntry}
use Rattle.page_device.specs.Disk.{DeviceState, LeftAt}
use Rattle.page_device.specs.Runs.{Runs, all_calls, after_turns, ended, at_work, at_moment}
use Rattle.trace_text.specs.declared.command.Command.{Command}
use Rattle.trace_text.specs.declared.command.Command.TheVariants.{Policy}
use Rattle.trace_text.specs.declared.reply.Reply.{Reply}
use Rattle.trace_text.specs.declared.reply.Reply.TheVariants as reply
use Rattle.trace_text.specs.Grammar.{IsCommand}
use Rattle.trace_text.specs.Texts.{text_of}
use Rattle.array_model.specs.Images.{Mode}
use Rattle.array_model.specs.Array.{BlockArray, array_after, flushed, last, writes, MayBeLeft}
use Rattle.array_model.specs.Replies.{FitsWith}

-- lines, each with its LF, and then a rest
unfoldable pub joined : List (List ℕ) → List ℕ → List ℕ
joined [] rest = rest
joined (line ∷ lines) rest = line ++ 10 ∷ joined lines rest

-- no LF stands in it
unfoldable pub IsLine : List ℕ → Type 0
IsLine [] = Unit {0}
IsLine (byte ∷ bytes) = (byte ≢ 10) × IsLine bytes

unfoldable pub AreLines : List (List ℕ) → Type 0
AreLines [] = Unit {0}
AreLines (line ∷ lines) = IsLine line × AreLines lines

-- what a line asks for
pub data Asked : Type 0 where
  bad : Asked
  known : Command → Asked

-- how many blocks, the version of the image, and the commands that are built
pub record Rules : Type 0 where
  pub blocks : ℕ
  pub version : ℕ
  pub built : Command → Bool

-- the line is a command that is built, or it is bad
abbrev pub Asks : Rules → List ℕ → Asked → Type 0
Asks rules line bad = (command : Command) → rules.built command ≡ true → ¬ IsCommand line command
Asks rules line (known command) = IsCommand line command × (rules.built command ≡ true)

-- what is kept from turn to turn: the block array, and the labels of the policies that are unused
pub record RunState : Type 0 where
  pub array : BlockArray
  pub unused : List ℕ

-- the reply fits what was asked for, where a read of a block may give these contents
abbrev pub FitsAskedWith : (ℕ → Block → Type 0) → Rules → List ℕ → Asked → Reply → Type 0
FitsAskedWith Reads rules unused bad r = r ≡ reply.Bad
FitsAskedWith Reads rules unused (known command) r = FitsWith Reads rules.blocks unused command r

abbrev pub FitsAsked : Rules → RunState → Asked → Reply → Type 0
FitsAsked rules s asked r = FitsAskedWith (λ block page. page ≡ last s.array block) rules s.unused asked r

-- the labels without the first that is this one
unfoldable pub without_label : List ℕ → ℕ → List ℕ
without_label [] label = []
without_label (k ∷ rest) label = (if k == label then rest else k ∷ without_label rest label)

abbrev pub unused_after : List ℕ → Asked → Reply → List ℕ
unused_after unused (known (Policy label)) reply.Done = without_label unused label
unused_after unused asked r = unused

abbrev pub array_after_asked : Rules → BlockArray → Asked → Reply → BlockArray
array_after_asked rules a bad r = a
array_after_asked rules a (known command) r = array_after rules.version a command r

abbrev pub asked_writes : BlockArray → Asked → ℕ → Option Block
asked_writes a bad block = None
asked_writes a (known command) block = writes a command block

-- one turn: a line, what it asks for, the reply, the number of device calls then, and the device calls of the turn
pub record Turn : Type 0 where
  pub line : List ℕ
  pub asked : Asked
  pub answer : Reply
  pub at : ℕ
  pub calls : List LogEntry

abbrev pub after_turn : Rules → RunState → Turn → RunState
after_turn rules s turn = record { array = array_after_asked rules s.array turn.asked turn.answer; unused = unused_after s.unused turn.asked turn.answer }

-- the turns are a run: each reply fits its line over what the turns before it leave, and each number counts the device calls so far, and stands still at the end of a `u64`
unfoldable pub IsRun : Rules → RunState → ℕ → List Turn → Type 0
IsRun rules s at [] = Unit {0}
IsRun rules s at (turn ∷ turns) = Asks rules turn.line turn.asked × FitsAsked rules s turn.asked turn.answer × (turn.at ≡ raised at (length turn.calls)) × IsRun rules (after_turn rules s turn) turn.at turns

-- the texts of the replies
unfoldable pub texts : List Turn → List ℕ
texts [] = []
texts (turn ∷ turns) = text_of turn.at turn.answer ++ texts turns

abbrev pub lines_of : List Turn → List (List ℕ)
lines_of turns = map (λ (turn : Turn). turn.line) turns

-- the parts of some bytes that end with LF, each without it, and the rest behind them
pub record Parts : Type 0 where
  pub ended : List (List ℕ)
  pub rest : List ℕ

-- one more byte in front, which is no LF: it stands in the first part
abbrev pub first_longer : ℕ → List (List ℕ) → List ℕ → Parts
first_longer byte [] rest = record { ended = []; rest = byte ∷ rest }
first_longer byte (line ∷ lines) rest = record { ended = (byte ∷ line) ∷ lines; rest = rest }

abbrev pub one_longer : ℕ → Parts → Parts
one_longer byte parts = (if byte == 10 then record { ended = [] ∷ parts.ended; rest = parts.rest } else first_longer byte parts.ended parts.rest)

unfoldable pub parts_of : List ℕ → Parts
parts_of [] = record { ended = []; rest = [] }
parts_of (byte ∷ bytes) = one_longer byte (parts_of bytes)

-- the lines of some bytes that end with LF
abbrev pub ended_lines : List ℕ → List (List ℕ)
ended_lines bytes = (parts_of bytes).ended

-- a rest that is not empty is one more line
abbrev pub last_line : List ℕ → List (List ℕ)
last_line [] = []
last_line (byte ∷ bytes) = (byte ∷ bytes) ∷ []

-- the lines of a whole input
abbrev pub lines_in : List ℕ → List (List ℕ)
lines_in bytes = (parts_of bytes).ended ++ last_line (parts_of bytes).rest

-- what a session does: it answers lines, and may close by a flush, which is done or not
pub data Work : Type 0 where
  answered : Turn → Work
  closing : Bool → List LogEntry → Work

abbrev pub calls_of : Work → List LogEntry
calls_of (answered turn) = turn.calls
calls_of (closing done calls) = calls

-- the array after it
abbrev pub array_after_work : Rules → BlockArray → Work → BlockArray
array_after_work rules a (answered turn) = array_after_asked rules a turn.asked turn.answer
array_after_work rules a (closing done calls) = (if done then flushed a else a)

abbrev pub work_writes : BlockArray → Option Work → ℕ → Option Block
work_writes a None block = None
work_writes a (Some (answered turn)) block = asked_writes a turn.asked block
work_writes a (Some (closing done calls)) block = None

-- what a crash may leave while such work is being done over the array
abbrev pub MayLeave : Mode → Rules → BlockArray → Option Work → List Block → Type 0
MayLeave mode rules a work image = MayBeLeft mode rules.blocks a (work_writes a work) image

-- all device calls of these works, the array after them, how many had ended after `k` calls, and which was being done then
abbrev pub calls_of_works : Mode → Rules → List Work → List LogEntry
calls_of_works mode rules works = all_calls calls_of (array_after_work rules) (MayLeave mode rules) works

abbrev pub array_after_works : Mode → Rules → BlockArray → List Work → BlockArray
array_after_works mode rules a works = after_turns calls_of (array_after_work rules) (MayLeave mode rules) a works

abbrev pub ended_works : Mode → Rules → ℕ → List Work → ℕ
ended_works mode rules k works = ended calls_of (array_after_work rules) (MayLeave mode rules) k works

abbrev pub work_at : Mode → Rules → ℕ → List Work → Option Work
work_at mode rules k works = at_work calls_of (array_after_work rules) (MayLeave mode rules) k works

-- within each work a crash leaves what was allowed before it, or what it writes
abbrev pub WorksLeave : Mode → Rules → BlockArray → DeviceState → List Work → Type 0
WorksLeave mode rules a start works = Runs calls_of (array_after_work rules) (MayLeave mode rules) a start works

-- A crash after any `k` device calls of these works: each block reads what is allowed after the works that had ended then, or
-- what the work that was being done writes to it.
abbrev pub SurvivesCrash : Mode → Rules → BlockArray → DeviceState → List Work → Type 0
SurvivesCrash mode rules a start works = (k : ℕ) (image : List Block) → LeftAt start (calls_of_works mode rules works) k image
    → MayLeave mode rules (array_after_works mode rules a (take (ended_works mode rules k works) works)) (work_at mode rules k works) image

-- the contents that a block may read after a crash at the moment `k`: those after the works that had ended then, and the one that the
-- work which was being done writes to it, if any
abbrev pub content_list : Option Block → List Block
content_list None = []
content_list (Some content) = content ∷ []

abbrev pub contents_at : Mode → Rules → BlockArray → List Work → ℕ → ℕ → List Block
contents_at mode rules a works k block = (array_after_works mode rules a (take (ended_works mode rules k works) works)).lists block ++ content_list (work_writes (array_after_works mode rules a (take (ended_works mode rules k works) works)) (work_at mode rules k works) block)

-- so it is where within each work it is so
pub survives : (mode : Mode) (rules : Rules) (a : BlockArray) (start : DeviceState) (works : List Work) → WorksLeave mode rules a start works → SurvivesCrash mode rules a start works
survives mode rules a start works run k image left = at_moment calls_of (array_after_work rules) (MayLeave mode rules) a start works k run image left

-- turns are works
unfoldable pub works_of : List Turn → List Work
works_of [] = []
works_of (turn ∷ turns) = answered turn ∷ works_of turns
