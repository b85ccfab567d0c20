-- What a command of a line does, and how it is answered.
use Rattle.std.specs.Prelude.{◌≡◌, ℕ, ◌≤◌, Bool, true, false, List, [], length, Result, Ok, Err}
use Rattle.byte_ports.specs.Sink.{SinkMeaning, Takes, TakesFront}
use Rattle.page_device.specs.Block.{Block}
use Rattle.page_device.specs.declared.device.LogEntry.{LogEntry}
use Rattle.page_device.specs.Faults.{IsCalm}
use Rattle.page_device.specs.Gains.{Gains}
use Rattle.page_device.specs.Meaning.{Meaning, FaultRose}
use Rattle.page_layout.specs.Shape.{ShapeView, total}
use Rattle.trace_text.specs.Texts.{text_of}
use Rattle.trace_text.specs.declared.command.Command.{Command}
use Rattle.trace_text.specs.declared.command.Command.TheVariants.{Write, Fill, Read, Discard, Flush, Stat, Policy, Tune, Tick}
use Rattle.trace_text.specs.declared.reply.Reply.{Reply}
use Rattle.trace_text.specs.declared.reply.Reply.TheVariants as reply
use Rattle.array_model.specs.Images.{Mode}
use Rattle.array_model.specs.Array.{BlockArray, last}
use Rattle.array_model.specs.Turns.{Asked, bad, known, Rules, Asks, FitsAskedWith, array_after_asked, asked_writes}
use Rattle.dedup_writer.specs.declared.store.Refusal.{Refusal}
use Rattle.dedup_writer.specs.declared.store.Refusal.TheVariants as refusal
use Rattle.dedup_writer.specs.Core.{CoreView, shape_in, stat_in, calls_in, CountsCalls}
use Rattle.dedup_writer.specs.Calls.{StoreCall, AllDone, IsDamaged, IsFullWith, LacksMemory}
use Rattle.dedup_writer.specs.Stands.{StandsFor}

-- the commands that are built
abbrev pub is_built : Command → Bool
is_built (Write block number) = true
is_built (Fill block page) = true
is_built (Read block) = true
is_built (Discard block) = true
is_built Flush = true
is_built Stat = true
is_built (Policy label) = true
is_built (Tune n) = true
is_built Tick = true
is_built command = false

-- the rules of a session over an image of this shape, and over a store
abbrev pub shape_rules : ShapeView → Rules
shape_rules shape = record { blocks = shape.blocks; version = shape.version; built = is_built }

abbrev pub rules_of : CoreView → Rules
rules_of core = shape_rules (shape_in core)

-- no policy is built: the labels of the unused ones
abbrev pub no_policies : List ℕ
no_policies = []

-- what a session is at a moment: its device, and its store
pub record Moment : Type 0 where
  pub device : Meaning
  pub store : CoreView

abbrev pub at : CoreView → Meaning → Moment
at store device = record { device = device; store = store }

-- the device has the pages of the store's image
abbrev pub Fits : CoreView → Meaning → Type 0
Fits store device = total (shape_in store) ≤ device.pages

-- what a refusal is answered
abbrev pub refusal_reply : Refusal → Reply
refusal_reply refusal.Range = reply.Range
refusal_reply refusal.Device = reply.Fault
refusal_reply (refusal.Damaged damage) = reply.Damaged damage
refusal_reply (refusal.Full live waste) = reply.Full live waste
refusal_reply refusal.NoMemory = reply.NoMemory

-- a content that a read may give: the last one of the block, in each array for which the store stands
abbrev pub ReadsLast : Moment → ℕ → Block → Type 0
ReadsLast m block page = (mode : Mode) (a : BlockArray) → StandsFor mode m.store m.device a → page ≡ last a block

-- nothing happened
pub record IsQuiet (from to : Moment) : Type 0 where
  pub store : to.store ≡ from.store
  pub device : to.device ≡ from.device

-- Why a command was answered so: `fault` only where the device counted a fault; `full` and `stat` by the numbers of the store,
-- and nothing else was done.
abbrev pub ReplyCause : Reply → Moment → Moment → Type 0
ReplyCause reply.Fault from to = FaultRose from.device to.device
ReplyCause (reply.Full live more) from to = IsFullWith live more from.store × IsQuiet from to
ReplyCause (reply.Stat stat) from to = (stat ≡ stat_in from.store) × IsQuiet from to
ReplyCause (reply.Damaged damage) from to = IsDamaged damage from.store from.device to.device
ReplyCause reply.NoMemory from to = LacksMemory from.store
ReplyCause reply.Range from to = IsQuiet from to
ReplyCause reply.NoPolicy from to = IsQuiet from to
ReplyCause reply.Bad from to = IsQuiet from to
ReplyCause r from to = Unit {0}

-- What was asked for was done, by these device calls. Over whatever device: the reply fits but for the content of a read, and has
-- its cause; these device calls were made, and no others, and each ended `Done` where the device counted no fault. And over each array for which the store stands: a read gives the last
-- content, and the store did what the array says.
pub record Does (asked : Asked) (r : Reply) (calls : List LogEntry) (from to : Moment) : Type 0 where
  pub fits : FitsAskedWith (ReadsLast from) (rules_of from.store) no_policies asked r
  pub cause : ReplyCause r from to
  pub gains : Gains calls from.device to.device
  pub counted : CountsCalls (length calls) (calls_in from.store) (calls_in to.store)
  pub shape : shape_in to.store ≡ shape_in from.store
  pub pages : to.device.pages ≡ from.device.pages
  pub falls : from.device.faults ≤ to.device.faults
  pub calm : IsCalm from.device to.device → AllDone calls
  pub over : (mode : Mode) (a : BlockArray) → StandsFor mode from.store from.device a
      → StoreCall mode calls from.store to.store from.device to.device a (array_after_asked (rules_of from.store) a asked r) (asked_writes a asked)

-- a command was run
pub record Commanded (command : Command) (r : Reply) (from to : Moment) : Type 0 where
  pub calls : List LogEntry
  pub does : Does (known command) r calls from to

-- one that is built was run, and another one is bad, and not run at all
pub record RunsCommand (command : Command) (r : Reply) (from to : Moment) : Type 0 where
  pub run : is_built command ≡ true → Commanded command r from to
  pub other : is_built command ≡ false → (r ≡ reply.Bad) × IsQuiet from to

-- the line asks for something, and that was done
pub record CommandDone (line : List ℕ) (r : Reply) (from to : Moment) : Type 0 where
  pub asked : Asked
  pub calls : List LogEntry
  pub asks : Asks (rules_of from.store) line asked
  pub does : Does asked r calls from to

-- the text was put whole, or a front of it
abbrev pub PutText : {E : Type 0} → Result Unit E → List ℕ → SinkMeaning → SinkMeaning → Type 0
PutText (Ok _) text old new = Takes text old new
PutText (Err _) text old new = TakesFront text old new

-- one turn: the command of the line was done, and its reply was put, whole or in part
pub record TurnDone {E : Type 0} (line : List ℕ) (result : Result Unit E) (from to : Moment) (sink later : SinkMeaning) : Type 0 where
  pub answer : Reply
  pub command : CommandDone line answer from to
  pub put : PutText result (text_of (calls_in to.store) answer) sink later
