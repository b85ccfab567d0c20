-- The turns of a session, one after another.
use Rattle.std.specs.Prelude.{◌≡◌, ◌≢◌, ℕ, ◌+◌, ◌<◌, ◌≤◌, ◌^◌, List, [], ◌∷◌, ◌++◌, length, map}
use Rattle.page_device.specs.Block.{Block}
use Rattle.page_device.specs.declared.error.Damage.{Damage}
use Rattle.page_device.specs.declared.device.LogEntry.{LogEntry}
use Rattle.page_device.specs.Counts.{raised}
use Rattle.page_device.specs.Disk.{DeviceState, newest, state_after}
use Rattle.page_device.specs.Meaning.{Meaning}
use Rattle.page_device.specs.Moments.{EachImage}
use Rattle.page_layout.specs.Tables.{shape_of, count_of}
use Rattle.trace_text.specs.declared.reply.Reply.{Reply}
use Rattle.trace_text.specs.declared.reply.Reply.TheVariants as reply
use Rattle.array_model.specs.Images.{EachPage, waste_of, stat_of}
use Rattle.array_model.specs.Turns.{Turn, Rules, Asks, FitsAskedWith}
use Rattle.dedup_writer.specs.Core.{calls_in}
use Rattle.dedup_writer.specs.Calls.{AllDone}
use Rattle.session.specs.Answers.{Moment, Does, rules_of, no_policies}

-- one turn, and the session before it, after its command, and after it
pub record Link : Type 0 where
  pub turn : Turn
  pub before : Moment
  pub middle : Moment
  pub after : Moment

-- The line asked for it, and it was done by the device calls of the turn; then nothing else was done, since no policy is built;
-- and the number of the turn is that of the device calls until then.
pub record Linked (link : Link) : Type 0 where
  pub asks : Asks (rules_of link.before.store) link.turn.line link.turn.asked
  pub does : Does link.turn.asked link.turn.answer link.turn.calls link.before link.middle
  pub idle : link.after ≡ link.middle
  pub number : link.turn.at ≡ calls_in link.after.store

-- turns from one moment to another, each from where the one before it ended
unfoldable pub IsChain : Moment → List Link → Moment → Type 0
IsChain from [] to = to ≡ from
IsChain from (link ∷ links) to = (link.before ≡ from) × Linked link × IsChain link.after links to

abbrev pub turns_of : List Link → List Turn
turns_of links = map (λ (link : Link). link.turn) links

-- each line asked for what was answered, and the reply fits whatever the blocks hold
unfoldable pub ArePlain : Rules → List Turn → Type 0
ArePlain rules [] = Unit {0}
ArePlain rules (turn ∷ turns) = Asks rules turn.line turn.asked × FitsAskedWith (λ block page. Unit {0}) rules no_policies turn.asked turn.answer × ArePlain rules turns

-- each reply
unfoldable pub EachAnswer : (Reply → Type 0) → List Turn → Type 0
EachAnswer P [] = Unit {0}
EachAnswer P (turn ∷ turns) = P turn.answer × EachAnswer P turns

-- the device calls of the turns
unfoldable pub turn_calls : List Turn → List LogEntry
turn_calls [] = []
turn_calls (turn ∷ turns) = turn.calls ++ turn_calls turns

-- the number of each turn counts the device calls until then, and stands still at the end of a `u64`
unfoldable pub AreNumbered : ℕ → List Turn → Type 0
AreNumbered at [] = Unit {0}
AreNumbered at (turn ∷ turns) = (turn.at ≡ raised at (length turn.calls)) × AreNumbered turn.at turns

-- it says of no table that it is damaged, and of no memory that it is missing; and a full store has so many live pages as there
-- are data pages
pub record IsSure (pages : ℕ) (r : Reply) : Type 0 where
  pub whole : (damage : Damage) → r ≢ reply.Damaged damage
  pub has_memory : r ≢ reply.NoMemory
  pub full : (live waste : ℕ) → r ≡ reply.Full live waste → live ≡ pages

-- how many replies say that the device failed
abbrev pub fault_count : Reply → ℕ
fault_count reply.Fault = 1
fault_count r = 0

unfoldable pub fault_replies : List Turn → ℕ
fault_replies [] = 0
fault_replies (turn ∷ turns) = fault_count turn.answer + fault_replies turns

-- the device counted each of them, unless its count is at its end
abbrev pub FaultsCounted : Meaning → Meaning → List Turn → Type 0
FaultsCounted d e turns = e.faults + 1 < 2 ^ 64 → d.faults + fault_replies turns ≤ e.faults

-- each data page is counted in the image
abbrev pub AllStored : List Block → Type 0
AllStored image = EachPage image (λ p. 1 ≤ count_of image p)

-- the numbers of the reply are those of the newest pages; and where it says that no data page is free, none is in any image that a
-- crash may leave then
abbrev pub NumbersHold : Reply → DeviceState → Type 0
NumbersHold (reply.Full live waste) s = EachImage AllStored s × (live ≡ (shape_of (newest s)).pages) × (waste ≡ waste_of (newest s))
NumbersHold (reply.Stat stat) s = stat ≡ stat_of (newest s)
NumbersHold r s = Unit {0}

-- as long as each device call of the turns ended `Done`, the numbers of each reply are those of the pages when its turn began, and
-- when it ended
unfoldable pub AreTold : List Link → Type 0
AreTold [] = Unit {0}
AreTold (link ∷ links) = AllDone link.turn.calls → NumbersHold link.turn.answer link.before.device.state × NumbersHold link.turn.answer link.after.device.state × AreTold links

-- the same of turns alone, from this state of the device on: the numbers of each reply are those of the pages before its device calls,
-- and after them
unfoldable pub NumbersAt : DeviceState → List Turn → Type 0
NumbersAt s [] = Unit {0}
NumbersAt s (turn ∷ turns) = NumbersHold turn.answer s × NumbersHold turn.answer (state_after s turn.calls) × NumbersAt (state_after s turn.calls) turns
