-- The words of the sentences.
use Rattle.std.specs.Prelude.{◌≡◌, ◌⊎◌, ℕ, zero, suc, ◌+◌, ◌<◌, ◌≤◌, ◌^◌, true, List, [], ◌++◌, length}
use Rattle.byte_ports.specs.Source.{SourceMeaning}
use Rattle.byte_ports.specs.Sink.{SinkMeaning, Takes}
use Rattle.page_device.specs.Block.{Block}
use Rattle.page_device.specs.Gains.{IsLeft}
use Rattle.page_device.specs.Meaning.{Meaning, IsCounted}
use Rattle.page_device.specs.declared.device.LogEntry.{LogEntry}
use Rattle.page_layout.specs.Tables.{shape_of}
use Rattle.array_model.specs.Images.{IsFit, fit, block_of}
use Rattle.array_model.specs.Array.{IsAmong, array_start}
use Rattle.array_model.specs.Turns.{Turn, IsRun, lines_in, lines_of, texts, calls_of_works, contents_at}
use Rattle.trace_text.specs.declared.reply.Reply.{Reply}
use Rattle.trace_text.specs.Texts.{text_of}
use Rattle.mount_reader.specs.Format.{MayBePartway, with_pages}
use Rattle.session.specs.declared.status.Status.{Status}
use Rattle.session.specs.declared.status.Status.TheVariants.{NoMemory}
use Rattle.session.specs.Statuses.{last_text}
use Rattle.session.specs.Endings.{EndsAs}
use Rattle.session.specs.Session.{closed, start_rules, start_state, works_done}
use Rattle.session.specs.Run.{new_shape, session_start}

-- so many texts of replies
unfoldable pub AreTexts : ℕ → List ℕ → Type 0
AreTexts zero bytes = bytes ≡ []
AreTexts (suc n) bytes = (at : ℕ) × (r : Reply) × (rest : List ℕ) × (bytes ≡ text_of at r ++ rest) × AreTexts n rest

abbrev pub PutsTexts : ℕ → List ℕ → List ℕ → Type 0
PutsTexts n old new = (bytes : List ℕ) × (new ≡ old ++ bytes) × AreTexts n bytes

-- The sink took the text of this reply and no other byte; its number is at most the number of entries that the log gained.
pub record PutsReply (r : Reply) (d d' : Meaning) (sink sink' : SinkMeaning) : Type 0 where
  pub at : ℕ
  pub held : sink'.held ≡ sink.held ++ text_of at r
  pub made : d.tells_log ≡ true → IsCounted d' → length d.log + at ≤ length d'.log

-- a crash after any number of the device calls that were made leaves a fit image
abbrev pub LeavesFit : Meaning → Meaning → Type 0
LeavesFit d d' = (image : List Block) → IsLeft d d' image → IsFit image

-- a front of one text for each of the first lines of the input and a last line behind them was put: one of a session, or there is no text
pub record PutsFront (source : SourceMeaning) (old new : List ℕ) : Type 0 where
  pub front : List ℕ
  pub rest : List ℕ
  pub n : ℕ
  pub held : new ≡ old ++ front
  pub replies : List ℕ
  pub texts : AreTexts n replies
  pub few : source.tells ≡ true → n ≤ length (lines_in source.left)
  pub last : Status
  pub ends : (n ≡ 0) ⊎ EndsAs last
  pub split : replies ++ last_text last ≡ front ++ rest

-- The sink took two texts and no other byte. Where the log is told, it gained the calls of the first turn, those of the second, and more;
-- and the numbers in the texts are those of the log entries that it had gained at the ends of the two turns.
pub record PutsTwo (r q : Reply) (d d' : Meaning) (sink sink' : SinkMeaning) : Type 0 where
  pub first : ℕ
  pub second : ℕ
  pub held : sink'.held ≡ sink.held ++ text_of first r ++ text_of second q
  pub rises : first ≤ second
  pub one : List LogEntry
  pub two : List LogEntry
  pub more : List LogEntry
  pub log : d.tells_log ≡ true → IsCounted d' → d'.log ≡ d.log ++ one ++ two ++ more
  pub first_is : d.tells_log ≡ true → IsCounted d' → first ≡ length one
  pub second_is : d.tells_log ≡ true → IsCounted d' → second ≡ length one + length two

-- the sink took the texts of these three replies, the second with this number, and no other byte
pub record PutsThree (p q r : Reply) (second : ℕ) (sink sink' : SinkMeaning) : Type 0 where
  pub first : ℕ
  pub third : ℕ
  pub held : sink'.held ≡ sink.held ++ (text_of first p ++ (text_of second q ++ text_of third r))

-- the same of a device that is being formatted: room is made first, and each page that comes is zeros then
abbrev pub IsLeftInFormat : Meaning → Meaning → List Block → Type 0
IsLeftInFormat d d' image = IsLeft (with_pages d d'.pages) d' image

-- a crash within the formatting of four blocks leaves an image of what was there, page 0 of zeros, or the new image; and old data pages
abbrev pub LeavesPartway : Meaning → Meaning → Type 0
LeavesPartway d d' = (image : List Block) → IsLeftInFormat d d' image → MayBePartway (new_shape 4 4) (with_pages d d'.pages).state image

-- it ended with this status and this line, or there was no memory, which was said
abbrev pub TellsOf : Status → List ℕ → Status → SinkMeaning → SinkMeaning → Type 0
TellsOf wanted line status sink sink' = ((status ≡ wanted) × (sink'.held ≡ sink.held ++ line)) ⊎ ((status ≡ NoMemory) × (sink'.held ≡ sink.held ++ last_text NoMemory))

-- A session over the image of a device that ended with status 0: these turns are a run over its array, answer the lines of the input, and
-- their texts were put; they and a closing flush made the device calls, and nothing else did. A crash after any number of those leaves each
-- block one of the contents that it may read then.
pub record ReadsAllowed (d d' : Meaning) (input : List ℕ) (sink sink' : SinkMeaning) : Type 0 where
  pub turns : List Turn
  pub close : List LogEntry
  pub lines : lines_of turns ≡ lines_in input
  pub put : Takes (texts turns) sink sink'
  pub run : IsRun (start_rules (session_start fit d)) (start_state (session_start fit d)) 0 turns
  pub made : IsCounted d' → d'.log ≡ d.log ++ calls_of_works fit (start_rules (session_start fit d)) (works_done turns (closed close))
  pub reads : IsCounted d' → (image : List Block) → (left : IsLeft d d' image) → (block : ℕ) → block < (shape_of d.state.fixed).blocks
      → IsAmong (block_of image block) (contents_at fit (start_rules (session_start fit d)) (array_start d.state.fixed) (works_done turns (closed close)) left.k block)
