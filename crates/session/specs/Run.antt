-- What the program promises.
use Rattle.std.specs.Prelude.{◌≡◌, ◌≢◌, ◌⊎◌, ℕ, ◌≤◌, true, List}
use Rattle.byte_ports.specs.Source.{SourceMeaning}
use Rattle.byte_ports.specs.Sink.{SinkMeaning}
use Rattle.page_device.specs.Disk.{at_rest}
use Rattle.page_device.specs.Meaning.{Meaning, IsUntouched}
use Rattle.page_layout.specs.Shape.{ShapeView, first_data_page}
use Rattle.cli_words.specs.Grammar.{Means}
use Rattle.cli_words.specs.declared.jobs.Job.{Job}
use Rattle.cli_words.specs.declared.jobs.Job.TheVariants as job
use Rattle.array_model.specs.Images.{Mode, IsFit, IsGood}
use Rattle.array_model.specs.Array.{array_start}
use Rattle.page_layout.specs.Tables.{shape_of}
use Rattle.dedup_writer.specs.Core.{shape_in, calls_in}
use Rattle.session.specs.Answers.{Moment, shape_rules}
use Rattle.session.specs.Chain.{turns_of, ArePlain, EachAnswer, IsSure, FaultsCounted}
use Rattle.session.specs.Session.{Start, Kept, IsTold}
use Rattle.page_device.specs.Counts.{raised}
use Rattle.session.specs.declared.status.Status.{Status}
use Rattle.session.specs.declared.status.Status.TheVariants.{Done, Usage, DeviceFault, NoMemory}
use Rattle.image_reader.specs.Looked.{Looked, Holds, Reads, TellsShape}
use Rattle.mount_reader.specs.declared.error.MountError.{MountError}
use Rattle.mount_reader.specs.Mount.{MountCause, IsRefusal}
use Rattle.image_check.specs.declared.verdict.Verdict.{Verdict}
use Rattle.image_check.specs.declared.verdict.CheckError.{CheckError}
use Rattle.image_check.specs.Reads.{AtMost, reads_of}
use Rattle.image_check.specs.Verdicts.{CheckCause, IsUnsound, IsVerdict}
use Rattle.trace_text.specs.Texts.{formatted_line}
use Rattle.session.specs.Statuses.{verdict_line}
use Rattle.mount_reader.specs.Format.{Formats, IsFormatted}
use Rattle.session.specs.Opening.{mount_status, unread_status, verdict_status}
use Rattle.session.specs.Endings.{LastPut, LinePut, EndsAs, Answered}

-- the words ask for a job that is built: a session with the policy 0, a new image, or a check
pub data AsksFor (words : List (List ℕ)) : Type 0 where
  a_session : (cache : ℕ) → Means words (job.Trace cache 0) → AsksFor words
  an_image : (blocks pages : ℕ) → Means words (job.Format blocks pages) → AsksFor words
  a_check : Means words job.Check → AsksFor words

-- the image was not opened: the device was only looked at, and the last line of the cause was put
pub record Unopened (status : Status) (d d' : Meaning) (source source' : SourceMeaning) (sink sink' : SinkMeaning) : Type 0 where
  pub why : MountError
  pub cause : MountCause why d d'
  pub not_fit : IsRefusal why d
  pub looked : Looked d d'
  pub nothing_read : source' ≡ source
  pub last_line : LastPut (mount_status why) status sink sink'

-- an honest device that tells its pages, with nothing pending
pub record IsReady (d : Meaning) : Type 0 where
  pub honest : d.honest ≡ true
  pub tells_pages : d.tells_pages ≡ true
  pub rest : d.state ≡ at_rest d.state.fixed

-- where a session over the image of a device begins
abbrev pub session_start : Mode → Meaning → Start
session_start mode d = record { mode = mode; array = array_start d.state.fixed; shape = shape_of d.state.fixed; at = 0; device = d }

-- The image was opened, and a session served over it. Over whatever device: page 0 and each table page were read once, where reads
-- are told; the store that was opened has the shape that page 0 told, and had made no device call; these bytes were taken, and these turns answer their lines; each reply fits but for the contents
-- of blocks, and the device counted each `fault`. And over an honest device that tells its pages and has nothing pending, from the
-- array of its image, which is good in this mode: what `Kept` says, and the numbers.
pub record Opened (status : Status) (d d' : Meaning) (source source' : SourceMeaning) (sink sink' : SinkMeaning) : Type 0 where
  pub shape : ShapeView
  pub told : Holds (TellsShape shape) d
  pub fit : Holds IsFit d
  pub status_is : EndsAs status
  pub first : Moment
  pub looked : Looked d first.device
  pub falls : d.faults ≤ first.device.faults
  pub reads : Reads (first_data_page shape) d first.device
  pub first_shape : shape_in first.store ≡ shape
  pub first_calls : calls_in first.store ≡ 0
  pub answered : Answered (record { moment = first; sink = sink }) status d' source source' sink'
  pub plain : ArePlain (shape_rules shape) (turns_of answered.links)
  pub sure : EachAnswer (IsSure shape.pages) (turns_of answered.links)
  pub faulted : FaultsCounted d d' (turns_of answered.links)
  pub kept : IsReady d → (mode : Mode) → IsGood mode d.state.fixed → Kept (session_start mode d) (turns_of answered.links) answered.close d'
  pub counted : IsReady d → IsTold d answered.links answered.close d'

-- what a session over the image of a device does
pub data TraceOutcome (status : Status) (d d' : Meaning) (source source' : SourceMeaning) (sink sink' : SinkMeaning) : Type 0 where
  unopened : Unopened status d d' source source' sink sink' → TraceOutcome status d d' source source' sink sink'
  opened : Opened status d d' source source' sink sink' → TraceOutcome status d d' source source' sink sink'

-- the shape of a new image
abbrev pub new_shape : ℕ → ℕ → ShapeView
new_shape blocks pages = record { blocks = blocks; pages = pages; version = 1 }

-- what formatting a device does: there is the new image, no fault was counted, and its line was put; or the device counted one fault,
-- and the last line of it was put
pub data FormatOutcome (shape : ShapeView) (status : Status) (d d' : Meaning) (sink sink' : SinkMeaning) : Type 0 where
  formatted : IsFormatted shape d d' → d'.faults ≡ d.faults → LinePut (formatted_line shape.blocks shape.pages) Done status sink sink' → FormatOutcome shape status d d' sink sink'
  failed : d'.faults ≡ raised d.faults 1 → IsUntouched d d' ⊎ Formats shape d d' → LastPut DeviceFault status sink sink' → FormatOutcome shape status d d' sink sink'

-- how a check ends: with a verdict, which is another one than sound only of an image that is not sound, so many reads, and its line; or
-- with the last line of why the image can't be checked
pub data CheckEnd (status : Status) (d d' : Meaning) (sink sink' : SinkMeaning) : Type 0 where
  checked : (found : Verdict) → Holds (IsVerdict found) d → IsUnsound found d → Holds (λ image. Reads (reads_of found image) d d') d → LinePut (verdict_line found) (verdict_status found) status sink sink' → CheckEnd status d d' sink sink'
  unread : (why : CheckError) → CheckCause why d d' → LastPut (unread_status why) status sink sink' → CheckEnd status d d' sink sink'

-- what a check does: the device is only looked at, and read at most as often as it has pages
pub record CheckOutcome (status : Status) (d d' : Meaning) (sink sink' : SinkMeaning) : Type 0 where
  pub looked : Looked d d'
  pub few : AtMost d'.pages d d'
  pub ended : CheckEnd status d d' sink sink'

-- there was no memory before anything was done
pub record NoneDone (status : Status) (d d' : Meaning) (source source' : SourceMeaning) (sink sink' : SinkMeaning) : Type 0 where
  pub same_device : d' ≡ d
  pub same_source : source' ≡ source
  pub last_line : LastPut NoMemory status sink sink'

-- the words were refused, and nothing was done
pub record Refuses (status : Status) (d d' : Meaning) (source source' : SourceMeaning) (sink sink' : SinkMeaning) : Type 0 where
  pub is : status ≡ Usage
  pub same_device : d' ≡ d
  pub same_source : source' ≡ source
  pub same_sink : sink' ≡ sink

-- what is done for a job: a session with the policy 0, a new image, or a check; no other job is built
abbrev pub JobOutcome : Job → Status → Meaning → Meaning → SourceMeaning → SourceMeaning → SinkMeaning → SinkMeaning → Type 0
JobOutcome (job.Trace cache policy) status d d' source source' sink sink' = (policy ≡ 0 → TraceOutcome status d d' source source' sink sink') × (policy ≢ 0 → Refuses status d d' source source' sink sink')
JobOutcome (job.Format blocks pages) status d d' source source' sink sink' = FormatOutcome (new_shape blocks pages) status d d' sink sink' × (source' ≡ source)
JobOutcome job.Check status d d' source source' sink sink' = CheckOutcome status d d' sink sink' × (source' ≡ source)
JobOutcome other status d d' source source' sink sink' = Refuses status d d' source source' sink sink'

-- a job that is not built
abbrev pub IsOther : Job → Type 0
IsOther (job.Trace cache policy) = policy ≢ 0
IsOther (job.Format blocks pages) = ⊥
IsOther job.Check = ⊥
IsOther other = Unit {0}

-- what the program does: what its words mean, or nothing where they mean no job
pub record Outcome (words : List (List ℕ)) (status : Status) (d d' : Meaning) (source source' : SourceMeaning) (sink sink' : SinkMeaning) : Type 0 where
  pub done : (j : Job) → Means words j → NoneDone status d d' source source' sink sink' ⊎ JobOutcome j status d d' source source' sink sink'
  pub refused : ((j : Job) → ¬ Means words j) → NoneDone status d d' source source' sink sink' ⊎ Refuses status d d' source source' sink sink'
