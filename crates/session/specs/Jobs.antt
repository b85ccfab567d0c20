-- What words have done that are no session, by the status, in one record for each: formatting, a check, and words that are refused.
use Rattle.std.specs.Prelude.{◌≡◌, ◌⊎◌, ℕ, List}
use Rattle.byte_ports.specs.Source.{SourceMeaning}
use Rattle.byte_ports.specs.Sink.{SinkMeaning, Takes, TakesFront}
use Rattle.page_device.specs.Counts.{raised}
use Rattle.page_device.specs.Meaning.{Meaning, IsUntouched}
use Rattle.page_layout.specs.Shape.{ShapeView}
use Rattle.trace_text.specs.Texts.{formatted_line}
use Rattle.image_reader.specs.Looked.{Looked, Holds, Reads}
use Rattle.image_check.specs.declared.verdict.Verdict.{Verdict}
use Rattle.image_check.specs.declared.verdict.CheckError.{CheckError}
use Rattle.image_check.specs.Reads.{AtMost, reads_of}
use Rattle.image_check.specs.Verdicts.{CheckCause, IsUnsound, IsVerdict}
use Rattle.mount_reader.specs.Format.{Formats, IsFormatted}
use Rattle.session.specs.declared.status.Status.{Status}
use Rattle.session.specs.declared.status.Status.TheVariants.{Usage, SinkFault, DeviceFault, NoMemory}
use Rattle.session.specs.Statuses.{last_text, verdict_line}
use Rattle.session.specs.Opening.{unread_status}
use Rattle.session.specs.Run.{NoneDone, FormatOutcome, CheckOutcome}

-- what words of formatting, and of a check, have done
abbrev pub Formatting : ShapeView → Status → Meaning → Meaning → SourceMeaning → SourceMeaning → SinkMeaning → SinkMeaning → Type 0
Formatting shape status d d' source source' sink sink' = NoneDone status d d' source source' sink sink' ⊎ (FormatOutcome shape status d d' sink sink' × (source' ≡ source))

abbrev pub Checking : Status → Meaning → Meaning → SourceMeaning → SourceMeaning → SinkMeaning → SinkMeaning → Type 0
Checking status d d' source source' sink sink' = NoneDone status d d' source source' sink sink' ⊎ (CheckOutcome status d d' sink sink' × (source' ≡ source))

-- Status 0 of formatting: there is the new image, made by exactly the calls of a formatting, no fault was counted, and its line was put.
pub record FormattedDevice (shape : ShapeView) (d d' : Meaning) (source source' : SourceMeaning) (sink sink' : SinkMeaning) : Type 0 where
  pub image : IsFormatted shape d d'
  pub calm : d'.faults ≡ d.faults
  pub nothing_read : source' ≡ source
  pub put : Takes (formatted_line shape.blocks shape.pages) sink sink'

-- Status 5 of formatting: the device counted one fault, and nothing was done, or a part of it.
pub record FailedFormat (shape : ShapeView) (d d' : Meaning) (source source' : SourceMeaning) (sink sink' : SinkMeaning) : Type 0 where
  pub fault : d'.faults ≡ raised d.faults 1
  pub partway : IsUntouched d d' ⊎ Formats shape d d'
  pub nothing_read : source' ≡ source
  pub put : Takes (last_text DeviceFault) sink sink'

-- Status 4 of formatting: a front of a line was put, where there was no memory to begin, after the new image was there, or after a fault.
pub data CutFormat (shape : ShapeView) (d d' : Meaning) (source source' : SourceMeaning) (sink sink' : SinkMeaning) : Type 0 where
  at_start : d' ≡ d → source' ≡ source → TakesFront (last_text NoMemory) sink sink' → CutFormat shape d d' source source' sink sink'
  at_line : IsFormatted shape d d' → d'.faults ≡ d.faults → source' ≡ source → TakesFront (formatted_line shape.blocks shape.pages) sink sink' → CutFormat shape d d' source source' sink sink'
  at_fault : d'.faults ≡ raised d.faults 1 → IsUntouched d d' ⊎ Formats shape d d' → source' ≡ source → TakesFront (last_text DeviceFault) sink sink' → CutFormat shape d d' source source' sink sink'

-- Statuses 0 and 6 of a check, by what was found: it is what the image is, and its line was put; the device was only looked at, by so
-- many reads.
pub record CheckedImage (found : Verdict) (d d' : Meaning) (source source' : SourceMeaning) (sink sink' : SinkMeaning) : Type 0 where
  pub verdict : Holds (IsVerdict found) d
  pub unsound : IsUnsound found d
  pub reads : Holds (λ image. Reads (reads_of found image) d d') d
  pub looked : Looked d d'
  pub nothing_read : source' ≡ source
  pub put : Takes (verdict_line found) sink sink'

-- Statuses 5, 6 and 7 of a check that could not be made: it has this cause, and its line was put; the device was only looked at.
pub record UncheckedImage (status : Status) (d d' : Meaning) (source source' : SourceMeaning) (sink sink' : SinkMeaning) : Type 0 where
  pub why : CheckError
  pub is : unread_status why ≡ status
  pub cause : CheckCause why d d'
  pub looked : Looked d d'
  pub few : AtMost d'.pages d d'
  pub nothing_read : source' ≡ source
  pub put : Takes (last_text status) sink sink'

-- Status 4 of a check: a front of a line was put, where there was no memory to begin, of a verdict, or of why there is none.
pub data CutCheck (d d' : Meaning) (source source' : SourceMeaning) (sink sink' : SinkMeaning) : Type 0 where
  at_start : d' ≡ d → source' ≡ source → TakesFront (last_text NoMemory) sink sink' → CutCheck d d' source source' sink sink'
  at_verdict : (found : Verdict) → Holds (IsVerdict found) d → IsUnsound found d → Holds (λ image. Reads (reads_of found image) d d') d → Looked d d' → source' ≡ source → TakesFront (verdict_line found) sink sink' → CutCheck d d' source source' sink sink'
  at_cause : (why : CheckError) → CheckCause why d d' → Looked d d' → AtMost d'.pages d d' → source' ≡ source → TakesFront (last_text (unread_status why)) sink sink' → CutCheck d d' source source' sink sink'

-- Status 7 before anything was done.
pub record NothingDone (d d' : Meaning) (source source' : SourceMeaning) (sink sink' : SinkMeaning) : Type 0 where
  pub same_device : d' ≡ d
  pub same_source : source' ≡ source
  pub put : Takes (last_text NoMemory) sink sink'

-- Words that mean no job, or one that is not built: nothing was done but, where there was no memory for the words, that its line was put.
pub record RefusedWords (status : Status) (d d' : Meaning) (source source' : SourceMeaning) (sink sink' : SinkMeaning) : Type 0 where
  pub ends_as : (status ≡ Usage) ⊎ (status ≡ NoMemory) ⊎ (status ≡ SinkFault)
  pub same_device : d' ≡ d
  pub same_source : source' ≡ source
  pub usage : status ≡ Usage → sink' ≡ sink
  pub memory : status ≡ NoMemory → Takes (last_text NoMemory) sink sink'
  pub cut : status ≡ SinkFault → TakesFront (last_text NoMemory) sink sink'
