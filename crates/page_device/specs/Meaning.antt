-- What is known of a device, and what one call does to it.
use Rattle.std.specs.Prelude.{◌≡◌, ◌⊎◌, ℕ, ◌+◌, ◌-◌, ◌<◌, ◌≤◌, ◌^◌, Bool, true, List, [], ◌∷◌, ◌++◌, length, replicate, Result, Ok, Err, IsErr}
use Rattle.page_device.specs.declared.device.End.TheVariants.{Done, Refused, Taken}
use Rattle.page_device.specs.declared.device.LogEntry.{LogEntry}
use Rattle.page_device.specs.declared.device.LogEntry.TheVariants.{Write, Flush}
use Rattle.page_device.specs.declared.error.Failed.{Failed}
use Rattle.page_device.specs.Block.{Block, zero_block}
use Rattle.page_device.specs.Disk.{DeviceState, after, with_room}
use Rattle.page_device.specs.Counts.{Rises, raised}

-- what a device tells of itself
pub record Meaning : Type 0 where
  -- each read gives the newest content
  pub honest : Bool
  pub tells_pages : Bool
  pub tells_log : Bool
  pub tells_reads : Bool
  -- the number of pages, and the counts of faults, of write and flush calls, and of reads
  pub pages : ℕ
  pub faults : ℕ
  pub calls : ℕ
  pub reads : ℕ
  -- its pages, where it tells them
  pub state : DeviceState
  -- its write and flush calls, where it tells them
  pub log : List LogEntry

-- what no call changes
pub record SameKind (old new : Meaning) : Type 0 where
  pub honest : new.honest ≡ old.honest
  pub tells_pages : new.tells_pages ≡ old.tells_pages
  pub tells_log : new.tells_log ≡ old.tells_log
  pub tells_reads : new.tells_reads ≡ old.tells_reads

-- of one call or of many: an error is a counted fault; a count at its end may stand still
pub record HasCause {T E : Type 0} (result : Result T E) (old new : Meaning) : Type 0 where
  pub never_falls : old.faults ≤ new.faults
  pub failed : IsErr result → old.faults + 1 < 2 ^ 64 → old.faults < new.faults

-- the device counted a fault; a count at its end may stand still
abbrev pub FaultRose : Meaning → Meaning → Type 0
FaultRose old new = old.faults + 1 < 2 ^ 64 → old.faults < new.faults

-- an entry that ended refused, of whatever call
abbrev pub IsRefused : LogEntry → Type 0
IsRefused (Write page block end) = end ≡ Refused
IsRefused (Flush end) = end ≡ Refused

-- the entry of a write that answered so
abbrev pub WriteEntry : ℕ → Block → Result Unit Failed → LogEntry → Type 0
WriteEntry page block (Ok _) entry = entry ≡ Write page block Done
WriteEntry page block (Err _) entry = (entry ≡ Write page block Taken) ⊎ IsRefused entry

-- the entry of a barrier that answered so
abbrev pub FlushEntry : Result Unit Failed → LogEntry → Type 0
FlushEntry (Ok _) entry = entry ≡ Flush Done
FlushEntry (Err _) entry = IsRefused entry

-- its log has fewer entries than a `u64` counts
abbrev pub IsCounted : Meaning → Type 0
IsCounted m = length m.log + 1 < 2 ^ 64

-- the call that is this entry of the log, which grows by it alone
pub record OneCall (IsEntry : LogEntry → Type 0) (old new : Meaning) : Type 0 where
  pub entry : LogEntry
  pub is : IsEntry entry
  pub counted : Rises 1 old.calls new.calls
  pub grows : old.tells_log ≡ true → Rises 1 (length old.log) (length new.log)
  pub log : old.tells_log ≡ true → IsCounted new → new.log ≡ old.log ++ entry ∷ []
  pub state : old.tells_pages ≡ true → new.state ≡ after old.state entry
  pub reads : old.tells_reads ≡ true → new.reads ≡ old.reads
  pub pages : new.pages ≡ old.pages
  pub kind : SameKind old new

-- a read counts itself alone
pub record OneRead (old new : Meaning) : Type 0 where
  pub calls : new.calls ≡ old.calls
  pub log : old.tells_log ≡ true → new.log ≡ old.log
  pub state : old.tells_pages ≡ true → new.state ≡ old.state
  pub reads : old.tells_reads ≡ true → new.reads ≡ raised old.reads 1
  pub pages : new.pages ≡ old.pages
  pub kind : SameKind old new

-- nothing changed but, it may be, the count of faults
pub record IsUntouched (old new : Meaning) : Type 0 where
  pub calls : new.calls ≡ old.calls
  pub log : old.tells_log ≡ true → new.log ≡ old.log
  pub state : old.tells_pages ≡ true → new.state ≡ old.state
  pub reads : old.tells_reads ≡ true → new.reads ≡ old.reads
  pub pages : new.pages ≡ old.pages
  pub kind : SameKind old new

-- the device has at least so many pages now; those that came are zeros, and are fixed at once
pub record Grows (asked : ℕ) (old new : Meaning) : Type 0 where
  pub enough : asked ≤ new.pages
  pub never_fewer : old.pages ≤ new.pages
  pub already : old.tells_pages ≡ true → asked ≤ old.pages → new.pages ≡ old.pages
  pub state : old.tells_pages ≡ true → new.state ≡ with_room old.state (replicate (new.pages - old.pages) zero_block)
  pub log : old.tells_log ≡ true → new.log ≡ old.log
  pub calls : new.calls ≡ old.calls
  pub reads : old.tells_reads ≡ true → new.reads ≡ old.reads
  pub kind : SameKind old new
