-- The disk as plain data: fixed pages, contents written since the last barrier, and what a crash may leave.
use Rattle.std.specs.Prelude.{◌≡◌, ◌⊎◌, ℕ, List, [], ◌∷◌, ◌++◌, length, take, slice_get, slice_set, Some}
use Rattle.page_device.specs.declared.device.End.TheVariants.{Done, Refused, Taken}
use Rattle.page_device.specs.declared.device.LogEntry.{LogEntry}
use Rattle.page_device.specs.declared.device.LogEntry.TheVariants.{Write, Flush}
use Rattle.page_device.specs.Block.{Block}

-- the pages that are fixed, and the contents written since the last successful barrier, in order
pub record DeviceState : Type 0 where
  pub fixed : List Block
  pub since : List (ℕ × Block)

-- the pages with these contents written over them, in order
unfoldable pub overlay : List Block → List (ℕ × Block) → List Block
overlay pages [] = pages
overlay pages (write ∷ writes) = overlay (slice_set pages write.0 write.1) writes

-- what a read gives
abbrev pub newest : DeviceState → List Block
newest s = overlay s.fixed s.since

-- fixed pages, and nothing pending
abbrev pub at_rest : List Block → DeviceState
at_rest pages = record { fixed = pages; since = [] }

-- the content goes to the end of those written since
abbrev pub written : DeviceState → ℕ → Block → DeviceState
written s page block = record { fixed = s.fixed; since = s.since ++ (page, block) ∷ [] }

-- the newest contents are fixed
abbrev pub settled : DeviceState → DeviceState
settled s = at_rest (newest s)

-- further pages behind those that are there, fixed at once
abbrev pub with_room : DeviceState → List Block → DeviceState
with_room s more = record { fixed = s.fixed ++ more; since = s.since }

-- the state after one more entry of the log
unfoldable pub after : DeviceState → LogEntry → DeviceState
after s (Write page block Done) = written s page block
after s (Write page block Taken) = written s page block
after s (Write page block Refused) = s
after s (Flush Done) = settled s
after s (Flush Taken) = s
after s (Flush Refused) = s

-- the state after these entries
unfoldable pub state_after : DeviceState → List LogEntry → DeviceState
state_after s [] = s
state_after s (entry ∷ entries) = state_after (after s entry) entries

-- the content is one of those written to the page
unfoldable pub WasWritten : List (ℕ × Block) → ℕ → Block → Type 0
WasWritten [] page block = ⊥
WasWritten (write ∷ writes) page block = ((write.0 ≡ page) × (write.1 ≡ block)) ⊎ WasWritten writes page block

-- one page of an image: the fixed content, or one written since
abbrev pub MayHold : DeviceState → ℕ → Block → Type 0
MayHold s page block = (slice_get s.fixed page ≡ Some block) ⊎ WasWritten s.since page block

-- what a crash may leave: each page by itself
pub record IsImage (s : DeviceState) (image : List Block) : Type 0 where
  pub pages : length image ≡ length s.fixed
  pub each : (page : ℕ) (block : Block) → slice_get image page ≡ Some block → MayHold s page block

-- a crash after the first `k` calls of this log may leave the image
abbrev pub LeftAt : DeviceState → List LogEntry → ℕ → List Block → Type 0
LeftAt start log k image = IsImage (state_after start (take k log)) image
