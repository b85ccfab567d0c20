-- A device in memory as plain data: what callers see of it, and how its start is found again.
use Rattle.std.specs.Prelude.{◌≡◌, ◌⊎◌, ℕ, suc, cond, nat_le, ◌+◌, ◌-◌, ◌<◌, ◌≤◌, ◌==◌, Bool, true, false, List, [], ◌∷◌, ◌++◌, length, replicate, reverse, find, slice_set, Option, None, IsSome, Result, IsOk, IsErr}
use Rattle.std.specs.Option.{option_map}
use Rattle.std.specs.List.{list_any}
use Rattle.page_device.specs.declared.device.End.TheVariants.{Done, Refused, Taken}
use Rattle.page_device.specs.declared.device.LogEntry.{LogEntry}
use Rattle.page_device.specs.declared.device.LogEntry.TheVariants.{Write, Flush}
use Rattle.page_device.specs.declared.memory.Lie.{Lie}
use Rattle.page_device.specs.declared.memory.Plan.{Plan}
use Rattle.page_device.specs.Block.{Block}
use Rattle.page_device.specs.Counts.{raised}
use Rattle.page_device.specs.Disk.{state_after, at_rest, newest}
use Rattle.page_device.specs.Possible.{length-state_after}

-- a call whose entry found no memory
abbrev pub lost_call : LogEntry
lost_call = Flush Refused

-- each kept entry, behind the calls directly before it for which no memory was found
unfoldable pub entries_of : List LogEntry → List ℕ → List LogEntry
entries_of [] lost_before = []
entries_of (entry ∷ entries) [] = entry ∷ entries
entries_of (entry ∷ entries) (lost ∷ lost_before) = replicate lost lost_call ++ entry ∷ entries_of entries lost_before

-- of entries that so many lost calls stand before, how many are among the first `at` calls
unfoldable pub kept_at : List ℕ → ℕ → ℕ
kept_at [] at = 0
kept_at (lost ∷ lost_before) at = cond (nat_le at lost) 0 (suc (kept_at lost_before (at - lost - 1)))

-- a log: all calls in order, those that were kept, and for how many more there is room
pub record LogView : Type 0 where
  pub all : List LogEntry
  pub kept : List LogEntry
  pub spare : ℕ

-- the pages of the writes that were taken, in order
unfoldable pub taken_pages : List LogEntry → List ℕ
taken_pages [] = []
taken_pages (Write page block Done ∷ entries) = page ∷ taken_pages entries
taken_pages (Write page block Taken ∷ entries) = page ∷ taken_pages entries
taken_pages (Write page block Refused ∷ entries) = taken_pages entries
taken_pages (Flush end ∷ entries) = taken_pages entries

-- the pages before these writes, each of which replaced the content beside it
unfoldable pub undone : List Block → List ℕ → List Block → List Block
undone pages [] replaced = pages
undone pages (page ∷ taken) [] = pages
undone pages (page ∷ taken) (block ∷ replaced) = slice_set (undone pages taken replaced) page block

-- each of these pages is below n
unfoldable pub AllBelow : List ℕ → ℕ → Type 0
AllBelow [] n = Unit {0}
AllBelow (page ∷ taken) n = (page < n) × AllBelow taken n

-- what callers see of a device in memory
pub record MemoryView : Type 0 where
  -- the pages that it began with, and those that `room` added
  pub start : List Block
  -- all write and flush calls, and those of them that the log shows
  pub all : List LogEntry
  pub kept : List LogEntry
  -- for how many further calls there is room in the log
  pub spare : ℕ
  -- what is planned for writes and barriers, for reads and for calls of `room`
  pub plans : List Plan
  pub failing_reads : List ℕ
  pub failing_rooms : List ℕ
  pub lies : List Lie
  pub calls : ℕ
  pub faults : ℕ
  pub reads : ℕ
  pub rooms : ℕ

-- a device that begins with these pages, and with nothing planned
abbrev pub beginning : List Block → MemoryView
beginning pages = record {
  start = pages;
  all = [];
  kept = [];
  spare = 0;
  plans = [];
  failing_reads = [];
  failing_rooms = [];
  lies = [];
  calls = 0;
  faults = 0;
  reads = 0;
  rooms = 0;
}

-- the latest plan for a call, counted from 1: whether its content is taken
abbrev pub plan_for : List Plan → ℕ → Option Bool
plan_for plans call = option_map (λ (p : Plan). p.taken) (find (λ (p : Plan). p.call == call) (reverse plans))

-- a read or a `room`, counted from 1, is planned to fail
abbrev pub fails_at : List ℕ → ℕ → Bool
fails_at plans call = list_any (λ plan. plan == call) plans

-- the latest lie for a read, counted from 1
abbrev pub lie_for : List Lie → ℕ → Option Block
lie_for lies read = option_map (λ (l : Lie). l.page) (find (λ (l : Lie). l.read == read) (reverse lies))

-- each read tells the truth
abbrev pub tells_truth : List Lie → Bool
tells_truth [] = true
tells_truth (lie ∷ lies) = false

-- one more entry of the log
abbrev pub with_entry : MemoryView → LogEntry → MemoryView
with_entry m entry = record m { all = m.all ++ entry ∷ []; kept = m.kept ++ entry ∷ []; spare = m.spare - 1 }

-- an entry that leaves each newest content
abbrev pub IsQuiet : LogEntry → Type 0
IsQuiet (Write page block end) = end ≡ Refused
IsQuiet (Flush end) = Unit {0}

-- a write or barrier fails where it is planned, and only there where there was room for its entry
pub record FollowsPlan {E : Type 0} (result : Result Unit E) (old new : MemoryView) : Type 0 where
  pub calls : new.calls ≡ raised old.calls 1
  pub plans : new.plans ≡ old.plans
  pub spare : old.spare ≤ new.spare + 1
  pub planned : IsSome (plan_for old.plans new.calls) → IsErr result
  pub unplanned : plan_for old.plans new.calls ≡ None → 0 < old.spare → IsOk result

-- The log shows an entry of this kind, or lost it where there was no room for it. Beside the log and the counts nothing changed:
-- not the start, nor what is planned for reads, for calls of `room` and for lies, nor their counts.
pub record ShowsCall (IsEntry : LogEntry → Type 0) (old new : MemoryView) : Type 0 where
  pub frame : new ≡ record old { all = new.all; kept = new.kept; spare = new.spare; calls = new.calls; faults = new.faults }
  pub kept : ((new.kept ≡ old.kept) × (old.spare ≡ 0))
      ⊎ ((entry : LogEntry) × (IsEntry entry × ((new.kept ≡ old.kept ++ entry ∷ []) × (new.all ≡ old.all ++ entry ∷ []))))

-- the number of pages is that of its start
pub pages_stay : (m : MemoryView) → length (state_after (at_rest m.start) m.all).fixed ≡ length m.start
pages_stay m = length-state_after (at_rest m.start) m.all

-- how the pages stand to what was replaced and to the log
pub record IsConsistent (pages replaced : List Block) (kept all : List LogEntry) : Type 0 where
  pub few : length pages < 4294967296
  pub as_many : length replaced ≡ length (taken_pages kept)
  pub below : AllBelow (taken_pages kept) (length pages)
  pub all_below : AllBelow (taken_pages all) (length pages)
  pub newest_is : pages ≡ newest (state_after (at_rest (undone pages (taken_pages kept) replaced)) all)

-- the room for entries is there in the log and beside it
pub record HasSpare (spare log_spare replaced capacity : ℕ) : Type 0 where
  pub log : spare ≤ log_spare
  pub beside : spare + replaced ≤ capacity
