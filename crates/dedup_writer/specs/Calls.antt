-- What one call of a store does.
use Rattle.std.specs.Prelude.{◌≡◌, ℕ, ◌+◌, ◌≤◌, List, [], ◌∷◌, ◌++◌, length, slice_set, true, false, if◌then◌else◌, Option, Result, Ok, Err, IsErr, is_err}
use Rattle.page_device.specs.Block.{Block, zero_block}
use Rattle.page_device.specs.declared.error.Damage.{Damage}
use Rattle.page_device.specs.declared.error.Failed.{Failed}
use Rattle.page_device.specs.Meaning.{Meaning, FaultRose}
use Rattle.page_device.specs.declared.device.End.TheVariants as end
use Rattle.page_device.specs.declared.device.LogEntry.{LogEntry}
use Rattle.page_device.specs.declared.device.LogEntry.TheVariants as entry
use Rattle.page_device.specs.Faults.{IsCalm}
use Rattle.page_device.specs.Gains.{Gains}
use Rattle.page_device.specs.Moments.{EachMoment}
use Rattle.page_layout.specs.Numbers.{SetsEntry}
use Rattle.page_layout.specs.Shape.{map_page, map_place, count_page, count_place}
use Rattle.page_layout.specs.Tables.{page_of}
use Rattle.array_model.specs.Images.{Mode, left_mode}
use Rattle.array_model.specs.Array.{BlockArray, MayBeLeft, gained, flushed, maps, writes_nothing}
use Rattle.dedup_writer.specs.declared.store.Refusal.{Refusal}
use Rattle.dedup_writer.specs.declared.store.Refusal.TheVariants.{Range, Device, Damaged, Full, NoMemory}
use Rattle.dedup_writer.specs.Core.{CoreView, shape_in, stat_in, calls_in, map_index, count_index, cached_count, is_pending, CountsCalls}
use Rattle.dedup_writer.specs.Put.{PutsCounted}
use Rattle.dedup_writer.specs.Stands.{StandsFor, IsInStep}

-- the call did not end `Done`
abbrev pub IsUndone : LogEntry → Type 0
IsUndone (entry.Write page block end.Done) = ⊥
IsUndone (entry.Write page block end.Taken) = Unit {0}
IsUndone (entry.Write page block end.Refused) = Unit {0}
IsUndone (entry.Flush end.Done) = ⊥
IsUndone (entry.Flush end.Taken) = Unit {0}
IsUndone (entry.Flush end.Refused) = Unit {0}

-- each of them ended `Done`
unfoldable pub AllDone : List LogEntry → Type 0
AllDone [] = Unit {0}
AllDone (e ∷ calls) = (IsUndone e → ⊥) × AllDone calls

-- Over an array for which the store stood: the array for which it stands now, what a crash at any moment of these device calls
-- leaves, and that the tables are still those of the device where they were and each of the calls ended `Done`.
pub record StoreCall (mode : Mode) (calls : List LogEntry) (old new : CoreView) (d e : Meaning) (a later : BlockArray) (written : ℕ → Option Block) : Type 0 where
  pub stands : StandsFor mode new e later
  pub each : EachMoment (MayBeLeft (left_mode mode) (shape_in old).blocks a written) d.state calls
  pub in_step : AllDone calls → IsInStep old d → IsInStep new e

-- What a call of a store does. Over whatever device: the device calls that it made, and no others, that it counted them, and that
-- each ended `Done` where the device counted no fault. And over each array for which the store stood: what `StoreCall` says, with the
-- array after it, and what it writes.
pub record Called (old new : CoreView) (d e : Meaning) (next : BlockArray → BlockArray) (written : BlockArray → ℕ → Option Block) : Type 0 where
  pub calls : List LogEntry
  pub gains : Gains calls d e
  pub counted : CountsCalls (length calls) (calls_in old) (calls_in new)
  pub shape : shape_in new ≡ shape_in old
  pub falls : d.faults ≤ e.faults
  pub calm : IsCalm d e → AllDone calls
  pub over : (mode : Mode) (a : BlockArray) → StandsFor mode old d a → StoreCall mode calls old new d e a (next a) (written a)

-- the array after a write over an image of this version, which answered so
abbrev pub after_write : {E : Type 0} → Result Unit E → ℕ → BlockArray → ℕ → Block → BlockArray
after_write (Ok _) version a block content = gained a block content (maps version content)
after_write (Err _) version a block content = a

-- the array after a discard that answered so
abbrev pub after_discard : {E : Type 0} → Result Unit E → BlockArray → ℕ → BlockArray
after_discard (Ok _) a block = gained a block zero_block false
after_discard (Err _) a block = a

-- the array after a flush that answered so
abbrev pub after_flush : {E : Type 0} → Result Unit E → BlockArray → BlockArray
after_flush (Ok _) a = flushed a
after_flush (Err _) a = a

-- every data page is counted
abbrev pub AllCounted : CoreView → Type 0
AllCounted core = (p : ℕ) → 1 ≤ p → p ≤ (shape_in core).pages → 1 ≤ cached_count core.tables p

-- Why a call is refused. This body never finds a malformed entry, since it reads no table page, and takes no memory.
abbrev pub IsDamaged : Damage → CoreView → Meaning → Meaning → Type 0
IsDamaged damage core old new = ⊥

abbrev pub LacksMemory : CoreView → Type 0
LacksMemory core = ⊥

-- every data page is counted, and these are the numbers
abbrev pub IsFullWith : ℕ → ℕ → CoreView → Type 0
IsFullWith live more core = (live ≡ (shape_in core).pages) × (more ≡ (stat_in core).waste) × AllCounted core

abbrev pub WriteCause : Refusal → ℕ → CoreView → Meaning → Meaning → Type 0
WriteCause Range block core old new = (shape_in core).blocks ≤ block
WriteCause Device block core old new = FaultRose old new
WriteCause (Damaged damage) block core old new = IsDamaged damage core old new
WriteCause (Full live more) block core old new = IsFullWith live more core
WriteCause NoMemory block core old new = LacksMemory core

-- a read and a discard are never refused for want of a data page
abbrev pub TableCause : Refusal → ℕ → CoreView → Meaning → Meaning → Type 0
TableCause Range block core old new = (shape_in core).blocks ≤ block
TableCause Device block core old new = FaultRose old new
TableCause (Damaged damage) block core old new = IsDamaged damage core old new
TableCause (Full live more) block core old new = ⊥
TableCause NoMemory block core old new = LacksMemory core

abbrev pub IsFull : Refusal → Type 0
IsFull (Full live waste) = Unit {0}
IsFull why = ⊥

-- refused before anything was done
abbrev pub ComesFirst : Refusal → Type 0
ComesFirst Range = Unit {0}
ComesFirst (Full live waste) = Unit {0}
ComesFirst why = ⊥

-- it did nothing, where it was refused so
abbrev pub IsQuietIf : {E : Type 0} → Result E Refusal → CoreView → CoreView → Meaning → Meaning → Type 0
IsQuietIf (Ok _) old new d e = Unit {0}
IsQuietIf (Err why) old new d e = ComesFirst why → (new ≡ old) × (e ≡ d)

-- the count of a data page that nothing counts becomes 1, in the cache and then on the device
pub record CountsOne (p : ℕ) (result : Result Unit Failed) (old new : CoreView) (d e : Meaning) : Type 0 where
  pub page : Block
  pub sets : SetsEntry (page_of old.tables.counts (count_index p)) (count_place p) 1 page
  pub tables : new.tables ≡ record old.tables { counts = slice_set old.tables.counts (count_index p) page }
  pub puts : PutsCounted (count_page old.tables.shape p) page result d e old.calls new.calls

-- a block takes the name of a data page, in the cache and then on the device; what could not be written is pending
pub record NamesOne (block p : ℕ) (old new : CoreView) (d e : Meaning) : Type 0 where
  pub page : Block
  pub result : Result Unit Failed
  pub sets : SetsEntry (page_of old.tables.maps (map_index block)) (map_place block) p page
  pub tables : new.tables ≡ record old.tables { maps = slice_set old.tables.maps (map_index block) page; pending = slice_set (slice_set old.tables.pending (map_index block) true) (map_index block) (is_err result) }
  pub puts : PutsCounted (map_page block) page result d e old.calls new.calls

-- a map page that is not pending, and nothing happened; or a pending one that was written and fixed, and is pending no longer
-- where that was done
pub data Settles (index : ℕ) (result : Result Unit Failed) (old new : CoreView) (d e : Meaning) : Type 0 where
  idle : is_pending old.tables index ≡ false → result ≡ Ok tt → new ≡ old → e ≡ d → Settles index result old new d e
  tried : is_pending old.tables index ≡ true → new.tables ≡ (if is_err result then old.tables else record old.tables { pending = slice_set old.tables.pending index false })
      → PutsCounted (1 + index) (page_of old.tables.maps index) result d e old.calls new.calls → Settles index result old new d e

-- calls of which the last did not end `Done`
pub record EndUndone (calls : List LogEntry) : Type 0 where
  pub front : List LogEntry
  pub last : LogEntry
  pub split : calls ≡ front ++ last ∷ []
  pub undone : IsUndone last

-- a flush: one that failed stopped at a call that did not end `Done`
pub record FlushCalled (result : Result Unit Failed) (old new : CoreView) (d e : Meaning) : Type 0 where
  pub call : Called old new d e (λ a. after_flush result a) (λ _. writes_nothing)
  pub stopped : IsErr result → EndUndone call.calls
