-- What a fetch of a table page does that looks over what it read.
use Rattle.std.specs.Prelude.{◌≡◌, ◌⊎◌, ◌+◌, ◌<◌, ◌≤◌, ◌^◌, ℕ, Bool, Some, true, false, not, slice_get, Result, Ok, Err, IfOk}
use Rattle.page_device.specs.Block.{Block}
use Rattle.page_device.specs.Disk.{newest}
use Rattle.page_device.specs.Meaning.{Meaning, OneRead}
use Rattle.page_device.specs.declared.error.Damage.{Damage}
use Rattle.page_cache.specs.View.{content_in, is_there}
use Rattle.page_layout.specs.Entries.{IsEntry, IsFirstFault, entries_of, table_at}
use Rattle.page_layout.specs.Formed.{is_formed}
use Rattle.page_layout.specs.Shape.{ShapeView}
use Rattle.page_layout.specs.declared.shape.Table.{Table}
use Rattle.store_core.specs.declared.Core.{Core}
use Rattle.store_core.specs.declared.tables.TableError.{TableError}
use Rattle.store_core.specs.declared.tables.TableError.TheVariants.{Device, NoMemory, Damaged}
use Rattle.store_core.specs.Views.{page_in}

-- this is the first malformed entry of a content of a table page
abbrev pub IsFirstMalformed : ShapeView → ℕ → Block → ℕ → Type 0
IsFirstMalformed shape page content entry = (t : Table) → table_at shape page ≡ Some t → IsFirstFault (IsEntry t shape page content) (entries_of t) (Some entry)

-- The page came in with a content of which this is the first malformed entry. From an honest device that is what stands there.
pub record IsDamage (shape : ShapeView) (page : ℕ) (d : Meaning) (damage : Damage) : Type 0 where
  pub page_is : damage.page ≡ page
  pub content : Block
  pub first : IsFirstMalformed shape page content damage.entry
  pub stands : d.honest ≡ true → d.tells_pages ≡ true → slice_get (newest d.state) page ≡ Some content

-- a fault of the device is counted; a count at its end may stand still
pub record HasTableCause (result : Result Bool TableError) (old new : Meaning) : Type 0 where
  pub never_falls : old.faults ≤ new.faults
  pub failed : result ≡ Err Device → old.faults + 1 < 2 ^ 64 → old.faults < new.faults

-- what it did to the device: one read where it answered that, failed there or found damage, and none where the page was there
abbrev pub TableCall : Result Bool TableError → Meaning → Meaning → Type 0
TableCall (Ok true) old new = OneRead old new
TableCall (Ok false) old new = new ≡ old
TableCall (Err Device) old new = OneRead old new
TableCall (Err NoMemory) old new = (new ≡ old) ⊎ OneRead old new
TableCall (Err (Damaged damage)) old new = OneRead old new

-- What is known of the page by the answer: it was read and each entry of it is well formed, or it was read and is gone again.
pub record LooksOver (page : ℕ) (result : Result Bool TableError) (d : Meaning) (old new : Core) : Type 0 where
  pub answer : IfOk result (λ read. read ≡ not (is_there old.engine.cache page))
  pub formed : result ≡ Ok true → is_formed old.shape page (page_in new page) ≡ true
  pub newest : result ≡ Ok true → d.honest ≡ true → d.tells_pages ≡ true → content_in new.engine.cache page ≡ slice_get (newest d.state) page
  pub damaged : (damage : Damage) → result ≡ Err (Damaged damage) → IsDamage old.shape page d damage
  pub absent : (damage : Damage) → result ≡ Err (Damaged damage) → is_there old.engine.cache page ≡ false
  pub gone : (damage : Damage) → result ≡ Err (Damaged damage) → is_there new.engine.cache page ≡ false
