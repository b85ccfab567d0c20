-- The print of a data page is set or cleared.
use Rattle.std.specs.Prelude.{◌≡◌, ◌⊎◌, ◌<◌, ◌-◌, ℕ, List, Bool, Option, Some, None, true}
use Rattle.page_device.specs.Block.{Block}
use Rattle.page_device.specs.Meaning.{Meaning}
use Rattle.page_layout.specs.Entries.{SetsPrint}
use Rattle.page_layout.specs.Shape.{print_page, print_place}
use Rattle.order_model.specs.declared.Slot.TheVariants.{Print}
use Rattle.order_model.specs.World.{Possible}
use Rattle.birth_marks.specs.Births.{Changed, PlacedAt, SameBut, is_unborn_in, recorded_in, value_in}
use Rattle.engine_model.specs.Births.{has_print}
use Rattle.engine_model.specs.Edits.{Ordered}
use Rattle.engine_model.specs.Entries.{cached_count, cached_print}
use Rattle.engine_model.specs.SmallSteps.{put}
use Rattle.store_core.specs.declared.Core.{Core}
use Rattle.store_core.specs.Edits.{Makes}
use Rattle.store_core.specs.Frames.{OnlyPage}
use Rattle.store_core.specs.Layout.{lay_of}
use Rattle.store_core.specs.Views.{page_in, world_of}
use Rattle.store_core.specs.Stands.{StandsFor}

-- what birth_marks is told that the slot had: a page that gets a print had none, and one that loses it had one
abbrev pub had_print : Option (List ℕ) → ℕ
had_print None = 1
had_print (Some print) = 0

-- The page has this print, or none. What births know is said where they knew that it had none, or one; where slots stand, and of the other slots, is said in any case.
pub record PrintsPage (p : ℕ) (print : Option (List ℕ)) (old new : Core) : Type 0 where
  pub page : Block
  pub sets : SetsPrint (page_in old (print_page old.shape p)) (print_place p) print page
  pub only : OnlyPage (print_page old.shape p) page old new
  pub world : Makes (put (print_page old.shape p) page) old new
  pub births : (recorded_in old.ledger.births (Print p) ≡ true → value_in old.ledger.births (Print p) ≡ had_print print)
      → Changed old.ledger.births new.ledger.births (Print p) (print_page old.shape p) (had_print print) (has_print print)
  pub placed : PlacedAt old.ledger.births new.ledger.births (Print p) (print_page old.shape p)
  pub other_slots : SameBut (Print p) old.ledger.births new.ledger.births
  pub spare : new.ledger.births.spare ≡ old.ledger.births.spare - 1
  pub ledger : new.ledger ≡ record old.ledger { births = new.ledger.births }

-- the print is that of the page's content, and count and data go out before
pub record MayPrintNow (d : Meaning) (core : Core) (p : ℕ) (print : List ℕ) : Type 0 where
  pub counted : 0 < cached_count (lay_of core.shape) (world_of d core) p
  pub had_none : cached_print (lay_of core.shape) (world_of d core) p ≡ None
  pub count_first : ((world_of d core).live ((lay_of core.shape).count_page p) ((lay_of core.shape).print_page p) ≡ true)
      ⊎ ((c : List ℕ) → Possible (world_of d core) ((lay_of core.shape).count_page p) c → 0 < (lay_of core.shape).count_in c p)
  pub data_first : Ordered (world_of d core) ((lay_of core.shape).data_page p) ((lay_of core.shape).print_page p)
  pub is_true : print ≡ (lay_of core.shape).finger ((world_of d core).cached ((lay_of core.shape).data_page p))

-- the print is ordered before the count page, or it is unborn
pub record MayClearNow (d : Meaning) (core : Core) (p : ℕ) : Type 0 where
  pub print : List ℕ
  pub had : cached_print (lay_of core.shape) (world_of d core) p ≡ Some print
  pub ordered_or_unborn : ((world_of d core).live ((lay_of core.shape).print_page p) ((lay_of core.shape).count_page p) ≡ true) ⊎ (is_unborn_in core.ledger.births (Print p) 1 ≡ true)

abbrev pub MayBe : Meaning → Core → ℕ → Option (List ℕ) → Type 0
MayBe d core p (Some print) = MayPrintNow d core p print
MayBe d core p None = MayClearNow d core p

abbrev pub PrintStands : ℕ → Option (List ℕ) → Core → Core → Type 0
PrintStands p print old new = (sound : Bool) (d : Meaning) (array : ℕ → List Block) → StandsFor sound d old array → MayBe d old p print → StandsFor sound d new array
