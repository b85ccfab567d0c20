-- What an edit makes of the plain state.
use Rattle.std.specs.Prelude.{◌≡◌, ◌+◌, ◌-◌, ◌<◌, ◌++◌, ◌∷◌, [], ℕ, List, Bool, true, cond, eqb, map, remove, ◌&&◌, ◌||◌}
use Rattle.page_device.specs.Block.{Block}
use Rattle.page_device.specs.Meaning.{Meaning}
use Rattle.page_layout.specs.Shape.{ShapeView, count_page, map_page, print_page}
use Rattle.dep_graph.specs.Lists.{GraphLists, IsGraph, barred_in, hung_in, live_in}
use Rattle.page_alloc.specs.Pool.{IsTold, told_of}
use Rattle.ref_counts.specs.Counts.{SetsCount, count_in}
use Rattle.logical_map.specs.Slots.{SetsSlot, slot_of}
use Rattle.order_model.specs.declared.Slot.TheVariants.{Name}
use Rattle.birth_marks.specs.Births.{Changed, PlacedAt, SameBut, is_unborn_in, recorded_in, value_in}
use Rattle.release_queue.specs.declared.Release.{Release}
use Rattle.release_queue.specs.declared.TheConstants.{NOT_WRITTEN, UNBORN}
use Rattle.order_model.specs.World as plain
use Rattle.order_model.specs.World.{World}
use Rattle.order_model.specs.Pool.{after_take, after_zeroed}
use Rattle.engine_model.specs.SmallSteps.{lowered, put}
use Rattle.store_core.specs.declared.Core.{Core}
use Rattle.store_core.specs.Frames.{OnlyPage}
use Rattle.store_core.specs.Views.{page_in, plain_release, world_of}

-- whatever the device
abbrev pub Makes : (World → World) → Core → Core → Type 0
Makes next old new = (d : Meaning) → world_of d new ≡ next (world_of d old)

-- A barrier must come ahead of the next write of one page where the other is hung, also where that one is dirty again. A new edge takes a spare one.
pub record Barred (before after : ℕ) (old new : GraphLists) : Type 0 where
  pub dirty : new.dirty ≡ old.dirty
  pub hung : new.hung ≡ old.hung
  pub live : (a b : ℕ) → live_in new a b ≡ live_in old a b
  pub barred : (a b : ℕ) → barred_in new a b ≡ (barred_in old a b || (hung_in old before && (eqb a before && eqb b after)))
  pub spare_nodes : new.spare_nodes ≡ old.spare_nodes
  pub spare_edges : new.spare_edges ≡ cond (hung_in old before) (cond (barred_in old before after) old.spare_edges (old.spare_edges - 1)) old.spare_edges
  pub graph : IsGraph new

-- the count of p is one more, and the pool was told that p is taken
pub record RaisesCount (p : ℕ) (old new : Core) : Type 0 where
  pub page : Block
  pub sets : SetsCount old.shape (page_in old (count_page old.shape p)) p (count_in (page_in old (count_page old.shape p)) p + 1) page
  pub only : OnlyPage (count_page old.shape p) page old new
  pub world : Makes (put (count_page old.shape p) page) old new
  pub told : IsTold old.shape (after_take p (told_of old.ledger.pool)) new.ledger.pool
  pub ledger : new.ledger ≡ record old.ledger { pool = new.ledger.pool }

-- The count of the release's page is one less, and the release at this place is out of the queue. The pool was told where no count is left.
pub record LowersCount (i : ℕ) (r : Release) (old new : Core) : Type 0 where
  pub page : Block
  pub sets : SetsCount old.shape (page_in old r.count_at) r.page (count_in (page_in old r.count_at) r.page - 1) page
  pub only : OnlyPage r.count_at page old new
  pub world : Makes (lowered r.count_at page (map plain_release (remove old.ledger.queue.releases i))) old new
  pub zero : count_in page r.page ≡ 0 → IsTold old.shape (after_zeroed r.page (told_of old.ledger.pool)) new.ledger.pool
  pub more : 0 < count_in page r.page → new.ledger.pool ≡ old.ledger.pool
  pub ledger : new.ledger ≡ record old.ledger { queue = record old.ledger.queue { releases = remove old.ledger.queue.releases i }; pool = new.ledger.pool }

-- the release that a block owes to a data page: at the last stage where the name is unborn, and else at the first
abbrev pub release_of : ShapeView → ℕ → ℕ → Bool → Release
release_of shape block p unborn = record {
  block = block;
  page = p;
  map_at = map_page block;
  count_at = count_page shape p;
  print_at = print_page shape p;
  stage = cond unborn UNBORN NOT_WRITTEN;
  look = true;
}

-- the releases with the one that block owes to o, if o is a page
abbrev pub owed : ShapeView → Bool → ℕ → ℕ → List Release → List Release
owed shape unborn block o releases = cond (eqb o 0) releases (releases ++ release_of shape block o unborn ∷ [])

abbrev pub plain_owed : Bool → ℕ → ℕ → List plain.Release → List plain.Release
plain_owed unborn block o releases = cond (eqb o 0) releases (releases ++ (record { block = block; page = o; stage = cond unborn 3 0 }) ∷ [])

-- the data page that a block names, and whether no content that a crash may leave has that name
abbrev pub named_in : Core → ℕ → ℕ
named_in core block = slot_of (page_in core (map_page block)) block

abbrev pub is_name_unborn : Core → ℕ → Bool
is_name_unborn core block = is_unborn_in core.ledger.births (Name block) (named_in core block)

-- The block has the name p, and the release of the old one is pushed. What births know is said where they knew the old name; where slots stand, and of the other slots, is said in any case.
pub record NamesBlock (block p : ℕ) (old new : Core) : Type 0 where
  pub page : Block
  pub sets : SetsSlot old.shape (page_in old (map_page block)) block p page
  pub only : OnlyPage (map_page block) page old new
  pub world : (d : Meaning) → world_of d new ≡ record (put (map_page block) page (world_of d old)) {
    queue = plain_owed (is_name_unborn old block) block (named_in old block) (world_of d old).queue;
  }
  pub births : (recorded_in old.ledger.births (Name block) ≡ true → value_in old.ledger.births (Name block) ≡ named_in old block)
      → Changed old.ledger.births new.ledger.births (Name block) (map_page block) (named_in old block) p
  pub placed : PlacedAt old.ledger.births new.ledger.births (Name block) (map_page block)
  pub other_slots : SameBut (Name block) old.ledger.births new.ledger.births
  pub spare : new.ledger.births.spare ≡ old.ledger.births.spare - 1
  pub ledger : new.ledger ≡ record old.ledger {
    queue = record old.ledger.queue { releases = owed old.shape (is_name_unborn old block) block (named_in old block) old.ledger.queue.releases };
    births = new.ledger.births;
  }
