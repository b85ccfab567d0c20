-- A release is applied: what is asked, and what its steps leave.
use Rattle.std.specs.Prelude.{◌≡◌, ◌≢◌, ◌⊎◌, ◌+◌, ◌-◌, ◌<◌, ◌≤◌, ◌&&◌, ◌||◌, cond, not, eqb, is_some, ℕ, Bool, List, Some, None, false, true, slice_get, remove}
use Rattle.page_layout.specs.Shape.{count_page, data_page, print_page, print_place}
use Rattle.page_layout.specs.Tables.{print_entry_of}
use Rattle.page_alloc.specs.Pool.{IsTold, told_of}
use Rattle.page_cache.specs.View.{holds_in, is_there}
use Rattle.order_model.specs.Pool.{after_zeroed}
use Rattle.order_model.specs.declared.Slot.TheVariants.{Print}
use Rattle.birth_marks.specs.Births.{SameBut, is_unborn_in}
use Rattle.dep_graph.specs.Lists.{GraphLists, barred_in, dirty_in, hung_in, is_ready, live_in, node_count}
use Rattle.ref_counts.specs.Counts.{count_in}
use Rattle.release_queue.specs.Needed.{IsBlocked}
use Rattle.release_queue.specs.declared.Release.{Release}
use Rattle.release_queue.specs.declared.TheConstants.{NOT_WRITTEN, WRITTEN}
use Rattle.flush_engine.specs.declared.tallies.Tally.{Tally}
use Rattle.flush_engine.specs.Tallies.{counted, left_out}
use Rattle.flush_engine.specs.View.{EngineView}
use Rattle.store_core.specs.declared.Core.{Core}
use Rattle.store_core.specs.Frames.{SameHolds}
use Rattle.store_core.specs.Views.{page_in}

-- the count of the release's page, its print, and whether no content that a crash may leave has that print
abbrev pub count_of_release : Core → Release → ℕ
count_of_release core r = count_in (page_in core r.count_at) r.page

abbrev pub has_print_of : Core → Release → Bool
has_print_of core r = is_some (print_entry_of (page_in core r.print_at) (print_place r.page))

abbrev pub is_print_unborn : Core → Release → Bool
is_print_unborn core r = is_unborn_in core.ledger.births (Print r.page) 1

-- the count is about to become 0, and the page has a print which a crash may leave
abbrev pub is_last_print : Core → Release → Bool
is_last_print core r = eqb (count_of_release core r) 1 && (has_print_of core r && not (is_print_unborn core r))

-- the count is about to become 0, and the page has a print, which goes
abbrev pub loses_print : Core → Release → Bool
loses_print core r = eqb (count_of_release core r) 1 && has_print_of core r

-- the content of the data page may be given up: it is dirty and waits for no other page, and nobody holds it
abbrev pub is_loose : Core → Release → Bool
is_loose core r = is_ready core.engine.graph (data_page core.shape r.page) && eqb (holds_in core.engine.cache (data_page core.shape r.page)) 0

-- the page is the data page, which is given up where this count of it is left
abbrev pub loses_at : ℕ → Core → Release → ℕ → Bool
loses_at count core r q = (eqb count 0 && is_loose core r) && eqb q (data_page core.shape r.page)

-- one edit of the count page is counted, and one of the print page where the print goes
abbrev pub edited_for : Core → Release → List Tally → List Tally
edited_for core r tallies = cond (loses_print core r) (counted r.print_at (counted r.count_at tallies)) (counted r.count_at tallies)

-- the edge from the map page that the release needs by its stage
pub record MapOrdered (r : Release) (old new : GraphLists) : Type 0 where
  pub live : r.stage ≡ NOT_WRITTEN → dirty_in old r.map_at ≡ true → live_in new r.map_at r.count_at ≡ true
  pub barred : r.stage ≡ WRITTEN → hung_in old r.map_at ≡ true → barred_in new r.map_at r.count_at ≡ true

-- Marks and edges that stood stand still, and each new edge leads to this page.
pub record GrowsInto (page : ℕ) (old new : GraphLists) : Type 0 where
  pub dirty : (a : ℕ) → dirty_in old a ≡ true → dirty_in new a ≡ true
  pub hung : (a : ℕ) → hung_in new a ≡ hung_in old a
  pub live : (a b : ℕ) → live_in old a b ≡ true → live_in new a b ≡ true
  pub barred : (a b : ℕ) → barred_in old a b ≡ true → barred_in new a b ≡ true
  pub into : (a b : ℕ) → live_in new a b ≡ true → (live_in old a b ≡ true) ⊎ (b ≡ page)
  pub barred_into : (a b : ℕ) → barred_in new a b ≡ true → (barred_in old a b ≡ true) ⊎ (b ≡ page)

-- how much room is left at least, once so many nodes and edges were taken
pub record Takes (nodes edges : ℕ) (old new : EngineView) : Type 0 where
  pub spare_nodes : old.graph.spare_nodes ≤ new.graph.spare_nodes + nodes
  pub spare_edges : old.graph.spare_edges ≤ new.graph.spare_edges + edges
  pub count : node_count new.graph ≤ node_count old.graph + nodes
  pub room : new.room ≡ old.room

-- The print of the release's page is gone where the count is about to become 0; nothing else changed but marks, edges and births.
pub record ClearsPrint (r : Release) (old new : Core) : Type 0 where
  pub shape : new.shape ≡ old.shape
  pub queue : new.ledger.queue ≡ old.ledger.queue
  pub pool : new.ledger.pool ≡ old.ledger.pool
  pub same : SameHolds old new
  pub others : (q : ℕ) → q ≢ r.print_at → page_in new q ≡ page_in old q
  pub none : count_of_release old r ≡ 1 → print_entry_of (page_in new r.print_at) (print_place r.page) ≡ None
  pub kept : 1 < count_of_release old r → page_in new r.print_at ≡ page_in old r.print_at
  pub prints : (p : ℕ) → 1 ≤ p → p ≢ r.page → print_page old.shape p ≡ r.print_at → print_entry_of (page_in new r.print_at) (print_place p) ≡ print_entry_of (page_in old r.print_at) (print_place p)
  pub dirty : (a : ℕ) → dirty_in new.engine.graph a ≡ (dirty_in old.engine.graph a || (loses_print old r && eqb a r.print_at))
  pub ordered : is_last_print old r ≡ true → live_in new.engine.graph r.print_at r.count_at ≡ true
  pub grows : GrowsInto r.count_at old.engine.graph new.engine.graph
  pub takes : Takes 1 1 old.engine new.engine
  pub changes : old.ledger.births.spare ≤ new.ledger.births.spare + 1
  pub same_births : loses_print old r ≡ false → new.ledger.births ≡ old.ledger.births
  pub births : SameBut (Print r.page) old.ledger.births new.ledger.births
  pub tallies : new.engine.tallies ≡ cond (loses_print old r) (counted r.print_at old.engine.tallies) old.engine.tallies

-- What a release asks that is applied: it stands at this place of the queue, its count page and its print page are held, its page is counted, there is room, and its edges close no cycle.
pub record CanApply (i : ℕ) (r : Release) (core : Core) : Type 0 where
  pub queued : slice_get core.ledger.queue.releases i ≡ Some r
  pub count_held : 0 < holds_in core.engine.cache r.count_at
  pub print_held : 0 < holds_in core.engine.cache r.print_at
  pub counted : 0 < count_of_release core r
  pub nodes : 2 ≤ core.engine.graph.spare_nodes
  pub room : node_count core.engine.graph + 2 ≤ core.engine.room
  pub edges : 2 ≤ core.engine.graph.spare_edges
  pub changes : 1 ≤ core.ledger.births.spare
  pub opens : IsBlocked (live_in core.engine.graph) r (is_last_print core r) → ⊥

-- The count is one less, the release is out of the queue, and a last print is gone. It took two nodes, two edges and a change at most. The data page is as it was.
pub record LowersRelease (i : ℕ) (r : Release) (old new : Core) : Type 0 where
  pub shape : new.shape ≡ old.shape
  pub queue : new.ledger.queue ≡ record old.ledger.queue { releases = remove old.ledger.queue.releases i }
  pub count : count_of_release new r ≡ count_of_release old r - 1
  pub none : count_of_release old r ≡ 1 → print_entry_of (page_in new r.print_at) (print_place r.page) ≡ None
  pub kept : 1 < count_of_release old r → page_in new r.print_at ≡ page_in old r.print_at
  pub counts : (p : ℕ) → 1 ≤ p → p ≢ r.page → count_page old.shape p ≡ r.count_at → count_in (page_in new r.count_at) p ≡ count_in (page_in old r.count_at) p
  pub prints : (p : ℕ) → 1 ≤ p → p ≢ r.page → print_page old.shape p ≡ r.print_at → print_entry_of (page_in new r.print_at) (print_place p) ≡ print_entry_of (page_in old r.print_at) (print_place p)
  pub others : (q : ℕ) → q ≢ r.count_at → q ≢ r.print_at → page_in new q ≡ page_in old q
  pub same : SameHolds old new
  pub dirty : (a : ℕ) → dirty_in new.engine.graph a ≡ (dirty_in old.engine.graph a || (eqb a r.count_at || (loses_print old r && eqb a r.print_at)))
  pub map_ordered : MapOrdered r old.engine.graph new.engine.graph
  pub print_ordered : is_last_print old r ≡ true → live_in new.engine.graph r.print_at r.count_at ≡ true
  pub grows : GrowsInto r.count_at old.engine.graph new.engine.graph
  pub takes : Takes 2 2 old.engine new.engine
  pub changes : old.ledger.births.spare ≤ new.ledger.births.spare + 1
  pub same_births : loses_print old r ≡ false → new.ledger.births ≡ old.ledger.births
  pub births : SameBut (Print r.page) old.ledger.births new.ledger.births
  pub zeroed : count_of_release old r ≡ 1 → IsTold old.shape (after_zeroed r.page (told_of old.ledger.pool)) new.ledger.pool
  pub more : 1 < count_of_release old r → new.ledger.pool ≡ old.ledger.pool
  pub tallies : new.engine.tallies ≡ edited_for old r old.engine.tallies

-- As above, but for a page that is lost, to which no edge led.
pub record GrowsBut (page : ℕ) (lost : ℕ → Bool) (old new : GraphLists) : Type 0 where
  pub hung : (a : ℕ) → hung_in new a ≡ hung_in old a
  pub live : (a b : ℕ) → lost a ≡ false → live_in old a b ≡ true → live_in new a b ≡ true
  pub none_from : (a b : ℕ) → lost a ≡ true → live_in new a b ≡ false
  pub none_to : (a b : ℕ) → lost b ≡ true → (live_in old a b ≡ false) × (barred_in old a b ≡ false)
  pub barred : (a b : ℕ) → barred_in old a b ≡ true → barred_in new a b ≡ true
  pub into : (a b : ℕ) → live_in new a b ≡ true → (live_in old a b ≡ true) ⊎ (b ≡ page)
  pub barred_into : (a b : ℕ) → barred_in new a b ≡ true → (barred_in old a b ≡ true) ⊎ (b ≡ page)

-- The data page lost its content where its count is 0 and the content may be given up, and nothing else changed.
pub record LosesContent (r : Release) (old new : Core) : Type 0 where
  pub shape : new.shape ≡ old.shape
  pub ledger : new.ledger ≡ old.ledger
  pub others : (q : ℕ) → loses_at (count_of_release old r) old r q ≡ false → page_in new q ≡ page_in old q
  pub there : (q : ℕ) → is_there new.engine.cache q ≡ (is_there old.engine.cache q && not (loses_at (count_of_release old r) old r q))
  pub holds : (q : ℕ) → holds_in new.engine.cache q ≡ holds_in old.engine.cache q
  pub dirty : (a : ℕ) → dirty_in new.engine.graph a ≡ (dirty_in old.engine.graph a && not (loses_at (count_of_release old r) old r a))
  pub grows : GrowsBut r.count_at (loses_at (count_of_release old r) old r) old.engine.graph new.engine.graph
  pub takes : Takes 0 0 old.engine new.engine
  pub tallies : new.engine.tallies ≡ cond (eqb (count_of_release old r) 0 && is_loose old r) (left_out (data_page old.shape r.page) old.engine.tallies) old.engine.tallies

-- The count is one less, the release is out of the queue, and a last print is gone. Where no count is left, and the data page is dirty, waits for no other page and is held by nobody, its content is given up. It took two nodes, two edges and a change at most.
pub record AppliesRelease (i : ℕ) (r : Release) (old new : Core) : Type 0 where
  pub shape : new.shape ≡ old.shape
  pub queue : new.ledger.queue ≡ record old.ledger.queue { releases = remove old.ledger.queue.releases i }
  pub count : count_of_release new r ≡ count_of_release old r - 1
  pub none : count_of_release old r ≡ 1 → print_entry_of (page_in new r.print_at) (print_place r.page) ≡ None
  pub kept : 1 < count_of_release old r → page_in new r.print_at ≡ page_in old r.print_at
  pub counts : (p : ℕ) → 1 ≤ p → p ≢ r.page → count_page old.shape p ≡ r.count_at → count_in (page_in new r.count_at) p ≡ count_in (page_in old r.count_at) p
  pub prints : (p : ℕ) → 1 ≤ p → p ≢ r.page → print_page old.shape p ≡ r.print_at → print_entry_of (page_in new r.print_at) (print_place p) ≡ print_entry_of (page_in old r.print_at) (print_place p)
  pub others : (q : ℕ) → q ≢ r.count_at → q ≢ r.print_at → loses_at (count_of_release old r - 1) old r q ≡ false → page_in new q ≡ page_in old q
  pub there : (q : ℕ) → is_there new.engine.cache q ≡ (is_there old.engine.cache q && not (loses_at (count_of_release old r - 1) old r q))
  pub holds : (q : ℕ) → holds_in new.engine.cache q ≡ holds_in old.engine.cache q
  pub dirty : (a : ℕ) → dirty_in new.engine.graph a
      ≡ ((dirty_in old.engine.graph a || (eqb a r.count_at || (loses_print old r && eqb a r.print_at))) && not (loses_at (count_of_release old r - 1) old r a))
  pub map_ordered : MapOrdered r old.engine.graph new.engine.graph
  pub print_ordered : is_last_print old r ≡ true → live_in new.engine.graph r.print_at r.count_at ≡ true
  pub grows : GrowsBut r.count_at (loses_at (count_of_release old r - 1) old r) old.engine.graph new.engine.graph
  pub takes : Takes 2 2 old.engine new.engine
  pub changes : old.ledger.births.spare ≤ new.ledger.births.spare + 1
  pub same_births : loses_print old r ≡ false → new.ledger.births ≡ old.ledger.births
  pub births : SameBut (Print r.page) old.ledger.births new.ledger.births
  pub zeroed : count_of_release old r ≡ 1 → IsTold old.shape (after_zeroed r.page (told_of old.ledger.pool)) new.ledger.pool
  pub more : 1 < count_of_release old r → new.ledger.pool ≡ old.ledger.pool
  pub tallies : new.engine.tallies ≡ cond (eqb (count_of_release old r - 1) 0 && is_loose old r) (left_out (data_page old.shape r.page) (edited_for old r old.engine.tallies)) (edited_for old r old.engine.tallies)
