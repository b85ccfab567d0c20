-- Commands as the small steps that code makes, each with what it asks of the state before its first step, and what it comes to.
use Rattle.std.specs.Prelude.{List, Some, false, true, ℕ, ◌+◌, ◌<◌, ◌≡◌, ◌≢◌, ◌⊎◌}
use Rattle.order_model.specs.Paths.{Closes}
use Rattle.order_model.specs.Pool.{after_take}
use Rattle.order_model.specs.World.{Agree, IsData, Layout, World, queued}
use Rattle.engine_model.specs.Commands.{DataKept, Discarded, Gains, PageContent, Renamed}
use Rattle.engine_model.specs.Edits.{Ordered}
use Rattle.engine_model.specs.Entries.{cached_count, cached_name, cached_names, cached_print}
use Rattle.engine_model.specs.Frames.{Reach, both, content_reach, count_reach, edge_reach, live_reach, mark_reach, name_reach, print_reach}
use Rattle.engine_model.specs.Invariant.{Moment, ToldBirths, ToldTake, known_at}
use Rattle.engine_model.specs.SmallRuns.{in_state, with_count, with_name, with_print}
use Rattle.engine_model.specs.SmallSteps.{SetsCount, SetsName, SetsPrint, ordered, ordered_after, placed, pushed, touched}

-- n comes from m by a whole discard,
pub record Discards (lay : Layout) (m n : Moment) (l o : ℕ) : Type 0 where
  pub discarded : Discarded lay (known_at lay m) m.world n.world l o
  pub data_kept : DataKept lay m.world n.world
  pub gains : Gains m.array n.array l lay.zero_block
  pub births : ToldBirths lay m n
  pub pool : Agree n.pool m.pool

-- and by a whole write
pub record Writes (lay : Layout) (top : ℕ) (m n : Moment) (l o p : ℕ) (content : List ℕ) : Type 0 where
  pub renamed : Renamed lay (known_at lay m) top m.world n.world l o p
  pub page : PageContent lay (known_at lay m) m.world n.world l p content
  pub gains : Gains m.array n.array l content
  pub births : ToldBirths lay m n
  pub pool : ToldTake lay p m n

-- A discard: the map page is touched and gets a content in which l has no name.
abbrev pub with_discard : Layout → ℕ → ℕ → List ℕ → (ℕ → List (List ℕ)) → Moment → Moment
with_discard lay l o c array m = with_name lay l o 0 c array (in_state (touched (lay.map_page l) m.world) m)

pub record CanDiscard (lay : Layout) (w : World) (l o : ℕ) (c : List ℕ) : Type 0 where
  pub in_range : l < lay.blocks
  pub was : cached_name lay w l ≡ o
  pub is_data : IsData lay o
  pub sets : SetsName lay (w.cached (lay.map_page l)) c l 0

-- A block takes the name of a page whose count has one to spare: the map page is touched, the count page and the data page go before it, and it gets a
-- content with the name.
abbrev pub ready_to_name : Layout → ℕ → ℕ → Moment → Moment
ready_to_name lay l p m = in_state (ordered_after (lay.data_page p) (lay.map_page l) (ordered (lay.count_page p) (lay.map_page l) (touched (lay.map_page l) m.world))) m

abbrev pub with_page_named : Layout → ℕ → ℕ → ℕ → List ℕ → (ℕ → List (List ℕ)) → Moment → Moment
with_page_named lay l o p c array m = with_name lay l o p c array (ready_to_name lay l p m)

pub record CanNamePage (lay : Layout) (w : World) (l o p : ℕ) (c : List ℕ) : Type 0 where
  pub in_range : l < lay.blocks
  pub was : cached_name lay w l ≡ o
  pub none_or_data : (o ≡ 0) ⊎ IsData lay o
  pub is_data : IsData lay p
  pub other : p ≢ o
  pub sets : SetsName lay (w.cached (lay.map_page l)) c l p
  pub dirty : w.dirty (lay.count_page p) ≡ true
  pub spare : cached_names lay w p + queued w.queue p < cached_count lay w p
  pub opens : Closes w.live (lay.count_page p) (lay.map_page l) → ⊥

abbrev pub page_name_reach : Layout → ℕ → ℕ → Reach
page_name_reach lay l p = both (mark_reach (lay.map_page l)) (both (live_reach (lay.count_page p) (lay.map_page l)) (both (edge_reach (lay.data_page p) (lay.map_page l)) (name_reach l)))

-- what it comes to, beside its frame
pub record NamesPage (lay : Layout) (m n : Moment) (l o p : ℕ) : Type 0 where
  pub name : cached_name lay n.world l ≡ p
  pub queue : n.world.queue ≡ pushed (known_at lay m) l o m.world.queue
  pub dirty : n.world.dirty (lay.map_page l) ≡ true
  pub count_first : n.world.live (lay.count_page p) (lay.map_page l) ≡ true
  pub data_first : Ordered n.world (lay.data_page p) (lay.map_page l)

-- A free page is filled: it gets its content, its count becomes 1, and it gets its print once its count page and its data page go before the print page.
-- After that its count has one to spare.
abbrev pub with_page_counted : Layout → ℕ → List ℕ → List ℕ → Moment → Moment
with_page_counted lay p content count m =
    with_count lay p count (after_take p m.pool) (in_state (touched (lay.print_page p) (touched (lay.count_page p) (placed (lay.data_page p) content m.world))) m)

abbrev pub ready_to_print : Layout → ℕ → Moment → Moment
ready_to_print lay p m = in_state (ordered_after (lay.data_page p) (lay.print_page p) (ordered (lay.count_page p) (lay.print_page p) m.world)) m

abbrev pub with_page_filled : Layout → ℕ → List ℕ → List ℕ → List ℕ → Moment → Moment
with_page_filled lay p content count print m = with_print lay p print 0 1 (ready_to_print lay p (with_page_counted lay p content count m))

pub record CanFill (lay : Layout) (top : ℕ) (m : Moment) (p : ℕ) (content count print : List ℕ) : Type 0 where
  pub is_data : IsData lay p
  pub free : (known_at lay m).free p ≡ true
  pub below_top : 0 < top
  pub sets_count : SetsCount lay (m.world.cached (lay.count_page p)) count p 1
  pub sets_print : SetsPrint lay (m.world.cached (lay.print_page p)) print p (Some (lay.finger content))
  pub opens : Closes m.world.live (lay.count_page p) (lay.print_page p) → ⊥

abbrev pub fill_reach : Layout → ℕ → Reach
fill_reach lay p = both (content_reach lay p) (both (mark_reach (lay.count_page p)) (both (mark_reach (lay.print_page p)) (both (count_reach p false)
    (both (live_reach (lay.count_page p) (lay.print_page p)) (both (edge_reach (lay.data_page p) (lay.print_page p)) (print_reach p))))))

pub record FillsPage (lay : Layout) (n : Moment) (p : ℕ) (content : List ℕ) : Type 0 where
  pub counted : cached_count lay n.world p ≡ 1
  pub printed : cached_print lay n.world p ≡ Some (lay.finger content)
  pub holds : n.world.cached (lay.data_page p) ≡ content
  pub data_dirty : n.world.dirty (lay.data_page p) ≡ true
  pub count_dirty : n.world.dirty (lay.count_page p) ≡ true
  pub count_first : n.world.live (lay.count_page p) (lay.print_page p) ≡ true
  pub data_first : Ordered n.world (lay.data_page p) (lay.print_page p)
  pub spare : cached_names lay n.world p + queued n.world.queue p < cached_count lay n.world p

-- A write to a fresh page: the page is filled, and the block takes its name. That the page is another than the one named before is no premise: a free
-- page is named by no block.
abbrev pub with_fresh_write : Layout → ℕ → ℕ → ℕ → List ℕ → List ℕ → List ℕ → List ℕ → (ℕ → List (List ℕ)) → Moment → Moment
with_fresh_write lay l o p content count print name array m = with_page_named lay l o p name array (with_page_filled lay p content count print m)

pub record CanWriteFresh (lay : Layout) (top : ℕ) (m : Moment) (l o p : ℕ) (content count print name : List ℕ) : Type 0 where
  pub fills : CanFill lay top m p content count print
  pub in_range : l < lay.blocks
  pub was : cached_name lay m.world l ≡ o
  pub none_or_data : (o ≡ 0) ⊎ IsData lay o
  pub sets : SetsName lay (m.world.cached (lay.map_page l)) name l p
  pub opens : Closes m.world.live (lay.count_page p) (lay.map_page l) → ⊥

-- A write to a page that holds the content: its count is one higher, and the block takes its name.
abbrev pub with_page_raised : Layout → ℕ → List ℕ → Moment → Moment
with_page_raised lay p count m = with_count lay p count m.pool (in_state (touched (lay.count_page p) m.world) m)

abbrev pub raise_reach : Layout → ℕ → Reach
raise_reach lay p = both (mark_reach (lay.count_page p)) (count_reach p false)

abbrev pub with_found_write : Layout → ℕ → ℕ → ℕ → List ℕ → List ℕ → (ℕ → List (List ℕ)) → Moment → Moment
with_found_write lay l o p count name array m = with_page_named lay l o p name array (with_page_raised lay p count m)

pub record CanWriteFound (lay : Layout) (top : ℕ) (w : World) (l o p : ℕ) (content count name : List ℕ) : Type 0 where
  pub in_range : l < lay.blocks
  pub was : cached_name lay w l ≡ o
  pub none_or_data : (o ≡ 0) ⊎ IsData lay o
  pub is_data : IsData lay p
  pub other : p ≢ o
  pub holds : w.cached (lay.data_page p) ≡ content
  pub counted : 0 < cached_count lay w p
  pub below_top : cached_count lay w p < top
  pub sets_count : SetsCount lay (w.cached (lay.count_page p)) count p (cached_count lay w p + 1)
  pub sets : SetsName lay (w.cached (lay.map_page l)) name l p
  pub opens : Closes w.live (lay.count_page p) (lay.map_page l) → ⊥
