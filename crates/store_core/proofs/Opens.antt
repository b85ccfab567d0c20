-- Edges that close no cycle, what a queued release waits for, and entries of pages that are there.
use Rattle.std.proofs.Common.{arith, ◌≡◌, ◌≢◌, inl, inr, ◌<◌, ◌≤◌, ◌-◌, ◌/◌, ℕ, true, false, sym, ◌∙◌, Some}
use Rattle.std.specs.Prelude.{slice_get}
use Rattle.std.proofs.lemmas.Bool.{true≢false}
use Rattle.page_layout.specs.Shape.{count_page, data_page, map_page, print_page, print_place}
use Rattle.page_layout.specs.Tables.{IsPrintEntry}
use Rattle.page_layout.proofs.FormedPages.{formed_print}
use Rattle.page_cache.specs.View.{is_there}
use Rattle.order_model.specs.Paths.{Closes}
use Rattle.dep_graph.specs.Lists.{dirty_in, live_in}
use Rattle.ref_counts.specs.Counts.{count_in}
use Rattle.release_queue.specs.declared.Release.{Release}
use Rattle.engine_model.proofs.Graphs.{way_begins, way_ends}
use Rattle.engine_model.proofs.Ordering.{data_open}
use Rattle.store_core.specs.declared.Core.{Core}
use Rattle.store_core.specs.Edits.{named_in}
use Rattle.store_core.specs.Layout.{lay_of}
use Rattle.store_core.specs.Orderly.{AreFormed, FewerEdges, IsOrderlyBut, Waits}
use Rattle.store_core.specs.Views.{page_in, world_of}
use Rattle.store_core.proofs.Clean.{apart_pages}
use Rattle.store_core.proofs.Good.{format}
use Rattle.store_core.proofs.Looks.{closes_more}
use Rattle.store_core.proofs.OrderMarks.{some_device, they_wait}
use Rattle.store_core.proofs.Owing.{all_at}
use Rattle.store_core.proofs.PrintedStands.{index_few}

pub none_to_data : (b : ℕ) (core : Core) → IsOrderlyBut b core → (a p : ℕ) → 1 ≤ p → p ≤ core.shape.pages → live_in core.engine.graph a (data_page core.shape p) ≡ false
none_to_data b core o a p first last = data_open (lay_of core.shape) (world_of some_device core) (o.ordered some_device) (apart_pages core.shape) a p (first, last)

pub data_opens : (b : ℕ) (core : Core) → IsOrderlyBut b core → (p after : ℕ) → 1 ≤ p → p ≤ core.shape.pages → after ≢ data_page core.shape p → Closes (live_in core.engine.graph) (data_page core.shape p) after → ⊥
data_opens b core o p after first last ne (inl e) = ne (sym e)
data_opens b core o p after first last ne (inr way) = let q = way_ends way in true≢false (sym q.1 ∙ none_to_data b core o q.0 p first last)

pub clean_before_opens : (core : Core) (before after : ℕ) → before ≢ after → dirty_in core.engine.graph before ≡ false → Closes (live_in core.engine.graph) before after → ⊥
clean_before_opens core before after ne off (inl e) = ne e
clean_before_opens core before after ne off (inr way) = let q = way_ends way in true≢false (sym (core.whole.engine_whole.graph.live_ends q.0 before q.1).1 ∙ off)

pub clean_after_opens : (core : Core) (before after : ℕ) → before ≢ after → dirty_in core.engine.graph after ≡ false → Closes (live_in core.engine.graph) before after → ⊥
clean_after_opens core before after ne off (inl e) = ne e
clean_after_opens core before after ne off (inr way) = let q = way_begins way in true≢false (sym (core.whole.engine_whole.graph.live_ends after q.0 q.1).0 ∙ off)

pub fewer_open : (old new : Core) (before after : ℕ) → FewerEdges old new → (Closes (live_in old.engine.graph) before after → ⊥) → Closes (live_in new.engine.graph) before after → ⊥
fewer_open old new before after fewer shut closes = shut (closes_more (live_in new.engine.graph) (live_in old.engine.graph) fewer before after closes)

pub waits_at : (b : ℕ) (core : Core) (i : ℕ) (r : Release) → IsOrderlyBut b core → slice_get core.ledger.queue.releases i ≡ Some r → Waits core.engine.graph r
waits_at b core i r o at = all_at (Waits core.engine.graph) core.ledger.queue.releases i r at (they_wait core o.ordered)

-- entries of pages that are there
pub name_fits : (core : Core) (block : ℕ) → AreFormed core → block < core.shape.blocks → is_there core.engine.cache (map_page block) ≡ true → named_in core block ≤ core.shape.pages
name_fits core block f lt there = elim ((format core.shape).names block (page_in core (map_page block)) lt (f (map_page block) there)) [
  | inl none ↦ omega (arith, none)
  | inr some ↦ some.1
]

pub count_fits : (core : Core) (p : ℕ) → AreFormed core → 1 ≤ p → p ≤ core.shape.pages → is_there core.engine.cache (count_page core.shape p) ≡ true → count_in (page_in core (count_page core.shape p)) p ≤ 2147483647
count_fits core p f first last there = (format core.shape).counts p (page_in core (count_page core.shape p)) (first, last) (f (count_page core.shape p) there)

pub print_fits : (core : Core) (p : ℕ) → AreFormed core → 1 ≤ p → p ≤ core.shape.pages → is_there core.engine.cache (print_page core.shape p) ≡ true → IsPrintEntry (page_in core (print_page core.shape p)) (print_place p)
print_fits core p f first last there =
    let is = (formed_print core.shape ((p - 1) / 170) (page_in core (print_page core.shape p)) (index_few core.shape p first last)).0 (f (print_page core.shape p) there) in
    is.used (print_place p) (omega arith) (omega (arith, first, last))
