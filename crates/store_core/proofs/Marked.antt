-- A page that is dirty now, and an edge more.
use Rattle.std.proofs.Common.{arith, ◌≡◌, inl, inr, ◌<◌, ◌≤◌, ◌+◌, ℕ, Bool, true, false, cond, not, ◌&&◌, ◌||◌, refl, sym, ap, ◌∙◌, subst, List, Option, Some, eqb, length}
use Rattle.std.proofs.Math.Bool.{or-false}
use Rattle.std.proofs.lemmas.Bool.{cases_Bool}
use Rattle.std.specs.Prelude.{filter}
use Rattle.page_device.specs.Meaning.{Meaning}
use Rattle.page_device.specs.Block.{Block}
use Rattle.page_cache.specs.Calls.{Edited}
use Rattle.page_cache.specs.View.{CacheView, content_in}
use Rattle.order_model.specs.Paths.{Closes, LivePath, leg, via}
use Rattle.order_model.specs.World.{World}
use Rattle.dep_graph.specs.Lists.{GraphLists, IsGraph, barred_in, dirty_in, entered, hung_in, is_node, live_in, node_count}
use Rattle.dep_graph.specs.Pages.{holds}
use Rattle.dep_graph.proofs.CountLemmas.{entered_nodes, holds_placed}
use Rattle.release_queue.specs.Queued.{QueueLists}
use Rattle.flush_engine.specs.Edits.{Ordered}
use Rattle.flush_engine.specs.View.{EngineView}
use Rattle.flush_engine.specs.View.{IsWhole as IsWholeEngine}
use Rattle.engine_model.specs.Disk.{newest_on}
use Rattle.engine_model.specs.Entries.{EdgeKind, IsTable}
use Rattle.engine_model.specs.SmallSteps.{ordered, ordered_after, ordered_by_barrier, touched}
use Rattle.engine_model.specs.Invariant.{EngineInvariant}
use Rattle.engine_model.proofs.Quiet.{barred_keeps, either_keeps, touched_keeps}
use Rattle.engine_model.proofs.Same.{same_is}
use Rattle.store_core.specs.declared.Core.{Core}
use Rattle.store_core.specs.declared.ledger.Ledger.{Ledger}
use Rattle.store_core.specs.Layout.{lay_of, top}
use Rattle.store_core.specs.Views.{held_or, world_in, world_of}
use Rattle.store_core.specs.Edits.{Barred, Makes}
use Rattle.store_core.specs.Frames.{KeepsStands, OnlyEngine}
use Rattle.store_core.specs.Stands.{moment_of}
use Rattle.store_core.proofs.Edited.{kept_content, state_stands}
use Rattle.store_core.proofs.Clean.{apart_pages}

-- the page has the same content, and is dirty
pub touched_world : (d : Meaning) (old : Core) (cache : CacheView) (page : ℕ) (block : Block) → content_in old.engine.cache page ≡ Some block → Edited old.engine.cache cache page block
    → world_in d cache (entered page old.engine.graph) old.ledger.queue ≡ touched page (world_of d old)
touched_world d old cache page block held e = same_is (touched page (world_of d old)) (world_in d cache (entered page old.engine.graph) old.ledger.queue) (record {
  newest = λ a. refl;
  older = λ a. refl;
  cached = λ a. ap (λ (o : Option Block). held_or o (newest_on d.state a)) (kept_content old.engine.cache cache page block held e a);
  dirty = λ a. holds_placed page old.engine.graph.dirty a;
  hung = λ a. refl;
  live = λ a b. refl;
  barred = λ a b. refl;
  queue = refl;
})

pub entered_dirty : (page : ℕ) (g : GraphLists) (a : ℕ) → dirty_in (entered page g) a ≡ (dirty_in g a || eqb a page)
entered_dirty page g a = holds_placed page g.dirty a

one_more : (b : Bool) (n k : ℕ) → n ≡ cond b k (k + 1) → n ≤ k + 1
one_more true n k e = omega (arith, e)
one_more false n k e = omega (arith, e)

pub entered_count : (page : ℕ) (g : GraphLists) → IsGraph g → IsGraph (entered page g) → node_count (entered page g) ≤ node_count g + 1
entered_count page g was is = one_more (is_node g page) (node_count (entered page g)) (node_count g) (entered_nodes page g (entered page g) was is (λ a. holds_placed page g.dirty a) refl)

pub entered_spare : (page : ℕ) (g : GraphLists) → (is_node g page ≡ false → 0 < g.spare_nodes) → g.spare_nodes ≤ (entered page g).spare_nodes + 1
entered_spare page g some = elim (cases_Bool (is_node g page)) [
  | inl is ↦ rw is (omega arith)
  | inr off ↦ let lt = some off in rw off (omega (arith, lt))
]

pub touch_stands : (old new : Core) (page : ℕ) → IsTable (lay_of old.shape) page → OnlyEngine old new → Makes (touched page) old new → KeepsStands old new
touch_stands old new page table rest world = λ sound d array s.
    state_stands sound d old new array s rest.shape (ap (λ (l : Ledger). l.births) rest.ledger) (ap (λ (l : Ledger). l.pool) rest.ledger) (touched page (world_of d old)) (world d)
    (touched_keeps (lay_of old.shape) top sound (apart_pages old.shape) (moment_of d old array s.calls s.told) s.kept page table)

-- a way ends at a dirty page
way_dirty : (g : GraphLists) → IsGraph g → {a b : ℕ} → LivePath (live_in g) a b → dirty_in g b ≡ true
way_dirty g is (leg e) = (is.live_ends _ _ e).1
way_dirty g is (via e p) = way_dirty g is p

true_false : (b : Bool) → b ≡ true → b ≡ false → ⊥
true_false b h off = cc (h, off)

-- so an edge from a page that is not dirty closes nothing
pub opens_always : (g : GraphLists) (before after : ℕ) → IsGraph g → dirty_in g after ≡ true → (dirty_in g before ≡ true → Closes (live_in g) before after → ⊥) → Closes (live_in g) before after → ⊥
opens_always g before after is dirty opens closes = elim (cases_Bool (dirty_in g before)) [
  | inl on_it ↦ opens on_it closes
  | inr off ↦ elim closes [
    | inl same ↦ true_false (dirty_in g before) (ap (dirty_in g) same ∙ dirty) off
    | inr way ↦ true_false (dirty_in g before) (way_dirty g is way) off
  ]
]

pub same_nodes : (g h : GraphLists) → h.dirty ≡ g.dirty → h.hung ≡ g.hung → node_count h ≡ node_count g
same_nodes g h dirty hung = ap (λ (l : List ℕ). length l + length (filter (λ a. not (holds l a)) h.hung)) dirty ∙ ap (λ (l : List ℕ). length g.dirty + length (filter (λ a. not (dirty_in g a)) l)) hung

-- the edge that the marks ask for
module _ (d : Meaning) (cache : CacheView) (queue : QueueLists) (g h : GraphLists) (before after : ℕ) (o : Ordered before after g h) where
  abbrev w : World
  w = world_in d cache g queue

  world_is : (v : World) → v ≡ record w { live = v.live; barred = v.barred } → ((a b : ℕ) → live_in h a b ≡ v.live a b) → ((a b : ℕ) → barred_in h a b ≡ v.barred a b) → world_in d cache h queue ≡ v
  world_is v same live barred = same_is (record w { live = v.live; barred = v.barred }) (world_in d cache h queue) (record {
    newest = λ a. refl;
    older = λ a. refl;
    cached = λ a. refl;
    dirty = λ a. ap (λ (l : List ℕ). holds l a) o.dirty;
    hung = λ a. ap (λ (l : List ℕ). holds l a) o.hung;
    live = live;
    barred = barred;
    queue = refl;
  }) ∙ sym same

  abbrev or_barred : World
  or_barred = cond (hung_in g before) (ordered_by_barrier before after w) w

  no_live : dirty_in g before ≡ false → (a b : ℕ) → live_in h a b ≡ live_in g a b
  no_live off a b = o.live a b ∙ ap (λ (x : Bool). live_in g a b || (x && (eqb a before && eqb b after))) off ∙ or-false (live_in g a b)

  barred_if : (x y : Bool) → dirty_in g before ≡ x → hung_in g before ≡ y → (a b : ℕ) → barred_in h a b ≡ (barred_in g a b || ((not x && y) && (eqb a before && eqb b after)))
  barred_if x y e f a b = o.barred a b ∙ ap (λ (z : Bool). barred_in g a b || ((not z && hung_in g before) && (eqb a before && eqb b after))) e ∙ ap (λ (z : Bool). barred_in g a b || ((not x && z) && (eqb a before && eqb b after))) f

  not_dirty : dirty_in g before ≡ false → world_in d cache h queue ≡ or_barred
  not_dirty off = elim (cases_Bool (hung_in g before)) [
    | inl is ↦ world_is (ordered_by_barrier before after w) refl (no_live off) (barred_if false true off is)
        ∙ sym (ap (λ (b : Bool). cond b (ordered_by_barrier before after w) w) is)
    | inr dry ↦ world_is w refl (no_live off) (λ a b. barred_if false false off dry a b ∙ or-false (barred_in g a b))
        ∙ sym (ap (λ (b : Bool). cond b (ordered_by_barrier before after w) w) dry)
  ]

  pub ordered_world : world_in d cache h queue ≡ ordered_after before after w
  ordered_world = elim (cases_Bool (dirty_in g before)) [
    | inl is ↦ world_is (ordered before after w) refl (λ a b. o.live a b ∙ ap (λ (x : Bool). live_in g a b || (x && (eqb a before && eqb b after))) is)
        (λ a b. barred_if true (hung_in g before) is refl a b ∙ or-false (barred_in g a b))
        ∙ sym (ap (λ (b : Bool). cond b (ordered before after w) or_barred) is)
    | inr off ↦ not_dirty off ∙ sym (ap (λ (b : Bool). cond b (ordered before after w) or_barred) off)
  ]

pub order_stands : (old new : Core) (before after : ℕ) → EdgeKind (lay_of old.shape) before after → OnlyEngine old new → dirty_in old.engine.graph after ≡ true
    → (dirty_in old.engine.graph before ≡ true → Closes (live_in old.engine.graph) before after → ⊥) → Makes (ordered_after before after) old new → KeepsStands old new
order_stands old new before after kind rest dirty opens world = λ sound d array s.
    state_stands sound d old new array s rest.shape (ap (λ (l : Ledger). l.births) rest.ledger) (ap (λ (l : Ledger). l.pool) rest.ledger) (ordered_after before after (world_of d old)) (world d)
    (either_keeps (lay_of old.shape) top sound (apart_pages old.shape) (moment_of d old array s.calls s.told) s.kept before after kind dirty opens)

-- a barrier that comes first
module _ (d : Meaning) (cache : CacheView) (queue : QueueLists) (g h : GraphLists) (before after : ℕ) (o : Barred before after g h) where
  abbrev v : World
  v = world_in d cache g queue

  bar_is : (u : World) → u ≡ record v { barred = u.barred } → ((a b : ℕ) → barred_in h a b ≡ u.barred a b) → world_in d cache h queue ≡ u
  bar_is u same barred = same_is (record v { barred = u.barred }) (world_in d cache h queue) (record {
    newest = λ a. refl;
    older = λ a. refl;
    cached = λ a. refl;
    dirty = λ a. ap (λ (l : List ℕ). holds l a) o.dirty;
    hung = λ a. ap (λ (l : List ℕ). holds l a) o.hung;
    live = o.live;
    barred = barred;
    queue = refl;
  }) ∙ sym same

  pub barred_world : world_in d cache h queue ≡ cond (hung_in g before) (ordered_by_barrier before after v) v
  barred_world = elim (cases_Bool (hung_in g before)) [
    | inl is ↦ bar_is (ordered_by_barrier before after v) refl (λ a b. o.barred a b ∙ ap (λ (x : Bool). barred_in g a b || (x && (eqb a before && eqb b after))) is)
        ∙ sym (ap (λ (b : Bool). cond b (ordered_by_barrier before after v) v) is)
    | inr dry ↦ bar_is v refl (λ a b. o.barred a b ∙ ap (λ (x : Bool). barred_in g a b || (x && (eqb a before && eqb b after))) dry ∙ or-false (barred_in g a b))
        ∙ sym (ap (λ (b : Bool). cond b (ordered_by_barrier before after v) v) dry)
  ]

pub bar_stands : (old new : Core) (before after : ℕ) → EdgeKind (lay_of old.shape) before after → OnlyEngine old new → dirty_in old.engine.graph after ≡ true
    → Makes (λ w. cond (w.hung before) (ordered_by_barrier before after w) w) old new → KeepsStands old new
bar_stands old new before after kind rest dirty world = λ sound d array s.
    let w = world_of d old in
    let m = moment_of d old array s.calls s.told in
    let in_world : World → Type 0 = λ v. EngineInvariant (lay_of old.shape) top sound (record m { world = v }) in
    state_stands sound d old new array s rest.shape (ap (λ (l : Ledger). l.births) rest.ledger) (ap (λ (l : Ledger). l.pool) rest.ledger) (cond (w.hung before) (ordered_by_barrier before after w) w) (world d)
    (elim (cases_Bool (hung_in old.engine.graph before)) [
      | inl is ↦ subst in_world (sym (ap (λ (b : Bool). cond b (ordered_by_barrier before after w) w) is)) (barred_keeps (lay_of old.shape) top sound (apart_pages old.shape) m s.kept before after kind dirty is)
      | inr dry ↦ subst in_world (sym (ap (λ (b : Bool). cond b (ordered_by_barrier before after w) w) dry)) s.kept
    ])

-- of a graph that was lent
pub barred_lent : (g lent h : GraphLists) (before after : ℕ) → lent ≡ g → Barred before after lent h → Barred before after g h
barred_lent g lent h before after is o = subst (λ (x : GraphLists). Barred before after x h) is o

-- and so an engine is whole still
pub engine_barred : (e : EngineView) (h : GraphLists) (before after : ℕ) → IsWholeEngine e → Barred before after e.graph h → IsWholeEngine (record e { graph = h })
engine_barred e h before after w o = record {
  dirty = λ q. w.dirty q ∙ sym (ap (λ (l : List ℕ). holds l q) o.dirty);
  graph = o.graph;
  tallies = w.tallies ∙ sym o.dirty;
  room = let n = same_nodes e.graph h o.dirty o.hung in let le = w.room in omega (arith, n, le);
}
