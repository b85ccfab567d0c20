-- The plain state after a call of the device.
use Rattle.std.proofs.Common.{◌≡◌, inl, inr, ℕ, Bool, true, false, cond, ◌||◌, refl, sym, ap, ◌∙◌, subst, List, [], ◌∷◌, ◌++◌, map, Option, Some, None, eqb, ne_eqb}
use Rattle.std.proofs.lemmas.Bool.{cases_eq, cases_Bool, or_left, or_right}
use Rattle.page_device.specs.Block.{Block}
use Rattle.page_device.specs.Chosen.{contents_of}
use Rattle.page_device.specs.Disk.{settled, written}
use Rattle.page_device.specs.Meaning.{Meaning}
use Rattle.page_cache.specs.View as cached
use Rattle.page_cache.specs.View.{CacheView, content_in, in_table, is_recent}
use Rattle.page_cache.specs.Calls.{Fixed, WrittenOut}
use Rattle.dep_graph.specs.Calls as graph
use Rattle.dep_graph.specs.Calls.{Wrote}
use Rattle.dep_graph.specs.Lists.{GraphLists, dirty_in}
use Rattle.dep_graph.specs.Pages.{holds}
use Rattle.release_queue.specs.Queued.{QueueLists, after_barrier, after_count_write, after_write}
use Rattle.engine_model.specs.Disk.{InRange, newest_on, older_on}
use Rattle.engine_model.specs.DeviceSteps.{barrier_made, page_taken, page_written}
use Rattle.engine_model.proofs.Disks.{all_after_write, flush_newest, newest_write}
use Rattle.engine_model.proofs.Same.{same_is}
use Rattle.store_core.specs.declared.Core.{Core}
use Rattle.store_core.specs.Layout.{lay_of}
use Rattle.store_core.specs.Views.{IsOver, held_or, plain_release, world_in, world_of}
use Rattle.store_core.proofs.Disk.{Reaches}
use Rattle.store_core.proofs.Releases.{moved_by_barrier, moved_by_write}

held_is : (core : Core) (d : Meaning) (at : ℕ) (c : Block) → content_in core.engine.cache at ≡ Some c → (world_of d core).cached at ≡ c
held_is core d at c e = ap (λ (o : Option Block). held_or o (newest_on d.state at)) e

-- the device is as it was, and so is each content
pub same_world : (d e : Meaning) (old : Core) (cache : CacheView) → e.state ≡ d.state → ((q : ℕ) → content_in cache q ≡ content_in old.engine.cache q)
    → world_in e cache old.engine.graph old.ledger.queue ≡ world_of d old
same_world d e old cache state contents = ap (λ x. world_in (record d { state = x }) cache old.engine.graph old.ledger.queue) state ∙ same_is (world_of d old) (world_in d cache old.engine.graph old.ledger.queue) (record {
  newest = λ a. refl;
  older = λ a. refl;
  cached = λ a. ap (λ (o : Option Block). held_or o (newest_on d.state a)) (contents a);
  dirty = λ a. refl;
  hung = λ a. refl;
  live = λ a b. refl;
  barred = λ a b. refl;
  queue = refl;
})

-- the cached content of a page was taken by the device
module _ (d e : Meaning) (old : Core) (page : ℕ) (c : Block) (r : Reaches d e (written d.state page c)) (held : content_in old.engine.cache page ≡ Some c) where
  newest_is : (a : ℕ) → newest_on e.state a ≡ (page_taken page (world_of d old)).newest a
  newest_is a = ap (λ x. newest_on x a) r.state_is ∙ newest_write d.state page a c ∙ ap (λ x. cond (eqb a page) x (newest_on d.state a)) (sym (held_is old d page c held))

  older_is : (a : ℕ) → older_on e.state a ≡ (page_taken page (world_of d old)).older a
  older_is a = ap (λ x. older_on x a) r.state_is ∙ all_after_write d.state page a c ∙ ap (λ x. older_on d.state a ++ cond (eqb a page) (x ∷ []) []) (sym (held_is old d page c held))

  -- a page that is not there is cached as it is read, and that is not this page
  cached_is : (a : ℕ) → held_or (content_in old.engine.cache a) (newest_on e.state a) ≡ held_or (content_in old.engine.cache a) (newest_on d.state a)
  cached_is a = elim (cases_eq a page) [
    | inl is ↦ ap (λ x. held_or (content_in old.engine.cache x) (newest_on e.state x)) is ∙ ap (λ (o : Option Block). held_or o (newest_on e.state page)) held
        ∙ sym (ap (λ (o : Option Block). held_or o (newest_on d.state page)) held) ∙ ap (λ x. held_or (content_in old.engine.cache x) (newest_on d.state x)) (sym is)
    | inr ne ↦ ap (held_or (content_in old.engine.cache a)) (ap (λ x. newest_on x a) r.state_is ∙ newest_write d.state page a c ∙ ap (λ b. cond b c (newest_on d.state a)) (ne_eqb a page ne))
  ]

  pub taken_world : (cache : CacheView) → ((q : ℕ) → content_in cache q ≡ content_in old.engine.cache q) → world_in e cache old.engine.graph old.ledger.queue ≡ page_taken page (world_of d old)
  taken_world cache contents = same_is (page_taken page (world_of d old)) (world_in e cache old.engine.graph old.ledger.queue) (record {
    newest = newest_is;
    older = older_is;
    cached = λ a. ap (λ (o : Option Block). held_or o (newest_on e.state a)) (contents a) ∙ cached_is a;
    dirty = λ a. refl;
    hung = λ a. refl;
    live = λ a b. refl;
    barred = λ a b. refl;
    queue = refl;
  })

  pub written_world : (cache : CacheView) (g : GraphLists) (queue : QueueLists) → WrittenOut old.engine.cache cache page → Wrote page old.engine.graph g
      → queue ≡ record old.ledger.queue { releases = map (after_count_write page) (map (after_write page) old.ledger.queue.releases) } → world_in e cache g queue ≡ page_written (lay_of old.shape) page (world_of d old)
  written_world cache g queue out wrote moved = same_is (page_written (lay_of old.shape) page (world_of d old)) (world_in e cache g queue) (record {
    newest = newest_is;
    older = older_is;
    cached = λ a. ap (λ (o : Option Block). held_or o (newest_on e.state a)) (out.content a) ∙ cached_is a;
    dirty = wrote.dirty;
    hung = wrote.hung;
    live = wrote.live;
    barred = wrote.barred;
    queue = ap (λ (q : QueueLists). map plain_release q.releases) moved ∙ moved_by_write old.shape page old.ledger.queue.releases old.whole.placed;
  })

-- a page that the cache let go was clean
let_go : (b : Bool) (o : Option Block) (n : Block) → held_or o n ≡ n → held_or (cond b o None) n ≡ held_or o n
let_go true o n clean = refl
let_go false o n clean = sym clean

pub table_dirty : (c : CacheView) (a : ℕ) → cached.dirty_in c a ≡ true → in_table c a ≡ true
table_dirty c a h = or_right _ _ (or_left _ _ h)

-- a barrier was made
module _ (d e : Meaning) (old : Core) (over : IsOver d old) (r : Reaches d e (settled d.state)) (cache : CacheView) (fixed : Fixed old.engine.cache cache) where
  newest_stays : (a : ℕ) → newest_on e.state a ≡ newest_on d.state a
  newest_stays a = ap (λ x. newest_on x a) r.state_is ∙ flush_newest d.state a (subst (λ (n : ℕ). InRange n d.state.since) (sym over.known.counts) over.known.in_range)

  one_is_left : (a : ℕ) → older_on e.state a ≡ newest_on d.state a ∷ []
  unfolding contents_of
  one_is_left a = ap (λ x. older_on x a) r.state_is ∙ ap (λ (c : Block). c ∷ []) (flush_newest d.state a (subst (λ (n : ℕ). InRange n d.state.since) (sym over.known.counts) over.known.in_range))

  cached_stays : (a : ℕ) → held_or (content_in cache a) (newest_on d.state a) ≡ held_or (content_in old.engine.cache a) (newest_on d.state a)
  cached_stays a = ap (λ (o : Option Block). held_or o (newest_on d.state a)) (fixed.content a) ∙ (elim (cases_Bool (dirty_in old.engine.graph a)) [
    | inl is ↦ ap (λ (b : Bool). held_or (cond b (content_in old.engine.cache a) None) (newest_on d.state a)) (or_left _ _ (table_dirty cache a (fixed.dirty a ∙ old.whole.engine_whole.dirty a ∙ is)))
    | inr off ↦ let_go (in_table cache a || is_recent cache a) (content_in old.engine.cache a) (newest_on d.state a) (over.clean a off)
  ])

  pub fixed_world : (g : GraphLists) (queue : QueueLists) → graph.Fixed old.engine.graph g → queue ≡ record old.ledger.queue { releases = map after_barrier old.ledger.queue.releases }
      → world_in e cache g queue ≡ barrier_made (world_of d old)
  fixed_world g queue moved pushed = same_is (barrier_made (world_of d old)) (world_in e cache g queue) (record {
    newest = newest_stays;
    older = one_is_left;
    cached = λ a. ap (held_or (content_in cache a)) (newest_stays a) ∙ cached_stays a;
    dirty = λ a. ap (λ (l : List ℕ). holds l a) moved.dirty;
    hung = λ a. ap (λ (l : List ℕ). holds l a) moved.hung;
    live = moved.live;
    barred = moved.barred;
    queue = ap (λ (q : QueueLists). map plain_release q.releases) pushed ∙ moved_by_barrier old.ledger.queue.releases;
  })
