-- A step of the engine keeps what a core stands for.
use Rattle.std.proofs.Common.{arith, ◌≡◌, ◌≢◌, inl, inr, ◌<◌, ◌≤◌, ℕ, Bool, true, cond, refl, sym, ap, ◌∙◌, subst, List, ◌∷◌, map, ne_eqb}
use Rattle.std.proofs.lemmas.Bool.{and_parts, cases_Bool, not-true, true≢false}
use Rattle.page_device.specs.Block.{Block}
use Rattle.page_device.specs.Meaning.{Meaning}
use Rattle.page_layout.specs.Shape.{ShapeView, count_page}
use Rattle.dep_graph.specs.Lists.{GraphLists, dirty_in, is_ready}
use Rattle.dep_graph.proofs.ReadyLemmas.{waited_for}
use Rattle.release_queue.specs.Queued.{QueueLists, after_count_write, after_write}
use Rattle.birth_marks.proofs.CallLemmas.{fixed_remembered, tried_remembered, written_remembered}
use Rattle.page_alloc.specs.Pool.{IsLaidOut, IsTold, PoolView, told_of}
use Rattle.order_model.specs.Calls.{Fixed, Tried, Written}
use Rattle.order_model.specs.Pool.{Told, after_fixed, after_tried, after_written}
use Rattle.order_model.specs.World.{IsData, World}
use Rattle.engine_model.specs.Disk.{newest_on}
use Rattle.engine_model.specs.DeviceSteps.{IsReady, barrier_made, page_taken, page_written}
use Rattle.engine_model.proofs.DeviceMoves.{barrier_made_keeps, page_refused_kept, page_taken_kept, page_written_kept}
use Rattle.flush_engine.specs.Steps.{BarrierDone, BarrierFailed, WriteDone, WriteFailed}
use Rattle.flush_engine.specs.View.{at}
use Rattle.store_core.specs.declared.Core.{Core}
use Rattle.store_core.specs.declared.ledger.Ledger.{Ledger}
use Rattle.store_core.specs.Layout.{lay_of, place_of, top}
use Rattle.store_core.specs.Ledger.{IsTried, ledger_told}
use Rattle.store_core.specs.Views.{world_in, world_of}
use Rattle.store_core.specs.Stands.{StandsFor, moment_of}
use Rattle.store_core.proofs.Clean.{apart_pages, dirty_there, over}
use Rattle.store_core.proofs.Disk.{barrier_done, barrier_failed, write_done, write_failed}
use Rattle.store_core.proofs.Stood.{stands_then}
use Rattle.store_core.proofs.Worlds.{fixed_world, same_world, taken_world, written_world}

pub ready_in : (d : Meaning) (core : Core) (page : ℕ) → is_ready core.engine.graph page ≡ true → IsReady (world_of d core) page
ready_in d core page r = let still = not-true _ (and_parts _ _ r).1 in record {
  dirty = (and_parts _ _ r).0;
  no_live = λ a. elim (cases_Bool ((world_of d core).live a page)) [
    | inr none ↦ none
    | inl is ↦ absurd (true≢false (sym ((waited_for core.engine.graph page).1 (a, inl is)) ∙ still))
  ];
  no_barred = λ a. elim (cases_Bool ((world_of d core).barred a page)) [
    | inr none ↦ none
    | inl is ↦ absurd (true≢false (sym ((waited_for core.engine.graph page).1 (a, inr is)) ∙ still))
  ];
}

-- the layout of the image is that of the pool
pub laid_out : (kept shape : ShapeView) → kept ≡ shape → IsLaidOut kept (lay_of shape)
laid_out kept shape e = record { pages = ap (λ (x : ShapeView). x.pages) (sym e); count_page = λ p. ap (λ (x : ShapeView). count_page x p) (sym e) }

-- the queue after a try and a write
pub queue_written : (old between new : Ledger) (page : ℕ) → IsTried old page between → new.queue ≡ record between.queue { releases = map (after_count_write page) (map (after_write page) between.queue.releases) }
    → new.queue ≡ record old.queue { releases = map (after_count_write page) (map (after_write page) old.queue.releases) }
queue_written old between new page tried moved = moved ∙ ap (λ (q : QueueLists). record q { releases = map (after_count_write page) (map (after_write page) q.releases) }) tried.queue

-- of a pool that knows the image's shape
few_of : (core : Core) (p : ℕ) → IsData (lay_of core.shape) p → p ≤ core.ledger.pool.shape.pages
few_of core p is = subst (λ (x : ShapeView). p ≤ x.pages) (sym core.whole.pool_shape) is.1

module _ (sound : Bool) (d e : Meaning) (old new : Core) (array : ℕ → List Block) (shape : new.shape ≡ old.shape) (s : StandsFor sound d old array) where
  -- a page that is written is one of the device, and not the first
  of_device : (page : ℕ) → is_ready old.engine.graph page ≡ true → page < d.pages
  of_device page ready = omega (arith, old.whole.within page (dirty_there old.engine.cache page (old.whole.engine_whole.dirty page ∙ (and_parts _ _ ready).0)), s.of_shape.sized)

  not_first : (page : ℕ) → is_ready old.engine.graph page ≡ true → 0 ≢ page
  not_first page ready is = true≢false (sym (and_parts _ _ ready).0 ∙ ap (dirty_in old.engine.graph) (sym is) ∙ s.kept.contents.first_page.clean)

  first_stays : (page : ℕ) → is_ready old.engine.graph page ≡ true → (page_taken page (world_of d old)).newest 0 ≡ newest_on d.state 0
  first_stays page ready = ap (λ b. cond b ((world_of d old).cached page) (newest_on d.state 0)) (ne_eqb 0 page (not_first page ready))

  told_tried : (page : ℕ) (after : PoolView) → IsTold old.ledger.pool.shape (after_tried (lay_of old.shape) page (told_of old.ledger.pool)) after
      → (p : ℕ) → IsData (lay_of old.shape) p → told_of after p ≡ after_tried (lay_of old.shape) page s.told p
  told_tried page after told p is = told.each p is.0 (few_of old p is) ∙ ap (λ (x : Told). after_tried (lay_of old.shape) page (λ q. x) p) (s.pool p is)

  abbrev SameCachedPages : Type 0
  SameCachedPages = (q : ℕ) → (world_of e new).cached q ≡ (world_of d old).cached q

  cached_by : (w : World) → world_of e new ≡ w → ((q : ℕ) → w.cached q ≡ (world_of d old).cached q) → SameCachedPages
  cached_by w is same q = ap (λ (x : World). x.cached q) is ∙ same q

  world_written : (page : ℕ) → WriteDone ledger_told page (at d old.engine old.ledger) (at e new.engine new.ledger) → world_of e new ≡ page_written (lay_of old.shape) page (world_of d old)
  world_written page w =
      let r = write_done d e s.known page w.call.block (of_device page w.ready) w.call.call in
      written_world d e old page w.call.block r w.call.is new.engine.cache new.engine.graph new.ledger.queue w.cache w.graph (queue_written old.ledger w.between new.ledger page w.tried w.written.queue)

  pub write_cached : (page : ℕ) → WriteDone ledger_told page (at d old.engine old.ledger) (at e new.engine new.ledger) → SameCachedPages
  write_cached page w = cached_by (page_written (lay_of old.shape) page (world_of d old)) (world_written page w) (λ q. refl)

  pub write_stands : (page : ℕ) → WriteDone ledger_told page (at d old.engine old.ledger) (at e new.engine new.ledger) → StandsFor sound e new array
  write_stands page w =
      let lay = lay_of old.shape in
      let r = write_done d e s.known page w.call.block (of_device page w.ready) w.call.call in
      let told = w.tried.pool lay (laid_out old.ledger.pool.shape old.shape old.whole.pool_shape) in
      let retold = w.written.pool lay (laid_out w.between.pool.shape old.shape (told.same_shape ∙ old.whole.pool_shape)) in
      stands_then sound d e old new array s r.known r.pages shape (Written page ∷ (Tried page ∷ s.calls)) (after_written lay page (after_tried lay page s.told)) (page_written lay page (world_of d old))
      (world_written page w)
      (first_stays page w.ready)
      (page_written_kept lay top sound (apart_pages old.shape) (moment_of d old array s.calls s.told) s.kept page (ready_in d old page w.ready))
      (written_remembered (place_of old.shape) w.between.births new.ledger.births (Tried page ∷ s.calls)
      (tried_remembered (place_of old.shape) old.ledger.births w.between.births s.calls s.births page w.tried.births) page w.written.births)
      (λ p is. retold.each p is.0 (subst (λ (x : ShapeView). p ≤ x.pages) (sym told.same_shape) (few_of old p is))
      ∙ ap (λ (x : Told). after_written lay page (λ q. x) p) (told_tried page w.between.pool told p is))

  -- the write failed, and was taken or not
  same_marks : (page : ℕ) → WriteFailed ledger_told page (at d old.engine old.ledger) (at e new.engine new.ledger) → world_of e new ≡ world_in e new.engine.cache old.engine.graph old.ledger.queue
  same_marks page w = ap (λ (g : GraphLists). world_in e new.engine.cache g new.ledger.queue) w.graph ∙ ap (λ (q : QueueLists). world_in e new.engine.cache old.engine.graph q) w.tried.queue

  pub failed_write_cached : (page : ℕ) → WriteFailed ledger_told page (at d old.engine old.ledger) (at e new.engine new.ledger) → SameCachedPages
  failed_write_cached page w = elim (write_failed d e s.known page w.call.block w.failed (of_device page w.ready) w.call.call) [
    | inl r ↦ cached_by (page_taken page (world_of d old)) (same_marks page w ∙ taken_world d e old page w.call.block r w.call.is new.engine.cache w.cache.content) (λ q. refl)
    | inr r ↦ cached_by (world_of d old) (same_marks page w ∙ same_world d e old new.engine.cache r.state_is w.cache.content) (λ q. refl)
  ]

  pub failed_write_stands : (page : ℕ) → WriteFailed ledger_told page (at d old.engine old.ledger) (at e new.engine new.ledger) → StandsFor sound e new array
  failed_write_stands page w =
      let lay = lay_of old.shape in
      let m = moment_of d old array s.calls s.told in
      let births = tried_remembered (place_of old.shape) old.ledger.births new.ledger.births s.calls s.births page w.tried.births in
      let pool = told_tried page new.ledger.pool (w.tried.pool lay (laid_out old.ledger.pool.shape old.shape old.whole.pool_shape)) in
      let marks = same_marks page w in
      elim (write_failed d e s.known page w.call.block w.failed (of_device page w.ready) w.call.call) [
        | inl r ↦ stands_then sound d e old new array s r.known r.pages shape (Tried page ∷ s.calls) (after_tried lay page s.told) (page_taken page (world_of d old))
            (marks ∙ taken_world d e old page w.call.block r w.call.is new.engine.cache w.cache.content) (first_stays page w.ready)
            (page_taken_kept lay top sound (apart_pages old.shape) m s.kept page (ready_in d old page w.ready)) births pool
        | inr r ↦ stands_then sound d e old new array s r.known r.pages shape (Tried page ∷ s.calls) (after_tried lay page s.told) (world_of d old)
            (marks ∙ same_world d e old new.engine.cache r.state_is w.cache.content) refl
            (page_refused_kept lay top sound (apart_pages old.shape) m s.kept page) births pool
      ]

  world_fixed : BarrierDone ledger_told (at d old.engine old.ledger) (at e new.engine new.ledger) → world_of e new ≡ barrier_made (world_of d old)
  world_fixed w = fixed_world d e old (over sound d old array s) (barrier_done d e s.known w.call) new.engine.cache w.cache new.engine.graph new.ledger.queue w.graph w.fixed.queue

  pub barrier_cached : BarrierDone ledger_told (at d old.engine old.ledger) (at e new.engine new.ledger) → SameCachedPages
  barrier_cached w = cached_by (barrier_made (world_of d old)) (world_fixed w) (λ q. refl)

  pub barrier_stands : BarrierDone ledger_told (at d old.engine old.ledger) (at e new.engine new.ledger) → StandsFor sound e new array
  barrier_stands w =
      let r = barrier_done d e s.known w.call in
      stands_then sound d e old new array s r.known r.pages shape (Fixed ∷ s.calls) (after_fixed s.told) (barrier_made (world_of d old))
      (world_fixed w) refl
      (barrier_made_keeps (lay_of old.shape) top sound (apart_pages old.shape) (moment_of d old array s.calls s.told) s.kept)
      (fixed_remembered (place_of old.shape) old.ledger.births new.ledger.births s.calls s.births w.fixed.births)
      (λ p is. w.fixed.pool.each p is.0 (few_of old p is) ∙ ap (λ (x : Told). after_fixed (λ q. x) p) (s.pool p is))

  world_unfixed : BarrierFailed ledger_told (at d old.engine old.ledger) (at e new.engine new.ledger) → world_of e new ≡ world_of d old
  world_unfixed w = ap (λ (g : GraphLists). world_in e new.engine.cache g new.ledger.queue) w.graph ∙ ap (λ (l : Ledger). world_in e new.engine.cache old.engine.graph l.queue) w.watch
      ∙ same_world d e old new.engine.cache (barrier_failed d e s.known w.failed w.call).state_is w.cache.content

  pub failed_barrier_cached : BarrierFailed ledger_told (at d old.engine old.ledger) (at e new.engine new.ledger) → SameCachedPages
  failed_barrier_cached w = cached_by (world_of d old) (world_unfixed w) (λ q. refl)

  pub failed_barrier_stands : BarrierFailed ledger_told (at d old.engine old.ledger) (at e new.engine new.ledger) → StandsFor sound e new array
  failed_barrier_stands w =
      let r = barrier_failed d e s.known w.failed w.call in
      stands_then sound d e old new array s r.known r.pages shape s.calls s.told (world_of d old)
      (world_unfixed w) refl s.kept
      (subst (λ (l : Ledger). Rattle.birth_marks.specs.Births.Remembers (place_of old.shape) l.births s.calls) (sym w.watch) s.births)
      (λ p is. ap (λ (l : Ledger). told_of l.pool p) w.watch ∙ s.pool p is)
