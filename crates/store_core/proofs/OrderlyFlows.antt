-- Marks, edges, queue and tables after a step of the engine, and after a call.
use Rattle.std.proofs.Common.{◌≡◌, ◌≢◌, inl, inr, ◌<◌, ◌≤◌, ℕ, Bool, true, false, cond, ◌&&◌, ◌||◌, refl, sym, ap, ◌∙◌, subst, List, map, Option, None, eqb, ne_eqb, is_some, Result}
use Rattle.std.specs.List.{All}
use Rattle.std.proofs.lemmas.Bool.{and_parts, true≢false}
use Rattle.std.proofs.lemmas.List.Elements.{All-map}
use Rattle.page_device.specs.Block.{Block, zero_block}
use Rattle.page_device.specs.Meaning.{Meaning}
use Rattle.page_device.specs.declared.error.Failed.{Failed}
use Rattle.page_layout.specs.Shape.{ShapeView, total}
use Rattle.page_cache.specs.View.{content_in, holds_in}
use Rattle.order_model.specs.declared.Slot.TheVariants.{Print}
use Rattle.order_model.specs.Paths.{LivePath}
use Rattle.birth_marks.specs.Births.{is_unborn_in}
use Rattle.dep_graph.specs.Lists.{GraphLists, barred_in, dirty_in, hung_in, live_in}
use Rattle.dep_graph.specs.Pages.{holds}
use Rattle.dep_graph.specs.Schedules.{MakeBarrier, Step, WritePage}
use Rattle.release_queue.specs.declared.Release.{Release}
use Rattle.release_queue.specs.Queued.{QueueLists, after_barrier, after_count_write, after_write}
use Rattle.flush_engine.specs.Along.{steps_keep}
use Rattle.flush_engine.specs.Steps.{BarrierDone, BarrierFailed, StepDone, StepFailed, Steps, WriteDone, WriteFailed}
use Rattle.flush_engine.specs.View.{Moment, at}
use Rattle.engine_model.specs.DeviceSteps.{barrier_made, page_written}
use Rattle.engine_model.proofs.Graphs.{way_ends, way_longer}
use Rattle.engine_model.proofs.Ordering.{barrier_order, write_order}
use Rattle.engine_model.proofs.Ways.{way_avoids}
use Rattle.store_core.specs.declared.Core.{Core}
use Rattle.store_core.specs.declared.ledger.Ledger.{Ledger}
use Rattle.store_core.specs.Applied.{is_last_print, is_print_unborn}
use Rattle.store_core.specs.Layout.{lay_of}
use Rattle.store_core.specs.Ledger.{ledger_told}
use Rattle.store_core.specs.Orderly.{HasToWait, IsLookedBut, IsOrderlyBut}
use Rattle.store_core.specs.Owed.{IsProvided}
use Rattle.store_core.specs.Views.{held_or, plain_release, world_of}
use Rattle.store_core.specs.Whole.{IsPlaced, IsWhole}
use Rattle.store_core.proofs.Clean.{apart_pages}
use Rattle.store_core.proofs.Flowed.{table_held}
use Rattle.store_core.proofs.Going.{Goes, core_of, done_goes, failed_goes, goes_none, goes_then}
use Rattle.store_core.proofs.Looks.{all_both, born_fixed, born_tried, born_written, closes_more, count_same, last_still, print_same, waits_on}
use Rattle.store_core.proofs.OrderMarks.{ordered_as, ordered_in}
use Rattle.store_core.proofs.OrderlySteps.{formed_fewer, looked_on}
use Rattle.store_core.proofs.Owing.{HasPages, flows_provided, pages_held}
use Rattle.store_core.proofs.Releases.{moved_by_barrier, moved_by_write}
use Rattle.store_core.proofs.StepStands.{queue_written, ready_in}

or_off : (a b : Bool) → (a || b) ≡ false → (a ≡ false) × (b ≡ false)
or_off true b h = absurd (true≢false h)
or_off false b h = (refl, h)

cond_there : (b : Bool) (was now : Option Block) → now ≡ cond b was None → is_some now ≡ true → now ≡ was
cond_there true was now e h = e
cond_there false was now e h = absurd (true≢false (sym h ∙ ap is_some e))

module _ (p : ℕ) (d e : Meaning) (old new : Core) (shape : new.shape ≡ old.shape) where
  -- a release of which the pages keep their contents, and a print that a crash may leave is one still
  last_on : (r : Release) → content_in new.engine.cache r.count_at ≡ content_in old.engine.cache r.count_at → content_in new.engine.cache r.print_at ≡ content_in old.engine.cache r.print_at
      → (is_print_unborn old r ≡ false → is_print_unborn new r ≡ false) → is_last_print old r ≡ true → is_last_print new r ≡ true
  last_on r count print = last_still old new r
      (count_same old new r (ap (λ (o : Option Block). held_or o zero_block) count))
      (print_same old new r (ap (λ (o : Option Block). held_or o zero_block) print))

  -- A page was written, to which no edge led. The releases of a count page are marked then.
  module _ (page : ℕ) (w : WriteDone ledger_told page (at d old.engine old.ledger) (at e new.engine new.ledger)) where
    none_in : (a : ℕ) → live_in old.engine.graph a page ≡ false
    none_in a = (ready_in d old page w.ready).no_live a

    way_on : (r : Release) → r.count_at ≢ page → (a : ℕ) → LivePath (live_in old.engine.graph) r.count_at a → LivePath (live_in new.engine.graph) r.count_at a
    way_on r ne a way = way_longer (λ x y l. w.graph.live x y ∙ l) (way_avoids (live_in old.engine.graph) page none_in ne way)

    write_on : (r : Release) → IsPlaced old.shape r → r.count_at ≢ page → HasToWait old r → HasToWait new (after_count_write page (after_write page r))
    write_on r placed ne (inl z) = inl (ap (λ b. cond (b && eqb r.stage 0) 1 r.stage) (ne_eqb r.map_at page off) ∙ z.0, inr (way_on r ne r.map_at way))
      where
        way : LivePath (live_in old.engine.graph) r.count_at r.map_at
        way = elim z.1 [ inl same ↦ absurd ((apart_pages old.shape).map_count r.block r.page placed.block (placed.first, placed.last) (sym placed.map_at ∙ same ∙ placed.count_at)) | inr q ↦ q ]

        off : r.map_at ≢ page
        off is = let q = way_ends way in true≢false (sym q.1 ∙ ap (live_in old.engine.graph q.0) is ∙ none_in q.0)
    write_on r placed ne (inr f) = inr (
      last_on r (w.cache.content r.count_at) (w.cache.content r.print_at)
          (λ u. born_written w.between.births new.ledger.births page w.written.births (Print r.page) 1 (born_tried old.ledger.births w.between.births page w.tried.births (Print r.page) 1 u)) f.0,
      elim f.1 [ inl same ↦ inl same | inr way ↦ inr (way_on r ne r.print_at way) ],
    )

    looked_late : (r : Release) → IsPlaced old.shape r → IsLookedBut p old r → IsLookedBut p new (after_count_write page (after_write page r))
    looked_late r placed was ne off =
        let parts = or_off r.look (eqb r.count_at page) off in
        write_on r placed (λ is. true≢false (sym (Rattle.std.proofs.Common.eq-eqb r.count_at page is) ∙ parts.1)) (was ne parts.0)

    moved : new.ledger.queue ≡ record old.ledger.queue { releases = map (after_count_write page) (map (after_write page) old.ledger.queue.releases) }
    moved = queue_written old.ledger w.between new.ledger page w.tried w.written.queue

    write_orderly : IsOrderlyBut p old → IsOrderlyBut p new
    write_orderly o = record {
      ordered = λ x. ordered_in x new old.shape shape (ordered_as (lay_of old.shape) (page_written (lay_of old.shape) page (world_of x old)) (world_of x new) (record {
        dirty = w.graph.dirty;
        hung = w.graph.hung;
        live = w.graph.live;
        barred = w.graph.barred;
        queue = ap (λ (q : QueueLists). map plain_release q.releases) moved ∙ moved_by_write old.shape page old.ledger.queue.releases old.whole.placed;
      }) (write_order (lay_of old.shape) (world_of x old) (o.ordered x) page));
      looked = subst (λ (q : QueueLists). All (IsLookedBut p new) q.releases) (sym moved) (All-map (IsLookedBut p new) (after_count_write page) (map (after_write page) old.ledger.queue.releases)
          (All-map (λ r. IsLookedBut p new (after_count_write page r)) (after_write page) old.ledger.queue.releases
          (all_both (IsPlaced old.shape) (IsLookedBut p old) (λ r. IsLookedBut p new (after_count_write page (after_write page r))) looked_late old.ledger.queue.releases old.whole.placed o.looked)));
      formed = formed_fewer old new shape (λ q there. w.cache.content q) o.formed;
    }

  -- a write that failed
  failed_write_orderly : (page : ℕ) → WriteFailed ledger_told page (at d old.engine old.ledger) (at e new.engine new.ledger) → IsOrderlyBut p old → IsOrderlyBut p new
  failed_write_orderly page w o = record {
    ordered = λ x. ordered_in x new old.shape shape (ordered_as (lay_of old.shape) (world_of x old) (world_of x new) (record {
      dirty = λ a. ap (λ (g : GraphLists). dirty_in g a) w.graph;
      hung = λ a. ap (λ (g : GraphLists). hung_in g a) w.graph;
      live = λ a b. ap (λ (g : GraphLists). live_in g a b) w.graph;
      barred = λ a b. ap (λ (g : GraphLists). barred_in g a b) w.graph;
      queue = ap (λ (q : QueueLists). map plain_release q.releases) w.tried.queue;
    }) (o.ordered x));
    looked = looked_on p old new (IsPlaced old.shape) old.whole.placed w.tried.queue (λ r placed ne. waits_on old new r
        (λ a. closes_more (live_in old.engine.graph) (live_in new.engine.graph) (λ x y l. ap (λ (g : GraphLists). live_in g x y) w.graph ∙ l) a r.count_at)
        (last_on r (w.cache.content r.count_at) (w.cache.content r.print_at) (born_tried old.ledger.births new.ledger.births page w.tried.births (Print r.page) 1))) o.looked;
    formed = formed_fewer old new shape (λ q there. w.cache.content q) o.formed;
  }

  -- a barrier
  module _ (w : BarrierDone ledger_told (at d old.engine old.ledger) (at e new.engine new.ledger)) where
    stays_held : (q : ℕ) → 0 < holds_in old.engine.cache q → content_in new.engine.cache q ≡ content_in old.engine.cache q
    stays_held q h = w.cache.kept q (table_held new.engine.cache q (subst (λ (n : ℕ). 0 < n) (sym (w.cache.holds q)) h))

    barrier_on : (r : Release) → HasPages (holds_in old.engine.cache) r → HasToWait old r → HasToWait new (after_barrier r)
    barrier_on r h (inl z) = inl (ap (λ s. cond (eqb s 1) 2 s) z.0, closes_more (live_in old.engine.graph) (live_in new.engine.graph) (λ x y l. w.graph.live x y ∙ l) r.map_at r.count_at z.1)
    barrier_on r h (inr f) = inr (
      last_on r (stays_held r.count_at h.0) (stays_held r.print_at h.1) (born_fixed old.ledger.births new.ledger.births w.fixed.births (Print r.page) 1) f.0,
      closes_more (live_in old.engine.graph) (live_in new.engine.graph) (λ x y l. w.graph.live x y ∙ l) r.print_at r.count_at f.1,
    )

    barrier_orderly : IsProvided old → IsOrderlyBut p old → IsOrderlyBut p new
    barrier_orderly provided o = record {
      ordered = λ x. ordered_in x new old.shape shape (ordered_as (lay_of old.shape) (barrier_made (world_of x old)) (world_of x new) (record {
        dirty = λ a. ap (λ (l : List ℕ). holds l a) w.graph.dirty;
        hung = λ a. ap (λ (l : List ℕ). holds l a) w.graph.hung;
        live = w.graph.live;
        barred = w.graph.barred;
        queue = ap (λ (q : QueueLists). map plain_release q.releases) w.fixed.queue ∙ moved_by_barrier old.ledger.queue.releases;
      }) (barrier_order (lay_of old.shape) (world_of x old) (o.ordered x)));
      looked = subst (λ (q : QueueLists). All (IsLookedBut p new) q.releases) (sym w.fixed.queue) (All-map (IsLookedBut p new) after_barrier old.ledger.queue.releases
          (all_both (HasPages (holds_in old.engine.cache)) (IsLookedBut p old) (λ r. IsLookedBut p new (after_barrier r)) (λ r h was ne off. barrier_on r h (was ne off)) old.ledger.queue.releases
          (pages_held old.ledger.queue.releases (holds_in old.engine.cache) provided.holds_owed) o.looked));
      formed = formed_fewer old new shape (λ q there. cond_there _ _ _ (w.cache.content q) there) o.formed;
    }

  -- and one that failed
  failed_barrier_orderly : BarrierFailed ledger_told (at d old.engine old.ledger) (at e new.engine new.ledger) → IsOrderlyBut p old → IsOrderlyBut p new
  failed_barrier_orderly w o = record {
    ordered = λ x. ordered_in x new old.shape shape (ordered_as (lay_of old.shape) (world_of x old) (world_of x new) (record {
      dirty = λ a. ap (λ (g : GraphLists). dirty_in g a) w.graph;
      hung = λ a. ap (λ (g : GraphLists). hung_in g a) w.graph;
      live = λ a b. ap (λ (g : GraphLists). live_in g a b) w.graph;
      barred = λ a b. ap (λ (g : GraphLists). barred_in g a b) w.graph;
      queue = ap (λ (l : Ledger). map plain_release l.queue.releases) w.watch;
    }) (o.ordered x));
    looked = looked_on p old new (IsPlaced old.shape) old.whole.placed (ap (λ (l : Ledger). l.queue) w.watch) (λ r placed ne. waits_on old new r
        (λ a. closes_more (live_in old.engine.graph) (live_in new.engine.graph) (λ x y l. ap (λ (g : GraphLists). live_in g x y) w.graph ∙ l) a r.count_at)
        (last_on r (w.cache.content r.count_at) (w.cache.content r.print_at) (λ u. ap (λ (l : Ledger). is_unborn_in l.births (Print r.page) 1) w.watch ∙ u))) o.looked;
    formed = formed_fewer old new shape (λ q there. w.cache.content q) o.formed;
  }

-- from one moment of a call to a later one
pub record Orders (shape : ShapeView) (a b : Moment Ledger) : Type 0 where
  pub goes : Goes shape a b
  pub orderly : total shape ≤ a.device.pages → (w : IsWhole shape a.engine a.watch) (v : IsWhole shape b.engine b.watch) (p : ℕ) → IsProvided (core_of shape a w) → IsOrderlyBut p (core_of shape a w) → IsOrderlyBut p (core_of shape b v)
  pub fewer : (x y : ℕ) → live_in b.engine.graph x y ≡ true → live_in a.engine.graph x y ≡ true

module _ (shape : ShapeView) where
  orders_none : (a : Moment Ledger) → Orders shape a a
  orders_none a = record { goes = goes_none shape a; orderly = λ room w v p provided o. record { ordered = o.ordered; looked = o.looked; formed = o.formed }; fewer = λ x y l. l }

  orders_then : (a b c : Moment Ledger) → Orders shape a b → Orders shape b c → Orders shape a c
  orders_then a b c h k = record {
    goes = goes_then shape a b c h.goes k.goes;
    orderly = λ room w v p provided o.
        let mid = h.goes.whole room w in
        k.orderly (subst (λ (n : ℕ). total shape ≤ n) (sym h.goes.pages) room) mid v p (flows_provided a.device b.device (core_of shape a w) (core_of shape b mid) provided (h.goes.flows room w mid)) (h.orderly room w mid p provided o);
    fewer = λ x y l. h.fewer x y (k.fewer x y l);
  }

  done_orders : (s : Step) (a b : Moment Ledger) → StepDone ledger_told s a b → Orders shape a b
  done_orders (WritePage page) a b w = record {
    goes = done_goes shape (WritePage page) a b w;
    orderly = λ room was v p provided o. write_orderly p a.device b.device (core_of shape a was) (core_of shape b v) refl page w o;
    fewer = λ x y l. (and_parts _ _ (sym (w.graph.live x y) ∙ l)).0;
  }
  done_orders MakeBarrier a b w = record {
    goes = done_goes shape MakeBarrier a b w;
    orderly = λ room was v p provided o. barrier_orderly p a.device b.device (core_of shape a was) (core_of shape b v) refl w provided o;
    fewer = λ x y l. sym (w.graph.live x y) ∙ l;
  }

  failed_orders : (s : Step) (a b : Moment Ledger) → StepFailed ledger_told s a b → Orders shape a b
  failed_orders (WritePage page) a b w = record {
    goes = failed_goes shape (WritePage page) a b w;
    orderly = λ room was v p provided o. failed_write_orderly p a.device b.device (core_of shape a was) (core_of shape b v) refl page w o;
    fewer = λ x y l. ap (λ (g : GraphLists). live_in g x y) (sym w.graph) ∙ l;
  }
  failed_orders MakeBarrier a b w = record {
    goes = failed_goes shape MakeBarrier a b w;
    orderly = λ room was v p provided o. failed_barrier_orderly p a.device b.device (core_of shape a was) (core_of shape b v) refl w o;
    fewer = λ x y l. ap (λ (g : GraphLists). live_in g x y) (sym w.graph) ∙ l;
  }

  -- a call of the engine
  pub call_orders : {A : Type 0} (result : Result A Failed) (a b : Moment Ledger) → Steps ledger_told result a b → Orders shape a b
  call_orders result a b steps = steps_keep ledger_told (Orders shape) orders_none orders_then done_orders failed_orders result a b steps
