-- The order of marks, edges and stages is a matter of marks, edges and queue alone.
use Rattle.std.proofs.Common.{◌≡◌, inl, inr, ℕ, true, false, refl, sym, ap, ◌∙◌, subst, List, [], ◌∷◌, map}
use Rattle.std.specs.List.{All}
use Rattle.std.proofs.lemmas.List.Elements.{All-cons, All-head, All-nil, All-tail}
use Rattle.page_device.specs.Meaning.{Meaning}
use Rattle.page_layout.specs.Shape.{ShapeView}
use Rattle.dep_graph.specs.Lists.{GraphLists, dirty_in, hung_in}
use Rattle.order_model.specs.World as plain
use Rattle.order_model.specs.World.{Layout, Queued, World}
use Rattle.release_queue.specs.declared.Release.{Release}
use Rattle.engine_model.specs.AnyDevice.{IsOrdered}
use Rattle.store_core.specs.declared.Core.{Core}
use Rattle.store_core.specs.Layout.{lay_of}
use Rattle.store_core.specs.Orderly.{Waits}
use Rattle.store_core.specs.Views.{plain_release, world_of}
use Rattle.store_core.specs.Whole.{IsPlaced}

-- the same marks, edges and queue
pub record SameOrder (w v : World) : Type 0 where
  pub dirty : (a : ℕ) → v.dirty a ≡ w.dirty a
  pub hung : (a : ℕ) → v.hung a ≡ w.hung a
  pub live : (a b : ℕ) → v.live a b ≡ w.live a b
  pub barred : (a b : ℕ) → v.barred a b ≡ w.barred a b
  pub queue : v.queue ≡ w.queue

pub ordered_as : (lay : Layout) (w v : World) → SameOrder w v → IsOrdered lay w → IsOrdered lay v
ordered_as lay w v s k = record {
  live_before = λ a b h. s.dirty a ∙ k.live_before a b (sym (s.live a b) ∙ h);
  edge_kinds = λ a b h. elim h [
    | inl l ↦ k.edge_kinds a b (inl (sym (s.live a b) ∙ l))
    | inr r ↦ k.edge_kinds a b (inr (sym (s.barred a b) ∙ r))
  ];
  zero_dirty = λ l p h. s.dirty (lay.map_page l) ∙ k.zero_dirty l p (was l p 0 h);
  one_hung = λ l p h. s.hung (lay.map_page l) ∙ k.one_hung l p (was l p 1 h);
  in_range = λ l p stage h. k.in_range l p stage (was l p stage h);
}
  where
    was : (l p stage : ℕ) → Queued v.queue l p stage → Queued w.queue l p stage
    was l p stage h = subst (λ (q : List plain.Release). Queued q l p stage) s.queue h

pub ordered_in : (d : Meaning) (new : Core) (shape : ShapeView) → new.shape ≡ shape → IsOrdered (lay_of shape) (world_of d new) → IsOrdered (lay_of new.shape) (world_of d new)
ordered_in d new shape same k = subst (λ (s : ShapeView). IsOrdered (lay_of s) (world_of d new)) (sym same) k

-- each release of the queue waits for its map page as its stage says
module _ (shape : ShapeView) (graph : GraphLists) where
  abbrev IsMarked : List plain.Release → Type 0
  IsMarked rs = (l p : ℕ) → (Queued rs l p 0 → dirty_in graph ((lay_of shape).map_page l) ≡ true) × (Queued rs l p 1 → hung_in graph ((lay_of shape).map_page l) ≡ true)

  all_wait : (rs : List Release) → All (IsPlaced shape) rs → IsMarked (map plain_release rs) → All (Waits graph) rs
  all_wait [] placed h = All-nil (Waits graph)
  all_wait (r ∷ rs) placed h =
      let at = (All-head (IsPlaced shape) r rs placed).map_at in
      All-cons (Waits graph) r rs (record {
        dirty = λ z. ap (dirty_in graph) at ∙ (h r.block r.page).0 (inl (refl, refl, z));
        hung = λ z. ap (hung_in graph) at ∙ (h r.block r.page).1 (inl (refl, refl, z));
      }) (all_wait rs (All-tail (IsPlaced shape) r rs placed) (λ l p. ((λ q. (h l p).0 (inr q)), (λ q. (h l p).1 (inr q)))))

-- the marks, edges and queue are said over a device, and do not depend on it
pub some_device : Meaning
some_device = record {
  honest = true;
  tells_pages = false;
  tells_log = false;
  tells_reads = false;
  pages = 0;
  faults = 0;
  calls = 0;
  reads = 0;
  state = record { fixed = []; since = [] };
  log = [];
}

pub they_wait : (core : Core) → ((d : Meaning) → IsOrdered (lay_of core.shape) (world_of d core)) → All (Waits core.engine.graph) core.ledger.queue.releases
they_wait core ordered = let k = ordered some_device in
    all_wait core.shape core.engine.graph core.ledger.queue.releases core.whole.placed (λ l p. (k.zero_dirty l p, k.one_hung l p))
