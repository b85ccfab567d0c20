-- Marks, edges, queue and tables after each step that leaves the device.
use Rattle.std.proofs.Common.{arith, ◌≡◌, ◌≢◌, inl, inr, ◌<◌, ◌≤◌, ◌+◌, ℕ, Bool, true, false, cond, ◌&&◌, ◌||◌, not, refl, sym, ap, ◌∙◌, subst, List, [], ◌∷◌, ◌++◌, map, Option, Some, None, eqb, ne_eqb, is_some}
use Rattle.std.specs.List.{All}
use Rattle.std.proofs.lemmas.Bool.{cases_Bool, or_left}
use Rattle.std.proofs.lemmas.List.Elements.{All-map}
use Rattle.page_device.specs.Block.{Block, zero_block}
use Rattle.page_device.specs.Meaning.{Meaning}
use Rattle.page_layout.specs.Formed.{is_formed}
use Rattle.page_layout.specs.Shape.{ShapeView}
use Rattle.page_cache.specs.View.{CacheView, content_in, holds_in, is_there}
use Rattle.order_model.specs.Edges.{Edge}
use Rattle.order_model.specs.declared.Slot.TheVariants.{Print}
use Rattle.order_model.specs.World as plain
use Rattle.order_model.specs.World.{IsData}
use Rattle.birth_marks.specs.Births.{is_unborn_in}
use Rattle.dep_graph.specs.Lists.{GraphLists, barred_in, dirty_in, entered, hung_in, live_in}
use Rattle.dep_graph.specs.Pages.{holds}
use Rattle.release_queue.specs.declared.Release.{Release}
use Rattle.release_queue.specs.Queued.{QueueLists, after_change}
use Rattle.flush_engine.specs.Edits.{Ordered}
use Rattle.flush_engine.specs.View.{EngineView}
use Rattle.engine_model.specs.AnyDevice.{IsOrdered}
use Rattle.engine_model.specs.Entries.{EdgeKind}
use Rattle.engine_model.specs.SmallSteps.{ordered_after, ordered_by_barrier, touched}
use Rattle.engine_model.proofs.Ordering.{barred_order, order_order, touch_order}
use Rattle.store_core.specs.declared.Core.{Core}
use Rattle.store_core.specs.declared.ledger.Ledger.{Ledger}
use Rattle.store_core.specs.Edits.{Barred, Makes}
use Rattle.store_core.specs.Frames.{OnlyEngine, SameHolds}
use Rattle.store_core.specs.Layout.{lay_of}
use Rattle.store_core.specs.Orderly.{AreFormed, HasToWait, IsLooked, IsLookedBut, IsOrderly, IsOrderlyBut}
use Rattle.store_core.specs.Owed.{IsProvided, held_for_all}
use Rattle.store_core.specs.Quiet.{GivesBack, Quiet, SameRest}
use Rattle.store_core.specs.Views.{held_or, page_in, plain_release, world_of}
use Rattle.store_core.specs.Whole.{IsPlaced}
use Rattle.store_core.proofs.Looks.{all_both, closes_more, count_same, last_still, print_same, unborn_same, waits_on}
use Rattle.store_core.proofs.OrderMarks.{ordered_as, ordered_in}
use Rattle.store_core.proofs.Owing.{HasPages, pages_held}

-- no release is of page 0
pub orderly_but : (p : ℕ) (core : Core) → IsOrderly core → IsOrderlyBut p core
orderly_but p core o = record {
  ordered = o.ordered;
  looked = all_both (IsLooked core) (IsLooked core) (IsLookedBut p core) (λ r was again ne. was) core.ledger.queue.releases o.looked o.looked;
  formed = o.formed;
}

pub orderly_all : (core : Core) → IsOrderlyBut 0 core → IsOrderly core
orderly_all core o = record {
  ordered = o.ordered;
  looked = all_both (IsPlaced core.shape) (IsLookedBut 0 core) (IsLooked core) (λ r placed was. let first = placed.first in was (λ e. omega (arith, e, first))) core.ledger.queue.releases core.whole.placed o.looked;
  formed = o.formed;
}

-- what is there keeps its content, or is gone
pub formed_fewer : (old new : Core) → new.shape ≡ old.shape → ((q : ℕ) → is_there new.engine.cache q ≡ true → content_in new.engine.cache q ≡ content_in old.engine.cache q) → AreFormed old → AreFormed new
formed_fewer old new shape same f q there =
    let e = same q there in
    subst (λ (s : ShapeView). is_formed s q (page_in new q) ≡ true) (sym shape)
    (ap (λ (o : Option Block). is_formed old.shape q (held_or o zero_block)) e ∙ f q (ap is_some (sym e) ∙ there))

pub formed_back : (less : ℕ → ℕ) (old new : Core) → GivesBack less old new → AreFormed old → AreFormed new
formed_back less old new k = formed_fewer old new k.rest.shape k.stay

pub formed_cache : (old new : Core) → new.shape ≡ old.shape → new.engine.cache ≡ old.engine.cache → AreFormed old → AreFormed new
formed_cache old new shape cache = formed_fewer old new shape (λ q there. ap (λ (c : CacheView). content_in c q) cache)

-- the same pages
pub formed_same : (old new : Core) → new.shape ≡ old.shape → ((q : ℕ) → is_there new.engine.cache q ≡ is_there old.engine.cache q) → ((q : ℕ) → page_in new q ≡ page_in old q) → AreFormed old → AreFormed new
formed_same old new shape there same f q h =
    subst (λ (s : ShapeView). is_formed s q (page_in new q) ≡ true) (sym shape) (ap (is_formed old.shape q) (same q) ∙ f q (sym (there q) ∙ h))

module _ (p : ℕ) (old new : Core) where
  -- the queue stays, and each release that has to wait has to wait still
  pub looked_on : (H : Release → Type 0) → All H old.ledger.queue.releases → new.ledger.queue ≡ old.ledger.queue → ((r : Release) → H r → r.page ≢ p → HasToWait old r → HasToWait new r)
      → All (IsLookedBut p old) old.ledger.queue.releases → All (IsLookedBut p new) new.ledger.queue.releases
  looked_on H each queue on looked = subst (λ (q : QueueLists). All (IsLookedBut p new) q.releases) (sym queue)
      (all_both H (IsLookedBut p old) (IsLookedBut p new) (λ r h was ne off. on r h ne (was ne off)) old.ledger.queue.releases each looked)

  -- edges and pages that are held stay
  pub rest_on : SameRest old new → (r : Release) → content_in new.engine.cache r.count_at ≡ content_in old.engine.cache r.count_at → content_in new.engine.cache r.print_at ≡ content_in old.engine.cache r.print_at → HasToWait old r → HasToWait new r
  rest_on rest r count print = waits_on old new r
      (λ a. closes_more (live_in old.engine.graph) (live_in new.engine.graph) (λ x y l. ap (λ (es : List Edge). live_in (record old.engine.graph { edges = es }) x y) rest.graph.edges ∙ l) a r.count_at)
      (last_still old new r
      (count_same old new r (ap (λ (o : Option Block). held_or o zero_block) count))
      (print_same old new r (ap (λ (o : Option Block). held_or o zero_block) print))
      (λ u. unborn_same old.ledger.births new.ledger.births rest.births (Print r.page) 1 ∙ u))

  rest_ordered : SameRest old new → ((d : Meaning) → IsOrdered (lay_of old.shape) (world_of d old)) → (d : Meaning) → IsOrdered (lay_of new.shape) (world_of d new)
  rest_ordered rest ordered d = ordered_in d new old.shape rest.shape (ordered_as (lay_of old.shape) (world_of d old) (world_of d new) (record {
    dirty = λ a. ap (λ (l : List ℕ). holds l a) rest.graph.dirty;
    hung = λ a. ap (λ (l : List ℕ). holds l a) rest.graph.hung;
    live = λ a b. ap (λ (es : List Edge). live_in (record old.engine.graph { edges = es }) a b) rest.graph.edges;
    barred = λ a b. ap (λ (es : List Edge). barred_in (record old.engine.graph { edges = es }) a b) rest.graph.edges;
    queue = ap (λ (q : QueueLists). map plain_release q.releases) rest.queue;
  }) (ordered d))

  pub quiet_orderly : (more : ℕ → ℕ) (d e : Meaning) → IsProvided old → Quiet more d e old new → AreFormed new → IsOrderlyBut p old → IsOrderlyBut p new
  quiet_orderly more d e provided k formed o = record {
    ordered = rest_ordered k.rest o.ordered;
    looked = looked_on (HasPages (holds_in old.engine.cache)) (pages_held old.ledger.queue.releases (holds_in old.engine.cache) provided.holds_owed) k.rest.queue
        (λ r h ne. rest_on k.rest r (k.held r.count_at h.0) (k.held r.print_at h.1)) o.looked;
    formed = formed;
  }

  pub back_orderly : (less : ℕ → ℕ) → IsProvided new → GivesBack less old new → AreFormed new → IsOrderlyBut p old → IsOrderlyBut p new
  back_orderly less provided k formed o = record {
    ordered = rest_ordered k.rest o.ordered;
    looked = looked_on (HasPages (holds_in new.engine.cache)) (pages_held old.ledger.queue.releases (holds_in new.engine.cache)
        (λ q. subst (λ (x : QueueLists). held_for_all x.releases q ≤ holds_in new.engine.cache q) k.rest.queue (provided.holds_owed q))) k.rest.queue
        (λ r h ne. rest_on k.rest r (k.held r.count_at h.0) (k.held r.print_at h.1)) o.looked;
    formed = formed;
  }

  -- the ledger and each page stay, and there are no fewer edges
  grown_on : new.ledger ≡ old.ledger → ((q : ℕ) → page_in new q ≡ page_in old q) → ((a b : ℕ) → live_in old.engine.graph a b ≡ true → live_in new.engine.graph a b ≡ true)
      → All (IsLookedBut p old) old.ledger.queue.releases → All (IsLookedBut p new) new.ledger.queue.releases
  grown_on ledger pages live = looked_on (IsPlaced old.shape) old.whole.placed (ap (λ (l : Ledger). l.queue) ledger) (λ r placed ne. waits_on old new r
      (λ a. closes_more (live_in old.engine.graph) (live_in new.engine.graph) live a r.count_at)
      (last_still old new r (count_same old new r (pages r.count_at)) (print_same old new r (pages r.print_at)) (λ u. ap (λ (l : Ledger). is_unborn_in l.births (Print r.page) 1) ledger ∙ u)))

  pub touch_orderly : (page : ℕ) → Makes (touched page) old new → new.engine.graph ≡ entered page old.engine.graph → OnlyEngine old new → SameHolds old new → ((q : ℕ) → page_in new q ≡ page_in old q)
      → IsOrderlyBut p old → IsOrderlyBut p new
  touch_orderly page world graph only same pages o = record {
    ordered = λ d. ordered_in d new old.shape only.shape (subst (IsOrdered (lay_of old.shape)) (sym (world d)) (touch_order (lay_of old.shape) (world_of d old) (o.ordered d) page));
    looked = grown_on only.ledger pages (λ a b l. ap (λ (g : GraphLists). live_in g a b) graph ∙ l) o.looked;
    formed = formed_same old new only.shape same.there pages o.formed;
  }

  -- an engine of which the graph alone changed
  pages_kept : new.engine ≡ record old.engine { graph = new.engine.graph } → (q : ℕ) → page_in new q ≡ page_in old q
  pages_kept others q = ap (λ (e : EngineView). held_or (content_in e.cache q) zero_block) others

  there_kept : new.engine ≡ record old.engine { graph = new.engine.graph } → (q : ℕ) → is_there new.engine.cache q ≡ is_there old.engine.cache q
  there_kept others q = ap (λ (e : EngineView). is_there e.cache q) others

  pub order_orderly : (before after : ℕ) → Makes (ordered_after before after) old new → EdgeKind (lay_of old.shape) before after → Ordered before after old.engine.graph new.engine.graph
      → new.engine ≡ record old.engine { graph = new.engine.graph } → OnlyEngine old new → IsOrderlyBut p old → IsOrderlyBut p new
  order_orderly before after world kind edge others only o = record {
    ordered = λ d. ordered_in d new old.shape only.shape (subst (IsOrdered (lay_of old.shape)) (sym (world d)) (by_marks d));
    looked = grown_on only.ledger (pages_kept others) (λ a b l. edge.live a b ∙ or_left _ _ l) o.looked;
    formed = formed_same old new only.shape (there_kept others) (pages_kept others) o.formed;
  }
    where
      by_marks : (d : Meaning) → IsOrdered (lay_of old.shape) (ordered_after before after (world_of d old))
      by_marks d = let w = world_of d old in elim (cases_Bool (dirty_in old.engine.graph before)) [
        | inl is ↦ subst (λ b. IsOrdered (lay_of old.shape) (cond b (plain_ordered w) (cond (w.hung before) (ordered_by_barrier before after w) w))) (sym is) (order_order (lay_of old.shape) w (o.ordered d) before after kind is)
        | inr off ↦ subst (λ b. IsOrdered (lay_of old.shape) (cond b (plain_ordered w) (cond (w.hung before) (ordered_by_barrier before after w) w))) (sym off) (by_hung d (w.hung before))
      ]
        where
          plain_ordered : plain.World → plain.World
          plain_ordered w = Rattle.engine_model.specs.SmallSteps.ordered before after w

          by_hung : (d : Meaning) (b : Bool) → IsOrdered (lay_of old.shape) (cond b (ordered_by_barrier before after (world_of d old)) (world_of d old))
          by_hung d true = barred_order (lay_of old.shape) (world_of d old) (o.ordered d) before after kind
          by_hung d false = o.ordered d

  pub bar_orderly : (before after : ℕ) → Makes (λ w. cond (w.hung before) (ordered_by_barrier before after w) w) old new → EdgeKind (lay_of old.shape) before after → Barred before after old.engine.graph new.engine.graph
      → new.engine ≡ record old.engine { graph = new.engine.graph } → OnlyEngine old new → IsOrderlyBut p old → IsOrderlyBut p new
  bar_orderly before after world kind edge others only o = record {
    ordered = λ d. ordered_in d new old.shape only.shape (subst (IsOrdered (lay_of old.shape)) (sym (world d)) (by_hung d (hung_in old.engine.graph before)));
    looked = grown_on only.ledger (pages_kept others) (λ a b l. edge.live a b ∙ l) o.looked;
    formed = formed_same old new only.shape (there_kept others) (pages_kept others) o.formed;
  }
    where
      by_hung : (d : Meaning) (b : Bool) → IsOrdered (lay_of old.shape) (cond b (ordered_by_barrier before after (world_of d old)) (world_of d old))
      by_hung d true = barred_order (lay_of old.shape) (world_of d old) (o.ordered d) before after kind
      by_hung d false = o.ordered d

-- the releases of a data page are marked
module _ (p : ℕ) (old new : Core) where
  or_off : (a b : Bool) → (a || b) ≡ false → (a ≡ false) × (b ≡ false)
  or_off true b h = absurd (cc)
  or_off false b h = (refl, h)

  pub again_orderly : new.ledger ≡ record old.ledger { queue = record old.ledger.queue { releases = map (after_change p) old.ledger.queue.releases } } → new.shape ≡ old.shape → new.engine ≡ old.engine
      → Makes (λ w. w) old new → IsOrderlyBut p old → IsOrderly new
  again_orderly ledger shape engine world o = record {
    ordered = λ d. ordered_in d new old.shape shape (subst (IsOrdered (lay_of old.shape)) (sym (world d)) (o.ordered d));
    looked = subst (λ (l : Ledger). All (IsLooked new) l.queue.releases) (sym ledger) (All-map (IsLooked new) (after_change p) old.ledger.queue.releases
        (all_both (IsLookedBut p old) (IsLookedBut p old) (λ r. IsLooked new (after_change p r)) (λ r was again off.
        let parts = or_off r.look (eqb r.page p) off in
        now r (was (λ is. absurd (cc (is, parts.1, Rattle.std.proofs.Common.eq-eqb r.page p is))) parts.0))
        old.ledger.queue.releases o.looked o.looked));
    formed = formed_same old new shape (λ q. ap (λ (e : EngineView). is_there e.cache q) engine) (λ q. ap (λ (e : EngineView). held_or (content_in e.cache q) zero_block) engine) o.formed;
  }
    where
      now : (r : Release) → HasToWait old r → HasToWait new (after_change p r)
      now r = waits_on old new r
          (λ a. closes_more (live_in old.engine.graph) (live_in new.engine.graph) (λ x y l. ap (λ (e : EngineView). live_in e.graph x y) engine ∙ l) a r.count_at)
          (last_still old new r
          (count_same old new r (ap (λ (e : EngineView). held_or (content_in e.cache r.count_at) zero_block) engine))
          (print_same old new r (ap (λ (e : EngineView). held_or (content_in e.cache r.print_at) zero_block) engine))
          (λ u. ap (λ (l : Ledger). is_unborn_in l.births (Print r.page) 1) ledger ∙ u))
