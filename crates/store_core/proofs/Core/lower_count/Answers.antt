use Rattle.std.proofs.Common.{arith, ◌<◌, ◌≤◌, ◌-◌, ◌∙◌, refl, sym, ap, subst, map}
use Rattle.std.specs.List.{All}
use Rattle.std.proofs.lemmas.Option.{slice_get_within}
use Rattle.page_device.specs.Block.{Block}
use Rattle.page_layout.specs.Shape.{ShapeView}
use Rattle.page_alloc.specs.Pool.{IsTold, told_of}
use Rattle.page_cache.specs.Lending.{with_content}
use Rattle.page_cache.specs.View.{CacheView, holds_in}
use Rattle.order_model.specs.Pool.{after_zeroed}
use Rattle.order_model.specs.World as plain
use Rattle.release_queue.specs.Queued.{QueueLists}
use Rattle.ref_counts.specs.Counts.{SetsCount, count_in}
use Rattle.store_core.specs.Views.{plain_release}
use Rattle.store_core.specs.Whole.{IsPlaced}
use Rattle.store_core.proofs.CountedStands.{lower_stands}
use Rattle.store_core.proofs.Edited.{engine_put, held_there, lent_edit, lent_is, only_page, put_world, within_edited}
use Rattle.store_core.proofs.Queued.{placed_at, placed_removed, queue_world}
use Rattle.store_core.proofs.Core.lower_count.Goals as goal

pub remove-requires : goal.remove-requires
remove-requires c = slice_get_within c.args.self.now.ledger.queue.releases c.args.i c.args.release c.requires.queued

pub edit-page-requires : goal.edit-page-requires
edit-page-requires c = record { held = subst (λ (k : CacheView). 0 < holds_in k c.args.release.count_at) (sym c.cache.ensures.now) c.requires.held }

pub lower-requires-clause-first : goal.lower-requires-clause-first
lower-requires-clause-first c = let core = c.args.self.now in (placed_at core.shape core.ledger.queue.releases c.args.i c.args.release c.requires.queued core.whole.placed).first

pub lower-requires-clause-last : goal.lower-requires-clause-last
lower-requires-clause-last c = let core = c.args.self.now in (placed_at core.shape core.ledger.queue.releases c.args.i c.args.release c.requires.queued core.whole.placed).last

pub lower-requires-clause-above : goal.lower-requires-clause-above
lower-requires-clause-above c =
    let core = c.args.self.now in
    let at = c.args.release.count_at in
    let was = lent_is core c.cache.result.now at at c.edit-page.result.now c.cache.ensures.now refl c.edit-page.ensures.value in
    subst (λ (b : Block). 0 < count_in b c.args.release.page) (sym was) c.requires.above

pub count-left-requires-clause-first : goal.count-left-requires-clause-first
count-left-requires-clause-first c = let core = c.args.self.now in (placed_at core.shape core.ledger.queue.releases c.args.i c.args.release c.requires.queued core.whole.placed).first

pub count-left-requires-clause-last : goal.count-left-requires-clause-last
count-left-requires-clause-last c = let core = c.args.self.now in (placed_at core.shape core.ledger.queue.releases c.args.i c.args.release c.requires.queued core.whole.placed).last

pub zeroed-requires-clause-first : goal.zeroed-requires-clause-first
zeroed-requires-clause-first c = let core = c.args.self.now in (placed_at core.shape core.ledger.queue.releases c.args.i c.args.release c.requires.queued core.whole.placed).first

pub zeroed-requires-clause-last : goal.zeroed-requires-clause-last
zeroed-requires-clause-last c =
    let core = c.args.self.now in
    subst (λ (s : ShapeView). c.args.release.page ≤ s.pages) (sym core.whole.pool_shape) (placed_at core.shape core.ledger.queue.releases c.args.i c.args.release c.requires.queued core.whole.placed).last

pub invariant_of-self : goal.invariant_of-self
invariant_of-self c =
    let core = c.args.self.now in
    let at = c.args.release.count_at in
    let e = lent_edit core.engine.cache c.cache.result.now at at c.lower.new.page c.edits_one_page.ensures c.cache.ensures.now refl c.requires.held in
    record {
      whole = record {
        engine_whole = engine_put core.engine _ at c.lower.new.page core.whole.engine_whole e c.requires.dirty;
        within = λ a h. core.whole.within a (within_edited core.engine.cache _ at c.lower.new.page e (held_there core.engine.cache at c.requires.held) a h);
        placed = subst (λ (q : QueueLists). All (IsPlaced core.shape) q.releases) (sym c.remove.ensures.others) (placed_removed core.shape c.args.i core.ledger.queue.releases core.whole.placed);
        pool_shape = c.zeroed.ensures.told.same_shape ∙ core.whole.pool_shape;
        slots = core.whole.slots;
      };
    }

pub invariant_of-self-else-left-eq0 : goal.invariant_of-self-else-left-eq0
invariant_of-self-else-left-eq0 c =
    let core = c.args.self.now in
    let at = c.args.release.count_at in
    let e = lent_edit core.engine.cache c.cache.result.now at at c.lower.new.page c.edits_one_page.ensures c.cache.ensures.now refl c.requires.held in
    record {
      whole = record {
        engine_whole = engine_put core.engine _ at c.lower.new.page core.whole.engine_whole e c.requires.dirty;
        within = λ a h. core.whole.within a (within_edited core.engine.cache _ at c.lower.new.page e (held_there core.engine.cache at c.requires.held) a h);
        placed = subst (λ (q : QueueLists). All (IsPlaced core.shape) q.releases) (sym c.remove.ensures.others) (placed_removed core.shape c.args.i core.ledger.queue.releases core.whole.placed);
        pool_shape = core.whole.pool_shape;
        slots = core.whole.slots;
      };
    }

pub returns-then-left-eq0-clause-lowered : goal.returns-then-left-eq0-clause-lowered
returns-then-left-eq0-clause-lowered c =
    let core = c.args.self.now in
    let r = c.args.release in
    let at = r.count_at in
    let e = lent_edit core.engine.cache c.cache.result.now at at c.lower.new.page c.edits_one_page.ensures c.cache.ensures.now refl c.requires.held in
    let was = lent_is core c.cache.result.now at at c.edit-page.result.now c.cache.ensures.now refl c.edit-page.ensures.value in
    record {
      page = c.lower.new.page;
      sets = subst (λ (b : Block). SetsCount core.shape b r.page (count_in b r.page - 1) c.lower.new.page) was c.lower.ensures;
      only = only_page core _ at c.lower.new.page e c.requires.held refl refl;
      world = λ d. queue_world d (with_content c.cache.result.now at c.lower.new.page) core.engine.graph core.ledger.queue c.remove.new.self _ (ap (λ (q : QueueLists). map plain_release q.releases) c.remove.ensures.others)
          ∙ ap (λ (w : plain.World). record w { queue = map plain_release (Rattle.std.specs.List.remove core.ledger.queue.releases c.args.i) }) (put_world d core (with_content c.cache.result.now at c.lower.new.page) at c.lower.new.page e);
      zero = λ z. subst (λ (s : ShapeView). IsTold s (after_zeroed r.page (told_of core.ledger.pool)) c.zeroed.new.self) core.whole.pool_shape c.zeroed.ensures.told;
      more = λ above. absurd (omega (arith, above, c.if-left-eq0.true, c.count-left.ensures));
      ledger = ap (λ (q : QueueLists). record core.ledger { queue = q; pool = c.zeroed.new.self }) c.remove.ensures.others;
    }

pub returns-else-left-eq0-clause-lowered : goal.returns-else-left-eq0-clause-lowered
returns-else-left-eq0-clause-lowered c =
    let core = c.args.self.now in
    let r = c.args.release in
    let at = r.count_at in
    let e = lent_edit core.engine.cache c.cache.result.now at at c.lower.new.page c.edits_one_page.ensures c.cache.ensures.now refl c.requires.held in
    let was = lent_is core c.cache.result.now at at c.edit-page.result.now c.cache.ensures.now refl c.edit-page.ensures.value in
    record {
      page = c.lower.new.page;
      sets = subst (λ (b : Block). SetsCount core.shape b r.page (count_in b r.page - 1) c.lower.new.page) was c.lower.ensures;
      only = only_page core _ at c.lower.new.page e c.requires.held refl refl;
      world = λ d. queue_world d (with_content c.cache.result.now at c.lower.new.page) core.engine.graph core.ledger.queue c.remove.new.self _ (ap (λ (q : QueueLists). map plain_release q.releases) c.remove.ensures.others)
          ∙ ap (λ (w : plain.World). record w { queue = map plain_release (Rattle.std.specs.List.remove core.ledger.queue.releases c.args.i) }) (put_world d core (with_content c.cache.result.now at c.lower.new.page) at c.lower.new.page e);
      zero = λ z. absurd (c.if-left-eq0.false (c.count-left.ensures ∙ z));
      more = λ above. refl;
      ledger = ap (λ (q : QueueLists). record core.ledger { queue = q }) c.remove.ensures.others;
    }

pub returns-then-left-eq0-clause-stands : goal.returns-then-left-eq0-clause-stands
returns-then-left-eq0-clause-stands c = let core = c.args.self.now in lower_stands core _ c.args.i c.args.release c.requires.queued (returns-then-left-eq0-clause-lowered c) (held_there core.engine.cache c.args.release.count_at c.requires.held) c.requires.dirty c.requires.above

pub returns-else-left-eq0-clause-stands : goal.returns-else-left-eq0-clause-stands
returns-else-left-eq0-clause-stands c = let core = c.args.self.now in lower_stands core _ c.args.i c.args.release c.requires.queued (returns-else-left-eq0-clause-lowered c) (held_there core.engine.cache c.args.release.count_at c.requires.held) c.requires.dirty c.requires.above
