use Rattle.std.proofs.Common.{◌<◌, ◌+◌, ◌∙◌, refl, sym, subst, ℕ}
use Rattle.page_device.specs.Block.{Block}
use Rattle.page_layout.specs.Shape.{ShapeView, count_page}
use Rattle.page_alloc.specs.Pool.{IsTold, told_of}
use Rattle.order_model.specs.Pool.{after_take}
use Rattle.page_cache.specs.View.{CacheView, holds_in}
use Rattle.ref_counts.specs.Counts.{SetsCount, count_in}
use Rattle.store_core.proofs.CountedStands.{raise_stands}
use Rattle.store_core.proofs.Edited.{engine_put, held_there, lent_edit, lent_is, only_page, put_world, within_edited}
use Rattle.store_core.proofs.Core.raise_count.Goals as goal

pub edit-requires : goal.edit-requires
edit-requires c = record { held = subst (λ (k : CacheView). 0 < holds_in k c.count_place-at.result.0) (sym c.cache.ensures.now) (subst (λ (n : ℕ). 0 < holds_in c.args.self.now.engine.cache n) (sym c.count_place-at.ensures.page) c.requires.held) }

pub raise-requires-clause-below : goal.raise-requires-clause-below
raise-requires-clause-below c =
    let core = c.args.self.now in
    let was = lent_is core c.cache.result.now c.count_place-at.result.0 (count_page core.shape c.args.p) c.edit.result.now c.cache.ensures.now c.count_place-at.ensures.page c.edit.ensures.value in
    subst (λ (b : Block). count_in b c.args.p < 2147483647) (sym was) c.requires.below

pub invariant_of-self : goal.invariant_of-self
invariant_of-self c =
    let core = c.args.self.now in
    let at = count_page core.shape c.args.p in
    let e = lent_edit core.engine.cache c.cache.result.now at c.count_place-at.result.0 c.raise.new.page c.edits_one_page.ensures c.cache.ensures.now c.count_place-at.ensures.page c.requires.held in
    record {
      whole = record {
        engine_whole = engine_put core.engine _ at c.raise.new.page core.whole.engine_whole e c.requires.dirty;
        within = λ a h. core.whole.within a (within_edited core.engine.cache _ at c.raise.new.page e (held_there core.engine.cache at c.requires.held) a h);
        placed = core.whole.placed;
        pool_shape = c.take.ensures.told.same_shape ∙ core.whole.pool_shape;
        slots = core.whole.slots;
      };
    }

pub returns-clause-raised : goal.returns-clause-raised
returns-clause-raised c =
    let core = c.args.self.now in
    let at = count_page core.shape c.args.p in
    let e = lent_edit core.engine.cache c.cache.result.now at c.count_place-at.result.0 c.raise.new.page c.edits_one_page.ensures c.cache.ensures.now c.count_place-at.ensures.page c.requires.held in
    let was = lent_is core c.cache.result.now c.count_place-at.result.0 at c.edit.result.now c.cache.ensures.now c.count_place-at.ensures.page c.edit.ensures.value in
    record {
      page = c.raise.new.page;
      sets = subst (λ (b : Block). SetsCount core.shape b c.args.p (count_in b c.args.p + 1) c.raise.new.page) was c.raise.ensures;
      only = only_page core _ at c.raise.new.page e c.requires.held refl refl;
      world = λ d. put_world d core _ at c.raise.new.page e;
      told = subst (λ (s : ShapeView). IsTold s (after_take c.args.p (told_of core.ledger.pool)) c.take.new.self) core.whole.pool_shape c.take.ensures.told;
      ledger = refl;
    }

pub returns-clause-stands : goal.returns-clause-stands
returns-clause-stands c = let core = c.args.self.now in raise_stands core _ c.args.p c.requires.first c.requires.last (held_there core.engine.cache (count_page core.shape c.args.p) c.requires.held) c.requires.dirty c.requires.below (returns-clause-raised c)
