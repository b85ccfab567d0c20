use Rattle.std.proofs.Common.{◌≡◌, ◌<◌, ◌≤◌, ◌∙◌, refl, sym, ap, subst, ℕ, Bool, true, map, List, ◌∷◌, ◌++◌, []}
use Rattle.std.specs.List.{All}
use Rattle.page_device.specs.Block.{Block}
use Rattle.page_layout.specs.Shape.{map_page}
use Rattle.page_cache.specs.Lending.{with_content}
use Rattle.page_cache.specs.View.{CacheView, holds_in}
use Rattle.order_model.specs.declared.Slot.TheVariants.{Name}
use Rattle.order_model.specs.World as plain
use Rattle.birth_marks.specs.Births.{Changed, PlacedAt, is_unborn_in}
use Rattle.logical_map.specs.Slots.{SetsSlot, slot_of}
use Rattle.release_queue.specs.declared.Release.{Release}
use Rattle.release_queue.specs.Queued.{QueueLists, pushed}
use Rattle.store_core.specs.Edits.{is_name_unborn, named_in, owed, plain_owed, release_of}
use Rattle.store_core.specs.Views.{plain_release}
use Rattle.store_core.specs.Whole.{IsPlaced}
use Rattle.store_core.proofs.Edited.{engine_put, held_there, lent_edit, lent_is, only_page, put_world, within_edited}
use Rattle.store_core.proofs.NamedStands.{name_stands, slots_placed}
use Rattle.store_core.proofs.Queued.{owed_none, owed_plain, owed_some, placed_pushed, queue_world}
use Rattle.store_core.proofs.Core.set_name.Goals as goal

pub edit-page-requires : goal.edit-page-requires
edit-page-requires c = record { held = subst (λ (k : CacheView). 0 < holds_in k c.map_place-at.result.0) (sym c.cache.ensures.now) (subst (λ (n : ℕ). 0 < holds_in c.args.self.now.engine.cache n) (sym c.map_place-at.ensures.page) c.requires.held) }

pub change-requires-clause-place : goal.change-requires-clause-place
change-requires-clause-place c recorded = c.args.self.now.whole.slots (Name c.args.block) recorded ∙ sym c.map_place-at.ensures.page

pub release_of-release-requires-clause-first : goal.release_of-release-requires-clause-first
release_of-release-requires-clause-first c = omega (Rattle.std.proofs.Common.arith, c.if-old-ne0.true)

pub release_of-release-requires-clause-last : goal.release_of-release-requires-clause-last
release_of-release-requires-clause-last c =
    let core = c.args.self.now in
    let was = lent_is core c.cache.result.now c.map_place-at.result.0 (map_page c.args.block) c.edit-page.result.now c.cache.ensures.now c.map_place-at.ensures.page c.edit-page.ensures.value in
    subst (λ (n : ℕ). n ≤ core.shape.pages) (sym (c.slot-old.ensures ∙ ap (λ (b : Block). slot_of b c.args.block) was)) c.requires.old

pub invariant_of-self : goal.invariant_of-self
invariant_of-self c =
    let core = c.args.self.now in
    let at = map_page c.args.block in
    let e = lent_edit core.engine.cache c.cache.result.now at c.map_place-at.result.0 c.set_slot.new.page c.edits_one_page.ensures c.cache.ensures.now c.map_place-at.ensures.page c.requires.held in
    let was = lent_is core c.cache.result.now c.map_place-at.result.0 at c.edit-page.result.now c.cache.ensures.now c.map_place-at.ensures.page c.edit-page.ensures.value in
    record {
      whole = record {
        engine_whole = engine_put core.engine _ at c.set_slot.new.page core.whole.engine_whole e c.requires.dirty;
        within = λ a h. core.whole.within a (within_edited core.engine.cache _ at c.set_slot.new.page e (held_there core.engine.cache at c.requires.held) a h);
        placed = subst (λ (q : QueueLists). All (IsPlaced core.shape) q.releases) (sym c.push.ensures)
            (subst (λ (r : Release). All (IsPlaced core.shape) (core.ledger.queue.releases ++ pushed r ∷ [])) (sym c.release_of-release.ensures)
            (placed_pushed core.shape core.ledger.queue.releases c.args.block c.slot-old.result c.unborn-unborn.result c.requires.block (omega (Rattle.std.proofs.Common.arith, c.if-old-ne0.true))
            (subst (λ (n : ℕ). n ≤ core.shape.pages) (sym (c.slot-old.ensures ∙ ap (λ (b : Block). slot_of b c.args.block) was)) c.requires.old) core.whole.placed));
        pool_shape = core.whole.pool_shape;
        slots = slots_placed core.shape core.ledger.births c.change.new.self (Name c.args.block) c.map_place-at.result.0 c.change.ensures.placed c.map_place-at.ensures.page core.whole.slots;
      };
    }

pub invariant_of-self-else-old-ne0 : goal.invariant_of-self-else-old-ne0
invariant_of-self-else-old-ne0 c =
    let core = c.args.self.now in
    let at = map_page c.args.block in
    let e = lent_edit core.engine.cache c.cache.result.now at c.map_place-at.result.0 c.set_slot.new.page c.edits_one_page.ensures c.cache.ensures.now c.map_place-at.ensures.page c.requires.held in
    record {
      whole = record {
        engine_whole = engine_put core.engine _ at c.set_slot.new.page core.whole.engine_whole e c.requires.dirty;
        within = λ a h. core.whole.within a (within_edited core.engine.cache _ at c.set_slot.new.page e (held_there core.engine.cache at c.requires.held) a h);
        placed = core.whole.placed;
        pool_shape = core.whole.pool_shape;
        slots = slots_placed core.shape core.ledger.births c.change.new.self (Name c.args.block) c.map_place-at.result.0 c.change.ensures.placed c.map_place-at.ensures.page core.whole.slots;
      };
    }

pub returns-then-old-ne0-clause-named : goal.returns-then-old-ne0-clause-named
returns-then-old-ne0-clause-named c =
    let core = c.args.self.now in
    let l = c.args.block in
    let at = map_page l in
    let e = lent_edit core.engine.cache c.cache.result.now at c.map_place-at.result.0 c.set_slot.new.page c.edits_one_page.ensures c.cache.ensures.now c.map_place-at.ensures.page c.requires.held in
    let was = lent_is core c.cache.result.now c.map_place-at.result.0 at c.edit-page.result.now c.cache.ensures.now c.map_place-at.ensures.page c.edit-page.ensures.value in
    let o = named_in core l in
    let u = is_name_unborn core l in
    let old_is : c.slot-old.result ≡ o = c.slot-old.ensures ∙ ap (λ (b : Block). slot_of b l) was in
    let unborn_is : c.unborn-unborn.result ≡ u = c.unborn-unborn.ensures ∙ ap (is_unborn_in core.ledger.births (Name l)) old_is in
    let queue_is : c.push.new.self ≡ record core.ledger.queue { releases = owed core.shape u l o core.ledger.queue.releases } =
    c.push.ensures ∙ ap (λ (r : Release). record core.ledger.queue { releases = core.ledger.queue.releases ++ pushed r ∷ [] }) (c.release_of-release.ensures ∙ ap (λ (n : ℕ). release_of core.shape l n c.unborn-unborn.result) old_is ∙ ap (release_of core.shape l o) unborn_is)
    ∙ ap (λ (rs : List Release). record core.ledger.queue { releases = rs }) (sym (owed_some core.shape u l o core.ledger.queue.releases (λ z. c.if-old-ne0.true (old_is ∙ z)))) in
    record {
      page = c.set_slot.new.page;
      sets = subst (λ (b : Block). SetsSlot core.shape b l c.args.p c.set_slot.new.page) was c.set_slot.ensures;
      only = only_page core _ at c.set_slot.new.page e c.requires.held refl refl;
      world = λ d. queue_world d (with_content c.cache.result.now c.map_place-at.result.0 c.set_slot.new.page) core.engine.graph core.ledger.queue c.push.new.self (plain_owed u l o (map plain_release core.ledger.queue.releases))
          (ap (λ (q : QueueLists). map plain_release q.releases) queue_is ∙ owed_plain core.shape u l o core.ledger.queue.releases)
          ∙ ap (λ (w : plain.World). record w { queue = plain_owed u l o (map plain_release core.ledger.queue.releases) }) (put_world d core (with_content c.cache.result.now c.map_place-at.result.0 c.set_slot.new.page) at c.set_slot.new.page e);
      births = λ value. subst (λ (n : ℕ). Changed core.ledger.births c.change.new.self (Name l) n o c.args.p) c.map_place-at.ensures.page
          (subst (λ (n : ℕ). Changed core.ledger.births c.change.new.self (Name l) c.map_place-at.result.0 n c.args.p) old_is (c.change.ensures.changed (λ r. value r ∙ sym old_is)));
      placed = subst (λ (n : ℕ). PlacedAt core.ledger.births c.change.new.self (Name l) n) c.map_place-at.ensures.page c.change.ensures.placed;
      other_slots = c.change.ensures.others;
      spare = c.change.ensures.spare;
      ledger = ap (λ (q : QueueLists). record core.ledger { queue = q; births = c.change.new.self }) queue_is;
    }

pub returns-else-old-ne0-clause-named : goal.returns-else-old-ne0-clause-named
returns-else-old-ne0-clause-named c =
    let core = c.args.self.now in
    let l = c.args.block in
    let at = map_page l in
    let e = lent_edit core.engine.cache c.cache.result.now at c.map_place-at.result.0 c.set_slot.new.page c.edits_one_page.ensures c.cache.ensures.now c.map_place-at.ensures.page c.requires.held in
    let was = lent_is core c.cache.result.now c.map_place-at.result.0 at c.edit-page.result.now c.cache.ensures.now c.map_place-at.ensures.page c.edit-page.ensures.value in
    let o = named_in core l in
    let u = is_name_unborn core l in
    let old_is : c.slot-old.result ≡ o = c.slot-old.ensures ∙ ap (λ (b : Block). slot_of b l) was in
    let none : o ≡ 0 = sym old_is ∙ c.if-old-ne0.false in
    let queue_is : core.ledger.queue.releases ≡ owed core.shape u l o core.ledger.queue.releases = sym (owed_none core.shape u l o core.ledger.queue.releases none) in
    record {
      page = c.set_slot.new.page;
      sets = subst (λ (b : Block). SetsSlot core.shape b l c.args.p c.set_slot.new.page) was c.set_slot.ensures;
      only = only_page core _ at c.set_slot.new.page e c.requires.held refl refl;
      world = λ d. queue_world d (with_content c.cache.result.now c.map_place-at.result.0 c.set_slot.new.page) core.engine.graph core.ledger.queue core.ledger.queue (plain_owed u l o (map plain_release core.ledger.queue.releases))
          (ap (map plain_release) queue_is ∙ owed_plain core.shape u l o core.ledger.queue.releases)
          ∙ ap (λ (w : plain.World). record w { queue = plain_owed u l o (map plain_release core.ledger.queue.releases) }) (put_world d core (with_content c.cache.result.now c.map_place-at.result.0 c.set_slot.new.page) at c.set_slot.new.page e);
      births = λ value. subst (λ (n : ℕ). Changed core.ledger.births c.change.new.self (Name l) n o c.args.p) c.map_place-at.ensures.page
          (subst (λ (n : ℕ). Changed core.ledger.births c.change.new.self (Name l) c.map_place-at.result.0 n c.args.p) old_is (c.change.ensures.changed (λ r. value r ∙ sym old_is)));
      placed = subst (λ (n : ℕ). PlacedAt core.ledger.births c.change.new.self (Name l) n) c.map_place-at.ensures.page c.change.ensures.placed;
      other_slots = c.change.ensures.others;
      spare = c.change.ensures.spare;
      ledger = ap (λ (rs : List Release). record core.ledger { queue = record core.ledger.queue { releases = rs }; births = c.change.new.self }) queue_is;
    }

pub returns-then-old-ne0-clause-stands : goal.returns-then-old-ne0-clause-stands
returns-then-old-ne0-clause-stands c = let core = c.args.self.now in name_stands core _ c.args.block c.args.p c.requires.block (held_there core.engine.cache (map_page c.args.block) c.requires.held) c.requires.dirty c.requires.old (returns-then-old-ne0-clause-named c)

pub returns-else-old-ne0-clause-stands : goal.returns-else-old-ne0-clause-stands
returns-else-old-ne0-clause-stands c = let core = c.args.self.now in name_stands core _ c.args.block c.args.p c.requires.block (held_there core.engine.cache (map_page c.args.block) c.requires.held) c.requires.dirty c.requires.old (returns-else-old-ne0-clause-named c)
