use Rattle.std.proofs.Common.{◌<◌, ◌∙◌, refl, sym, subst, ℕ}
use Rattle.page_device.specs.Block.{Block}
use Rattle.page_layout.specs.Entries.{SetsPrint}
use Rattle.page_layout.specs.Shape.{print_page, print_place}
use Rattle.page_cache.specs.View.{CacheView, holds_in}
use Rattle.order_model.specs.declared.Slot.TheVariants.{Print}
use Rattle.birth_marks.specs.Births.{Changed, PlacedAt}
use Rattle.engine_model.specs.Births.{has_print}
use Rattle.store_core.specs.Printed.{had_print}
use Rattle.store_core.proofs.Edited.{engine_put, held_there, lent_edit, lent_is, only_page, put_world, within_edited}
use Rattle.store_core.proofs.NamedStands.{slots_placed}
use Rattle.store_core.proofs.PrintedStands.{print_stands}
use Rattle.store_core.proofs.Core.set_print.Goals as goal

pub edit-requires : goal.edit-requires
edit-requires c = record { held = subst (λ (k : CacheView). 0 < holds_in k c.print_place-at.result.0) (sym c.cache.ensures.now) (subst (λ (n : ℕ). 0 < holds_in c.args.self.now.engine.cache n) (sym c.print_place-at.ensures.page) c.requires.held) }

pub change-requires-clause-place : goal.change-requires-clause-place
change-requires-clause-place c recorded = c.args.self.now.whole.slots (Print c.args.p) recorded ∙ sym c.print_place-at.ensures.page

pub invariant_of-self : goal.invariant_of-self
invariant_of-self c =
    let core = c.args.self.now in
    let at = print_page core.shape c.args.p in
    let e = lent_edit core.engine.cache c.cache.result.now at c.print_place-at.result.0 c.set_print_entry.new.page c.edits_one_page.ensures c.cache.ensures.now c.print_place-at.ensures.page c.requires.held in
    record {
      whole = record {
        engine_whole = engine_put core.engine _ at c.set_print_entry.new.page core.whole.engine_whole e c.requires.dirty;
        within = λ a h. core.whole.within a (within_edited core.engine.cache _ at c.set_print_entry.new.page e (held_there core.engine.cache at c.requires.held) a h);
        placed = core.whole.placed;
        pool_shape = core.whole.pool_shape;
        slots = slots_placed core.shape core.ledger.births c.change.new.self (Print c.args.p) c.print_place-at.result.0 c.change.ensures.placed c.print_place-at.ensures.page core.whole.slots;
      };
    }

pub returns-clause-printed : goal.returns-clause-printed
returns-clause-printed c =
    let core = c.args.self.now in
    let at = print_page core.shape c.args.p in
    let e = lent_edit core.engine.cache c.cache.result.now at c.print_place-at.result.0 c.set_print_entry.new.page c.edits_one_page.ensures c.cache.ensures.now c.print_place-at.ensures.page c.requires.held in
    let was = lent_is core c.cache.result.now c.print_place-at.result.0 at c.edit.result.now c.cache.ensures.now c.print_place-at.ensures.page c.edit.ensures.value in
    record {
      page = c.set_print_entry.new.page;
      sets = subst (λ (b : Block). SetsPrint b (print_place c.args.p) c.args.print c.set_print_entry.new.page) was (subst (λ (n : ℕ). SetsPrint c.edit.result.now n c.args.print c.set_print_entry.new.page) c.print_place-at.ensures.entry c.set_print_entry.ensures);
      only = only_page core _ at c.set_print_entry.new.page e c.requires.held refl refl;
      world = λ d. put_world d core _ at c.set_print_entry.new.page e;
      births = λ value. subst (λ (n : ℕ). Changed core.ledger.births c.change.new.self (Print c.args.p) n (had_print c.args.print) (has_print c.args.print)) c.print_place-at.ensures.page
          (subst (λ (n : ℕ). Changed core.ledger.births c.change.new.self (Print c.args.p) c.print_place-at.result.0 n (has_print c.args.print)) c.values-from.ensures.from
          (subst (λ (n : ℕ). Changed core.ledger.births c.change.new.self (Print c.args.p) c.print_place-at.result.0 c.values-from.result.0 n) c.values-from.ensures.to (c.change.ensures.changed (λ r. value r ∙ sym c.values-from.ensures.from))));
      placed = subst (λ (n : ℕ). PlacedAt core.ledger.births c.change.new.self (Print c.args.p) n) c.print_place-at.ensures.page c.change.ensures.placed;
      other_slots = c.change.ensures.others;
      spare = c.change.ensures.spare;
      ledger = refl;
    }

pub returns-clause-stands : goal.returns-clause-stands
returns-clause-stands c = let core = c.args.self.now in print_stands core _ c.args.p c.args.print c.requires.first c.requires.last (held_there core.engine.cache (print_page core.shape c.args.p) c.requires.held) c.requires.dirty (returns-clause-printed c)
