use Rattle.std.proofs.Common.{refl}
use Rattle.store_core.proofs.Edited.{held_there, same_holds, same_pages, within_edited}
use Rattle.store_core.proofs.Marked.{entered_count, entered_dirty, entered_spare, touch_stands, touched_world}
use Rattle.store_core.proofs.Core.touch.Goals as goal

pub invariant_of-self : goal.invariant_of-self
invariant_of-self c =
    let core = c.args.self.now in
    record {
      whole = record {
        engine_whole = c.touched_is_whole.ensures.whole core.engine c.args.page c.touch.result.now c.requires.held c.requires.room core.whole.engine_whole;
        within = λ a h. core.whole.within a (within_edited core.engine.cache _ c.args.page c.touch.result.now (c.edits_one_page.ensures core.engine.cache c.args.page c.touch.result.now c.requires.held) (held_there core.engine.cache c.args.page c.requires.held) a h);
        placed = core.whole.placed;
        pool_shape = core.whole.pool_shape;
        slots = core.whole.slots;
      };
    }

pub returns-clause-world : goal.returns-clause-world
returns-clause-world c = let core = c.args.self.now in λ d.
    touched_world d core _ c.args.page c.touch.result.now c.touch.ensures.value (c.edits_one_page.ensures core.engine.cache c.args.page c.touch.result.now c.requires.held)

pub returns-clause-rest : goal.returns-clause-rest
returns-clause-rest c = record { shape = refl; ledger = refl; room = refl }

pub returns-clause-stands : goal.returns-clause-stands
returns-clause-stands c table = touch_stands c.args.self.now _ c.args.page table (returns-clause-rest c) (returns-clause-world c)

pub returns-clause-dirty : goal.returns-clause-dirty
returns-clause-dirty c a = entered_dirty c.args.page c.args.self.now.engine.graph a

pub returns-clause-nodes : goal.returns-clause-nodes
returns-clause-nodes c =
    let core = c.args.self.now in
    entered_count c.args.page core.engine.graph core.whole.engine_whole.graph (c.touched_is_whole.ensures.whole core.engine c.args.page c.touch.result.now c.requires.held c.requires.room core.whole.engine_whole).graph

pub returns-clause-spare_nodes : goal.returns-clause-spare_nodes
returns-clause-spare_nodes c = entered_spare c.args.page c.args.self.now.engine.graph c.requires.spare

pub returns-clause-same : goal.returns-clause-same
returns-clause-same c = let core = c.args.self.now in same_holds core _ c.args.page c.touch.result.now (c.edits_one_page.ensures core.engine.cache c.args.page c.touch.result.now c.requires.held) (held_there core.engine.cache c.args.page c.requires.held)

pub returns-clause-pages : goal.returns-clause-pages
returns-clause-pages c = let core = c.args.self.now in same_pages core _ c.args.page c.touch.result.now c.touch.ensures.value (c.edits_one_page.ensures core.engine.cache c.args.page c.touch.result.now c.requires.held)
