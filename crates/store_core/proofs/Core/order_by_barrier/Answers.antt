use Rattle.std.proofs.Common.{◌≡◌, ◌<◌, refl, sym, subst, true}
use Rattle.dep_graph.specs.Lists.{GraphLists, IsGraph, dirty_in}
use Rattle.store_core.proofs.Marked.{bar_stands, barred_lent, barred_world, engine_barred, same_nodes}
use Rattle.store_core.proofs.Core.order_by_barrier.Goals as goal

pub bar-requires-clause-spare : goal.bar-requires-clause-spare
bar-requires-clause-spare c = subst (λ (g : GraphLists). 0 < g.spare_edges) (sym c.graph.ensures.now) c.requires.spare

pub bar-requires-clause-after : goal.bar-requires-clause-after
bar-requires-clause-after c = subst (λ (g : GraphLists). dirty_in g c.args.after ≡ true) (sym c.graph.ensures.now) c.requires.after

pub bar-requires-clause-graph : goal.bar-requires-clause-graph
bar-requires-clause-graph c = subst (λ (g : GraphLists). IsGraph g) (sym c.graph.ensures.now) c.args.self.now.whole.engine_whole.graph

pub returns-clause-barred : goal.returns-clause-barred
returns-clause-barred c = barred_lent c.args.self.now.engine.graph c.graph.result.now c.bar.new.graph c.args.before c.args.after c.graph.ensures.now c.bar.ensures

pub invariant_of-self : goal.invariant_of-self
invariant_of-self c =
    let core = c.args.self.now in
    record {
      whole = record {
        engine_whole = engine_barred core.engine c.bar.new.graph c.args.before c.args.after core.whole.engine_whole (barred_lent core.engine.graph c.graph.result.now c.bar.new.graph c.args.before c.args.after c.graph.ensures.now c.bar.ensures);
        within = core.whole.within;
        placed = core.whole.placed;
        pool_shape = core.whole.pool_shape;
        slots = core.whole.slots;
      };
    }

pub returns-clause-world : goal.returns-clause-world
returns-clause-world c d = let core = c.args.self.now in barred_world d core.engine.cache core.ledger.queue core.engine.graph c.bar.new.graph c.args.before c.args.after (returns-clause-barred c)

pub returns-clause-rest : goal.returns-clause-rest
returns-clause-rest c = record { shape = refl; ledger = refl; room = refl }

pub returns-clause-stands : goal.returns-clause-stands
returns-clause-stands c kind = bar_stands c.args.self.now _ c.args.before c.args.after kind (returns-clause-rest c) c.requires.after (returns-clause-world c)

pub returns-clause-nodes : goal.returns-clause-nodes
returns-clause-nodes c = same_nodes c.args.self.now.engine.graph c.bar.new.graph (returns-clause-barred c).dirty (returns-clause-barred c).hung
