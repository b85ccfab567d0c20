use Rattle.std.proofs.Common.{◌∙◌, refl, sym, ap}
use Rattle.page_cache.specs.View.{CacheView}
use Rattle.flush_engine.specs.View.{EngineView}
use Rattle.store_core.specs.Views.{world_in}
use Rattle.store_core.proofs.Marked.{opens_always, order_stands, ordered_world, same_nodes}
use Rattle.store_core.proofs.Core.order.Goals as goal

pub order-requires-clause-opens : goal.order-requires-clause-opens
order-requires-clause-opens c = let core = c.args.self.now in opens_always core.engine.graph c.args.before c.args.after core.whole.engine_whole.graph c.requires.after c.requires.opens

pub invariant_of-self : goal.invariant_of-self
invariant_of-self c =
    let core = c.args.self.now in
    record {
      whole = record {
        engine_whole = c.order.ensures.whole;
        within = λ a h. core.whole.within a (ap (λ (e : EngineView). Rattle.page_cache.specs.View.is_there e.cache a) (sym c.order.ensures.others) ∙ h);
        placed = core.whole.placed;
        pool_shape = core.whole.pool_shape;
        slots = core.whole.slots;
      };
    }

pub returns-clause-world : goal.returns-clause-world
returns-clause-world c d =
    let core = c.args.self.now in
    ap (λ (k : CacheView). world_in d k c.order.new.self.graph core.ledger.queue) (ap (λ (e : EngineView). e.cache) c.order.ensures.others)
    ∙ ordered_world d core.engine.cache core.ledger.queue core.engine.graph c.order.new.self.graph c.args.before c.args.after c.order.ensures.order

pub returns-clause-rest : goal.returns-clause-rest
returns-clause-rest c = record { shape = refl; ledger = refl; room = ap (λ (e : EngineView). e.room) c.order.ensures.others }

pub returns-clause-stands : goal.returns-clause-stands
returns-clause-stands c kind = order_stands c.args.self.now _ c.args.before c.args.after kind (returns-clause-rest c) c.requires.after c.requires.opens (returns-clause-world c)

pub returns-clause-nodes : goal.returns-clause-nodes
returns-clause-nodes c = same_nodes c.args.self.now.engine.graph c.order.new.self.graph c.order.ensures.order.dirty c.order.ensures.order.hung
