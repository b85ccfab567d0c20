use Rattle.std.proofs.Common.{arith, refl, ap}
use Rattle.flush_engine.specs.View.{EngineView}
use Rattle.store_core.proofs.AppliedStands.{release_kind}
use Rattle.store_core.proofs.Grown.{grows_barred, grows_none, grows_ordered, map_barred, map_none, map_ordered, takes_barred, takes_more, takes_none, takes_ordered}
use Rattle.store_core.proofs.Moved.{edge_barred, edge_live, edge_none}
use Rattle.store_core.proofs.OrderlySteps.{bar_orderly, order_orderly}
use Rattle.store_core.proofs.Core.order_release.Goals as goal

pub order-requires-clause-opens : goal.order-requires-clause-opens
order-requires-clause-opens c dirty closes = c.requires.opens c.if-release-eq-NOT_WRITTEN.true closes

pub returns-then-release-eq-NOT_WRITTEN-clause-ordered : goal.returns-then-release-eq-NOT_WRITTEN-clause-ordered
returns-then-release-eq-NOT_WRITTEN-clause-ordered c = map_ordered c.args.release c.args.self.now.engine.graph c.order.new.self.engine.graph c.if-release-eq-NOT_WRITTEN.true c.order.ensures.ordered

pub returns-then-release-eq-NOT_WRITTEN-clause-world : goal.returns-then-release-eq-NOT_WRITTEN-clause-world
returns-then-release-eq-NOT_WRITTEN-clause-world c dirty hung = edge_live c.args.self.now c.order.new.self c.args.release c.if-release-eq-NOT_WRITTEN.true c.order.ensures.world dirty

pub returns-then-release-eq-NOT_WRITTEN-clause-dirty : goal.returns-then-release-eq-NOT_WRITTEN-clause-dirty
returns-then-release-eq-NOT_WRITTEN-clause-dirty c = c.order.ensures.ordered.dirty

pub returns-then-release-eq-NOT_WRITTEN-clause-tallies : goal.returns-then-release-eq-NOT_WRITTEN-clause-tallies
returns-then-release-eq-NOT_WRITTEN-clause-tallies c = ap (λ (e : EngineView). e.tallies) c.order.ensures.others

pub returns-then-release-eq-NOT_WRITTEN-clause-grows : goal.returns-then-release-eq-NOT_WRITTEN-clause-grows
returns-then-release-eq-NOT_WRITTEN-clause-grows c = grows_ordered c.args.release.map_at c.args.release.count_at c.args.self.now.engine.graph c.order.new.self.engine.graph c.order.ensures.ordered

pub returns-then-release-eq-NOT_WRITTEN-clause-takes : goal.returns-then-release-eq-NOT_WRITTEN-clause-takes
returns-then-release-eq-NOT_WRITTEN-clause-takes c = takes_ordered c.args.release.map_at c.args.release.count_at c.args.self.now.engine c.order.new.self.engine c.order.ensures.ordered c.order.ensures.nodes c.order.ensures.rest.room

pub returns-then-release-eq-NOT_WRITTEN-clause-cache : goal.returns-then-release-eq-NOT_WRITTEN-clause-cache
returns-then-release-eq-NOT_WRITTEN-clause-cache c = ap (λ (e : EngineView). e.cache) c.order.ensures.others

pub returns-then-release-eq-NOT_WRITTEN-clause-stands : goal.returns-then-release-eq-NOT_WRITTEN-clause-stands
returns-then-release-eq-NOT_WRITTEN-clause-stands c = c.order.ensures.stands (release_kind c.args.self.now.shape c.args.release c.requires.placed)

pub returns-then-release-eq-WRITTEN-clause-ordered : goal.returns-then-release-eq-WRITTEN-clause-ordered
returns-then-release-eq-WRITTEN-clause-ordered c = map_barred c.args.release c.args.self.now.engine.graph c.order_by_barrier.new.self.engine.graph c.if-release-eq-WRITTEN.true c.order_by_barrier.ensures.barred

pub returns-then-release-eq-WRITTEN-clause-world : goal.returns-then-release-eq-WRITTEN-clause-world
returns-then-release-eq-WRITTEN-clause-world c dirty hung = edge_barred c.args.self.now c.order_by_barrier.new.self c.args.release c.if-release-eq-WRITTEN.true c.order_by_barrier.ensures.world hung

pub returns-then-release-eq-WRITTEN-clause-dirty : goal.returns-then-release-eq-WRITTEN-clause-dirty
returns-then-release-eq-WRITTEN-clause-dirty c = c.order_by_barrier.ensures.barred.dirty

pub returns-then-release-eq-WRITTEN-clause-tallies : goal.returns-then-release-eq-WRITTEN-clause-tallies
returns-then-release-eq-WRITTEN-clause-tallies c = ap (λ (e : EngineView). e.tallies) c.order_by_barrier.ensures.others

pub returns-then-release-eq-WRITTEN-clause-grows : goal.returns-then-release-eq-WRITTEN-clause-grows
returns-then-release-eq-WRITTEN-clause-grows c = grows_barred c.args.release.map_at c.args.release.count_at c.args.self.now.engine.graph c.order_by_barrier.new.self.engine.graph c.order_by_barrier.ensures.barred

pub returns-then-release-eq-WRITTEN-clause-takes : goal.returns-then-release-eq-WRITTEN-clause-takes
returns-then-release-eq-WRITTEN-clause-takes c = takes_barred c.args.release.map_at c.args.release.count_at c.args.self.now.engine c.order_by_barrier.new.self.engine c.order_by_barrier.ensures.barred c.order_by_barrier.ensures.nodes c.order_by_barrier.ensures.rest.room

pub returns-then-release-eq-WRITTEN-clause-cache : goal.returns-then-release-eq-WRITTEN-clause-cache
returns-then-release-eq-WRITTEN-clause-cache c = ap (λ (e : EngineView). e.cache) c.order_by_barrier.ensures.others

pub returns-then-release-eq-WRITTEN-clause-stands : goal.returns-then-release-eq-WRITTEN-clause-stands
returns-then-release-eq-WRITTEN-clause-stands c = c.order_by_barrier.ensures.stands (release_kind c.args.self.now.shape c.args.release c.requires.placed)

pub returns-else-release-eq-WRITTEN-clause-ordered : goal.returns-else-release-eq-WRITTEN-clause-ordered
returns-else-release-eq-WRITTEN-clause-ordered c = map_none c.args.release c.args.self.now.engine.graph c.if-release-eq-NOT_WRITTEN.false c.if-release-eq-WRITTEN.false

pub returns-else-release-eq-WRITTEN-clause-world : goal.returns-else-release-eq-WRITTEN-clause-world
returns-else-release-eq-WRITTEN-clause-world c dirty hung = edge_none c.args.self.now c.args.release c.if-release-eq-NOT_WRITTEN.false c.if-release-eq-WRITTEN.false

pub returns-else-release-eq-WRITTEN-clause-dirty : goal.returns-else-release-eq-WRITTEN-clause-dirty
returns-else-release-eq-WRITTEN-clause-dirty c = refl

pub returns-else-release-eq-WRITTEN-clause-tallies : goal.returns-else-release-eq-WRITTEN-clause-tallies
returns-else-release-eq-WRITTEN-clause-tallies c = refl

pub returns-else-release-eq-WRITTEN-clause-grows : goal.returns-else-release-eq-WRITTEN-clause-grows
returns-else-release-eq-WRITTEN-clause-grows c = grows_none c.args.release.count_at c.args.self.now.engine.graph

pub returns-else-release-eq-WRITTEN-clause-takes : goal.returns-else-release-eq-WRITTEN-clause-takes
returns-else-release-eq-WRITTEN-clause-takes c = takes_more 0 0 0 1 c.args.self.now.engine c.args.self.now.engine (takes_none c.args.self.now.engine) (omega arith) (omega arith)

pub returns-else-release-eq-WRITTEN-clause-rest : goal.returns-else-release-eq-WRITTEN-clause-rest
returns-else-release-eq-WRITTEN-clause-rest c = record { shape = refl; ledger = refl; room = refl }

pub returns-else-release-eq-WRITTEN-clause-stands : goal.returns-else-release-eq-WRITTEN-clause-stands
returns-else-release-eq-WRITTEN-clause-stands c = λ sound d array s. s

pub returns-then-release-eq-NOT_WRITTEN-clause-in_order : goal.returns-then-release-eq-NOT_WRITTEN-clause-in_order
returns-then-release-eq-NOT_WRITTEN-clause-in_order c = let o = c.order.ensures in
    order_orderly c.args.release.page c.args.self.now c.order.new.self c.args.release.map_at c.args.release.count_at o.world (release_kind c.args.self.now.shape c.args.release c.requires.placed) o.ordered o.others o.rest

pub returns-then-release-eq-WRITTEN-clause-in_order : goal.returns-then-release-eq-WRITTEN-clause-in_order
returns-then-release-eq-WRITTEN-clause-in_order c = let o = c.order_by_barrier.ensures in
    bar_orderly c.args.release.page c.args.self.now c.order_by_barrier.new.self c.args.release.map_at c.args.release.count_at o.world (release_kind c.args.self.now.shape c.args.release c.requires.placed) o.barred o.others o.rest

pub returns-else-release-eq-WRITTEN-clause-in_order : goal.returns-else-release-eq-WRITTEN-clause-in_order
returns-else-release-eq-WRITTEN-clause-in_order c o = o
