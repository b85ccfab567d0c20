use Rattle.std.proofs.Common.{arith, refl, inl, inr, sym, ap, ◌∙◌}
use Rattle.flush_engine.specs.View.{EngineView}
use Rattle.store_core.proofs.AppliedStands.{print_kind}
use Rattle.store_core.proofs.Grown.{grows_none, grows_ordered, now_ordered, takes_more, takes_none, takes_ordered}
use Rattle.store_core.proofs.Moved.{unborn_edge, born_edge}
use Rattle.store_core.proofs.OrderlySteps.{order_orderly}
use Rattle.store_core.proofs.Core.order_print.Goals as goal

pub returns-then-unborn-clause-ordered : goal.returns-then-unborn-clause-ordered
returns-then-unborn-clause-ordered c = inr (sym c.unborn-unborn.ensures ∙ c.if-unborn.true)

pub returns-then-unborn-clause-world : goal.returns-then-unborn-clause-world
returns-then-unborn-clause-world c = unborn_edge c.args.self.now c.args.release (sym c.unborn-unborn.ensures ∙ c.if-unborn.true)

pub returns-then-unborn-clause-dirty : goal.returns-then-unborn-clause-dirty
returns-then-unborn-clause-dirty c = refl

pub returns-then-unborn-clause-tallies : goal.returns-then-unborn-clause-tallies
returns-then-unborn-clause-tallies c = refl

pub returns-then-unborn-clause-grows : goal.returns-then-unborn-clause-grows
returns-then-unborn-clause-grows c = grows_none c.args.release.count_at c.args.self.now.engine.graph

pub returns-then-unborn-clause-takes : goal.returns-then-unborn-clause-takes
returns-then-unborn-clause-takes c = takes_more 0 0 0 1 c.args.self.now.engine c.args.self.now.engine (takes_none c.args.self.now.engine) (omega arith) (omega arith)

pub returns-then-unborn-clause-rest : goal.returns-then-unborn-clause-rest
returns-then-unborn-clause-rest c = record { shape = refl; ledger = refl; room = refl }

pub returns-then-unborn-clause-stands : goal.returns-then-unborn-clause-stands
returns-then-unborn-clause-stands c = λ sound d array s. s

pub order-requires-clause-opens : goal.order-requires-clause-opens
order-requires-clause-opens c dirty closes = c.requires.opens (sym c.unborn-unborn.ensures ∙ c.if-unborn.false) closes

pub returns-clause-ordered : goal.returns-clause-ordered
returns-clause-ordered c = inl (now_ordered c.args.release.print_at c.args.release.count_at c.args.self.now.engine.graph c.order.new.self.engine.graph c.order.ensures.ordered c.requires.before)

pub returns-clause-world : goal.returns-clause-world
returns-clause-world c = born_edge c.args.self.now c.order.new.self c.args.release (sym c.unborn-unborn.ensures ∙ c.if-unborn.false) c.requires.before c.order.ensures.world

pub returns-clause-dirty : goal.returns-clause-dirty
returns-clause-dirty c = c.order.ensures.ordered.dirty

pub returns-clause-tallies : goal.returns-clause-tallies
returns-clause-tallies c = ap (λ (e : EngineView). e.tallies) c.order.ensures.others

pub returns-clause-grows : goal.returns-clause-grows
returns-clause-grows c = grows_ordered c.args.release.print_at c.args.release.count_at c.args.self.now.engine.graph c.order.new.self.engine.graph c.order.ensures.ordered

pub returns-clause-takes : goal.returns-clause-takes
returns-clause-takes c = takes_ordered c.args.release.print_at c.args.release.count_at c.args.self.now.engine c.order.new.self.engine c.order.ensures.ordered c.order.ensures.nodes c.order.ensures.rest.room

pub returns-clause-cache : goal.returns-clause-cache
returns-clause-cache c = ap (λ (e : EngineView). e.cache) c.order.ensures.others

pub returns-clause-stands : goal.returns-clause-stands
returns-clause-stands c = c.order.ensures.stands (print_kind c.args.self.now.shape c.args.release c.requires.placed)

pub returns-then-unborn-clause-in_order : goal.returns-then-unborn-clause-in_order
returns-then-unborn-clause-in_order c o = o

pub returns-clause-in_order : goal.returns-clause-in_order
returns-clause-in_order c = let o = c.order.ensures in
    order_orderly c.args.release.page c.args.self.now c.order.new.self c.args.release.print_at c.args.release.count_at o.world (print_kind c.args.self.now.shape c.args.release c.requires.placed) o.ordered o.others o.rest
