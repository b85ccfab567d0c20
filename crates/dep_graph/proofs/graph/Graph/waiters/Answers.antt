use Rattle.std.proofs.Common.{ap, length, sym, ◌∙◌, List, arith}
use Rattle.dep_graph.specs.declared.pairs.Pair.{Pair}
use Rattle.dep_graph.specs.Pairs.{from_page}
use Rattle.dep_graph.specs.Lists.{GraphLists, waiter_count}
use Rattle.dep_graph.proofs.GraphLemmas.{length_parts, waiters_are}
use Rattle.dep_graph.proofs.graph.Graph.waiters.Goals as goal

pub overflow_cast-result : goal.overflow_cast-result
overflow_cast-result c =
    let parts = length_parts c.self.inside.live.pairs c.args.page in
    omega (arith, c.self.invariant.1.few_edges, ap length (c.out_of.ensures ∙ ap (λ (l : List Pair). from_page l c.args.page) c.pairs.ensures.pairs))

pub returns : goal.returns
returns c =
    ap length (c.out_of.ensures ∙ ap (λ (l : List Pair). from_page l c.args.page) c.pairs.ensures.pairs) ∙ sym (waiters_are c.self.inside.live.pairs c.self.inside.barred.items c.args.page)
    ∙ ap (λ (g : GraphLists). waiter_count g c.args.page) c.self.view_is
