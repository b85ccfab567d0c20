use Rattle.std.proofs.Common.{◌≡◌, ◌+◌, ap, subst, length, arith}
use Rattle.dep_graph.specs.Kept.{hung_alone}
use Rattle.dep_graph.specs.Lists.{GraphLists, IsGraph, node_count}
use Rattle.dep_graph.proofs.GraphLemmas.{graph_of}
use Rattle.dep_graph.proofs.graph.Graph.nodes.Goals as goal

pub returns-clause-count : goal.returns-clause-count
returns-clause-count c =
    let dirty = ap (λ (g : GraphLists). length g.dirty) c.self.view_is in
    let is : length c.self.inside.dirty.pages + length (hung_alone c.self.inside.dirty.pages c.self.inside.hung.items) ≡ node_count c.args.self.now = ap node_count c.self.view_is in
    omega (arith, c.dirty.ensures, c.self.invariant.0.alone)

pub returns-clause-graph : goal.returns-clause-graph
returns-clause-graph c = subst IsGraph c.self.view_is (graph_of c.self.inside.dirty c.self.inside.hung.items c.self.inside.hung_only c.self.inside.live.pairs c.self.inside.barred.items _ _ c.self.invariant.0)
