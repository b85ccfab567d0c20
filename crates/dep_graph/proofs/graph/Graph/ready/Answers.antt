use Rattle.std.proofs.Common.{ap, ◌∙◌}
use Rattle.dep_graph.specs.Lists.{GraphLists, is_ready}
use Rattle.dep_graph.proofs.GraphLemmas.{ready_is}
use Rattle.dep_graph.proofs.graph.Graph.ready.Goals as goal

pub returns : goal.returns
returns c =
    c.is_ready.ensures ∙ ready_is c.self.inside.dirty c.self.inside.hung.items c.self.inside.hung_only c.self.inside.live.pairs c.self.inside.barred.items c.args.page c.self.invariant.0
    ∙ ap (λ (g : GraphLists). is_ready g c.args.page) c.self.view_is
