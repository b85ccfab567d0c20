use Rattle.std.proofs.Common.{◌≡◌, ◌<◌, ap, ◌∙◌, arith}
use Rattle.std.proofs.lemmas.Bool.Decides.{nat_tests}
use Rattle.dep_graph.specs.Lists.{node_count}
use Rattle.dep_graph.proofs.NodeLemmas.{no_node, some_node}
use Rattle.flush_engine.specs.View.{EngineView}
use Rattle.flush_engine.proofs.writer.Writer.has_node.Goals as goal

pub returns-clause-on : goal.returns-clause-on
returns-clause-on c = λ on.
    let is = c.nodes.ensures.count ∙ ap (λ (e : EngineView). node_count e.graph) c.self.view_is in
    let up : 0 < c.nodes.result = grind (arith, nat_tests) in
    some_node c.args.self.now.graph (omega (arith, is, up))

pub returns-clause-over : goal.returns-clause-over
returns-clause-over c = λ off.
    let is = c.nodes.ensures.count ∙ ap (λ (e : EngineView). node_count e.graph) c.self.view_is in
    let none : c.nodes.result ≡ 0 = grind (arith, nat_tests) in
    no_node c.args.self.now.graph (omega (arith, is, none))
