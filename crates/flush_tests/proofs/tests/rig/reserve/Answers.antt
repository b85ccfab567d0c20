use Rattle.std.proofs.Common.{◌∙◌, ap}
use Rattle.dep_graph.specs.Lists.{GraphLists}
use Rattle.flush_tests.proofs.tests.rig.reserve.Goals as goal

pub returns-in-Ok-clause-fits : goal.returns-in-Ok-clause-fits
returns-in-Ok-clause-fits g c =
    let is = c.in-Ok.ensures.ok in
    let was = c.graph.ensures.now in
    c.lent_parts_fit.ensures.graph c.args.engine.now _ c.reserve.new.self (ap (λ (g : GraphLists). g.dirty) is ∙ ap (λ (g : GraphLists). g.dirty) was) (ap (λ (g : GraphLists). g.hung) is ∙ ap (λ (g : GraphLists). g.hung) was) (ap (λ (g : GraphLists). g.edges) is ∙ ap (λ (g : GraphLists). g.edges) was) c.requires
