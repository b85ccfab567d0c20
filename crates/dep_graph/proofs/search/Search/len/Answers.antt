use Rattle.std.proofs.Common.{ap, arith}
use Rattle.dep_graph.specs.Trails.{Trail}
use Rattle.dep_graph.proofs.SearchLemmas.{marked_le}
use Rattle.dep_graph.proofs.search.Search.len.Goals as goal

pub returns-clause-few : goal.returns-clause-few
returns-clause-few c =
    let le = marked_le c.self.inside.marks.items in
    let once = c.self.invariant.0.once in
    omega (arith, ap (λ (t : Trail). t.room) c.self.view_is)
