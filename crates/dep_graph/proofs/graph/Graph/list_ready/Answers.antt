use Rattle.std.proofs.Common.{◌∙◌, ℕ, List, length, ap, subst, sym, arith}
use Rattle.dep_graph.specs.Pages.{holds, IsRising}
use Rattle.dep_graph.specs.Lists.{GraphLists, is_ready}
use Rattle.dep_graph.proofs.GraphLemmas.{ready_is}
use Rattle.dep_graph.proofs.graph.Graph.list_ready.Goals as goal

pub list-requires : goal.list-requires
list-requires c = let same = ap (λ (g : GraphLists). length g.dirty) c.self.view_is in omega (arith, c.requires, c.ready.ensures.some)

pub returns-clause-rising : goal.returns-clause-rising
returns-clause-rising c = subst IsRising (sym c.list.ensures.items) c.ready.ensures.rising

pub returns-clause-pages : goal.returns-clause-pages
returns-clause-pages c = λ a.
    ap (λ (l : List ℕ). holds l a) c.list.ensures.items ∙ c.ready.ensures.pages a
    ∙ ready_is c.self.inside.dirty c.self.inside.hung.items c.self.inside.hung_only c.self.inside.live.pairs c.self.inside.barred.items a c.self.invariant.0 ∙ ap (λ (g : GraphLists). is_ready g a) c.self.view_is
