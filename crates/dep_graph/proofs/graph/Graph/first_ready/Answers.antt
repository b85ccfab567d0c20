use Rattle.std.proofs.Common.{◌≡◌, ap, ◌∙◌, sym, true, ℕ, ◌&&◌, eqb}
use Rattle.dep_graph.specs.Pages.{holds}
use Rattle.dep_graph.specs.Waits.{waits_for}
use Rattle.dep_graph.specs.Lists.{GraphLists, is_ready}
use Rattle.dep_graph.proofs.GraphLemmas.{ready_is, least_same}
use Rattle.dep_graph.proofs.graph.Graph.first_ready.Goals as goal

same : (c : goal.After-first_ready) (a : ℕ) → (holds c.self.inside.dirty.pages a && eqb (waits_for c.self.inside.dirty a) 0) ≡ is_ready c.args.self.now a
same c a =
    ready_is c.self.inside.dirty c.self.inside.hung.items c.self.inside.hung_only c.self.inside.live.pairs c.self.inside.barred.items a c.self.invariant.0
    ∙ ap (λ (g : GraphLists). is_ready g a) c.self.view_is

pub returns : goal.returns
returns c =
    least_same (λ a. (holds c.self.inside.dirty.pages a && eqb (waits_for c.self.inside.dirty a) 0) ≡ true) (λ a. is_ready c.args.self.now a ≡ true) c.args.from c.first_ready.result
    (λ a h. sym (same c a) ∙ h) (λ a h. same c a ∙ h) c.first_ready.ensures
