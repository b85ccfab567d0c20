use Rattle.std.proofs.Common.{◌∙◌, ◌&&◌, List, ℕ, ap, eqb, length, arith}
use Rattle.dep_graph.specs.Pages.{holds}
use Rattle.dep_graph.specs.Waits.{Waits, waits_for}
use Rattle.dep_graph.proofs.WaitLemmas.{ready_within}
use Rattle.dep_graph.proofs.waiting.Waiting.ready.Goals as goal

pub returns-clause-pages : goal.returns-clause-pages
returns-clause-pages c = λ a. ap (λ (l : List ℕ). holds l a) c.deref.ensures.value ∙ c.self.invariant.none_waits a ∙ ap (λ (w : Waits). holds w.pages a && eqb (waits_for w a) 0) c.self.view_is

pub returns-clause-some : goal.returns-clause-some
returns-clause-some c =
    let le = ready_within c.self.inside.pages.items c.self.inside.counts.items c.self.inside.ready.items c.self.invariant in
    let same = ap (λ (w : Waits). length w.pages) c.self.view_is in
    let is = ap length c.deref.ensures.value in
    omega arith
