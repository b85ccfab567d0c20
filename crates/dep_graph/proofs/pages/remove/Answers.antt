use Rattle.std.proofs.Common.{ℕ, ◌<◌, List, subst, arith}
use Rattle.dep_graph.specs.Pages.{IsAt}
use Rattle.dep_graph.proofs.PageLemmas.{holds_remove}
use Rattle.dep_graph.proofs.RisingLemmas.{rises_remove}
use Rattle.dep_graph.proofs.pages.remove.Goals as goal

pub remove-requires : goal.remove-requires
remove-requires c = let at = subst (λ (l : List ℕ). IsAt l c.args.page c.position_of-at.result) c.deref.ensures.value c.position_of-at.ensures in omega (arith, at.within)

pub returns-clause-place : goal.returns-clause-place
returns-clause-place c = subst (λ (l : List ℕ). IsAt l c.args.page c.position_of-at.result) c.deref.ensures.value c.position_of-at.ensures

pub returns-clause-pages : goal.returns-clause-pages
returns-clause-pages c =
    let at = subst (λ (l : List ℕ). IsAt l c.args.page c.position_of-at.result) c.deref.ensures.value c.position_of-at.ensures in
    λ a. rw c.remove.ensures.items (holds_remove c.args.pages.now.items c.position_of-at.result c.args.page a c.requires.rising at.within at.is)

pub returns-clause-rising : goal.returns-clause-rising
returns-clause-rising c = rw c.remove.ensures.items (rises_remove (λ (a b : ℕ). a < b) c.args.pages.now.items c.position_of-at.result c.requires.rising)
