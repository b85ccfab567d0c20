use Rattle.std.proofs.Common.{ℕ, List, subst}
use Rattle.dep_graph.specs.Pages.{IsPlace}
use Rattle.dep_graph.proofs.PageLemmas.{holds_insert, rising_insert}
use Rattle.dep_graph.proofs.pages.insert.Goals as goal

pub returns-clause-pages : goal.returns-clause-pages
returns-clause-pages c = λ a. rw c.insert_at.ensures.items (holds_insert c.args.pages.now.items c.place_of-at.result c.args.page a)

pub returns-clause-rising : goal.returns-clause-rising
returns-clause-rising c =
    let at = subst (λ (l : List ℕ). IsPlace l c.args.page c.place_of-at.result) c.deref.ensures.value c.place_of-at.ensures in
    rw c.insert_at.ensures.items (rising_insert c.args.pages.now.items c.place_of-at.result c.args.page c.requires.rising at c.requires.absent)
