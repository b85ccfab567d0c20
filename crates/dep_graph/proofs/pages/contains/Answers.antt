use Rattle.std.proofs.Common.{sym, ◌∙◌, arith}
use Rattle.std.proofs.lemmas.Bool.{le-ltb}
use Rattle.dep_graph.proofs.PageLemmas.{held_at, not_found}
use Rattle.dep_graph.proofs.pages.contains.Goals as goal

pub returns-then-at-pages : goal.returns-then-at-pages
returns-then-at-pages c = held_at c.args.pages.now c.place_of-at.result c.args.page c.requires c.place_of-at.ensures c.if-at-pages.true

pub returns-else-at-pages : goal.returns-else-at-pages
returns-else-at-pages c = le-ltb _ _ c.if-at-pages.false ∙ sym (not_found c.args.pages.now c.place_of-at.result c.args.page c.requires c.place_of-at.ensures (λ lt is. omega arith))
