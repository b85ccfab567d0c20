use Rattle.std.proofs.Common.{arith}
use Rattle.std.proofs.lemmas.Bool.{cases_lt}
use Rattle.dep_graph.proofs.PageLemmas.{found, least_from}
use Rattle.dep_graph.proofs.pages.first_from.Goals as goal
use Rattle.std.proofs.Common.{refl, inl, inr}

pub returns-then-at-pages : goal.returns-then-at-pages
returns-then-at-pages c = (
  found c.args.pages.now c.place_of-at.result _ c.if-at-pages.true refl,
  c.place_of-at.ensures.above c.place_of-at.result (omega arith) c.if-at-pages.true,
  λ a h le. (least_from c.args.pages.now c.place_of-at.result c.args.from a c.requires c.place_of-at.ensures h le).1,
)

pub returns-else-at-pages : goal.returns-else-at-pages
returns-else-at-pages c = λ a h. elim (cases_lt a c.args.from) [
  | inl lt ↦ lt
  | inr le ↦ absurd (let q = least_from c.args.pages.now c.place_of-at.result c.args.from a c.requires c.place_of-at.ensures h le in omega (arith, q.0))
]
