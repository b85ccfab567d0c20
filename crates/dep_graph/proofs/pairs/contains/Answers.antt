use Rattle.std.proofs.Common.{sym, ◌∙◌, arith}
use Rattle.std.proofs.lemmas.Bool.{le-ltb}
use Rattle.dep_graph.proofs.PairLemmas.{held_at, not_found}
use Rattle.dep_graph.proofs.pairs.contains.Goals as goal

pub returns-then-at-pairs : goal.returns-then-at-pairs
returns-then-at-pairs c = c.is.ensures ∙ held_at c.args.pairs.now c.place_of-at.result c.args.pair _ c.requires c.place_of-at.ensures c.if-at-pairs.true

pub returns-else-at-pairs : goal.returns-else-at-pairs
returns-else-at-pairs c = le-ltb _ _ c.if-at-pairs.false ∙ sym (not_found c.args.pairs.now c.place_of-at.result c.args.pair (record { before = 0; after = 0 }) c.requires c.place_of-at.ensures (λ lt. absurd (omega arith)))
