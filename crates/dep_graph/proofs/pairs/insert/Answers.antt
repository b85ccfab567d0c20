use Rattle.std.proofs.Common.{List, subst}
use Rattle.dep_graph.specs.declared.pairs.Pair.{Pair}
use Rattle.dep_graph.specs.Pairs.{IsPairPlace}
use Rattle.dep_graph.proofs.PairLemmas.{has_insert, ends_insert, rising_insert}
use Rattle.dep_graph.proofs.pairs.insert.Goals as goal

pub returns-clause-pairs : goal.returns-clause-pairs
returns-clause-pairs c = λ a b. rw c.insert_at.ensures.items (has_insert c.args.pairs.now.items c.place_of-at.result c.args.pair a b)

pub returns-clause-ends : goal.returns-clause-ends
returns-clause-ends c = λ b. rw c.insert_at.ensures.items (ends_insert c.args.pairs.now.items c.place_of-at.result c.args.pair b)

pub returns-clause-rising : goal.returns-clause-rising
returns-clause-rising c =
    let at = subst (λ (l : List Pair). IsPairPlace l c.args.pair c.place_of-at.result) c.deref.ensures.value c.place_of-at.ensures in
    rw c.insert_at.ensures.items (rising_insert c.args.pairs.now.items c.place_of-at.result c.args.pair c.requires.rising at c.requires.absent)
