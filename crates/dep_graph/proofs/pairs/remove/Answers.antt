use Rattle.std.proofs.Common.{List, subst, arith}
use Rattle.dep_graph.specs.declared.pairs.Pair.{Pair}
use Rattle.dep_graph.specs.Pairs.{IsPairPlace, Precedes}
use Rattle.dep_graph.proofs.PairLemmas.{has_remove, stands}
use Rattle.dep_graph.proofs.RisingLemmas.{rises_remove}
use Rattle.dep_graph.proofs.pairs.remove.Goals as goal

pub remove-requires : goal.remove-requires
remove-requires c =
    let at = subst (λ (l : List Pair). IsPairPlace l c.args.pair c.place_of-at.result) c.deref.ensures.value c.place_of-at.ensures in
    omega (arith, (stands c.args.pairs.now.items c.place_of-at.result c.args.pair c.args.pair c.requires.rising at c.requires.present).0)

pub returns-clause-pairs : goal.returns-clause-pairs
returns-clause-pairs c =
    let at = subst (λ (l : List Pair). IsPairPlace l c.args.pair c.place_of-at.result) c.deref.ensures.value c.place_of-at.ensures in
    let there = stands c.args.pairs.now.items c.place_of-at.result c.args.pair c.args.pair c.requires.rising at c.requires.present in
    λ a b. rw c.remove.ensures.items (has_remove c.args.pairs.now.items c.place_of-at.result c.args.pair c.args.pair c.requires.rising there.0 there.1 a b)

pub returns-clause-rising : goal.returns-clause-rising
returns-clause-rising c = rw c.remove.ensures.items (rises_remove Precedes c.args.pairs.now.items c.place_of-at.result c.requires.rising)
