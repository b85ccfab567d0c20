use Rattle.std.proofs.Common.{rules}
use Rattle.std.proofs.lemmas.List.Sorted.{IsPartitionPoint-from_clause}
use Rattle.dep_graph.specs.Pairs.{precedes}
use Rattle.dep_graph.proofs.PairLemmas.{parted, place_from}
use Rattle.dep_graph.proofs.pairs.place_of.Goals as goal

pub returns : goal.returns
returns c =
    let point = IsPartitionPoint-from_clause (λ p. precedes p c.args.pair) _ _ c.partition_point.ensures.partitioned (parted c.args.pairs.now c.args.pair c.requires) (λ a r q k. search rules) in
    place_from c.args.pairs.now c.args.pair c.partition_point.result c.partition_point.ensures.bound point
