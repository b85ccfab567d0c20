use Rattle.std.proofs.Common.{ltb, leb, rules}
use Rattle.std.proofs.lemmas.List.Sorted.{IsPartitionPoint-from_clause}
use Rattle.dep_graph.specs.declared.pairs.Pair.{Pair}
use Rattle.dep_graph.proofs.PairLemmas.{parted_below, parted_upto, range_from}
use Rattle.dep_graph.proofs.pairs.range_of.Goals as goal

pub returns : goal.returns
returns c =
    let low = IsPartitionPoint-from_clause (λ (p : Pair). ltb p.before c.args.page) _ _ c.partition_point-first.ensures.partitioned (parted_below c.args.pairs.now c.args.page c.requires) (λ a r q k. search rules) in
    let high = IsPartitionPoint-from_clause (λ (p : Pair). leb p.before c.args.page) _ _ c.partition_point-end.ensures.partitioned (parted_upto c.args.pairs.now c.args.page c.requires) (λ a r q k. search rules) in
    range_from c.args.pairs.now c.args.page _ _ c.requires c.partition_point-first.ensures.bound c.partition_point-end.ensures.bound low high
