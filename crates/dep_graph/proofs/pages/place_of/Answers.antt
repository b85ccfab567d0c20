use Rattle.std.proofs.Common.{ltb, rules}
use Rattle.std.proofs.lemmas.List.Sorted.{IsPartitionPoint-from_clause}
use Rattle.dep_graph.proofs.PageLemmas.{parted, place_from}
use Rattle.dep_graph.proofs.pages.place_of.Goals as goal

pub returns : goal.returns
returns c =
    let point = IsPartitionPoint-from_clause (λ p. ltb p c.args.page) _ _ c.partition_point.ensures.partitioned (parted c.args.pages.now c.args.page c.requires) (λ a r q k. search rules) in
    place_from c.args.pages.now c.args.page c.partition_point.result c.partition_point.ensures.bound point
