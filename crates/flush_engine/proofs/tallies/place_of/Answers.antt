use Rattle.std.proofs.Common.{ltb, rules}
use Rattle.std.proofs.lemmas.List.Sorted.{IsPartitionPoint-from_clause}
use Rattle.flush_engine.specs.declared.tallies.Tally.{Tally}
use Rattle.flush_engine.proofs.TallyLemmas.{parted, place_from}
use Rattle.flush_engine.proofs.tallies.place_of.Goals as goal

pub returns : goal.returns
returns c =
    let point = IsPartitionPoint-from_clause (λ (t : Tally). ltb t.page c.args.page) _ _ c.partition_point.ensures.partitioned (parted c.args.tallies.now c.args.page c.requires) (λ a r q k. search rules) in
    place_from c.args.tallies.now c.args.page c.partition_point.result c.partition_point.ensures.bound point
