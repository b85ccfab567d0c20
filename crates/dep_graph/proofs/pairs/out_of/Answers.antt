use Rattle.std.proofs.Common.{sym}
use Rattle.dep_graph.proofs.PairLemmas.{range_filter}
use Rattle.dep_graph.proofs.pairs.out_of.Goals as goal

pub returns : goal.returns
returns c = sym (range_filter c.args.pairs.now c.args.page c.range_of-first.result.0 c.range_of-first.result.1 c.range_of-first.ensures).0
