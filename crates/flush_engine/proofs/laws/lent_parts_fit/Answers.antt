use Rattle.flush_engine.proofs.EditLemmas.{cache_lent, graph_lent}
use Rattle.flush_engine.proofs.laws.lent_parts_fit.Goals as goal

pub returns : goal.returns
returns c = record { graph = graph_lent; cache = cache_lent }
