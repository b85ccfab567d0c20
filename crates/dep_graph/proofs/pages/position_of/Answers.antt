use Rattle.dep_graph.proofs.PageLemmas.{at_place}
use Rattle.dep_graph.proofs.pages.position_of.Goals as goal

pub returns : goal.returns
returns c = at_place c.args.pages.now c.place_of.result c.args.page c.requires.rising c.place_of.ensures c.requires.present
