use Rattle.std.proofs.Common.{map, arith}
use Rattle.dep_graph.proofs.PageLemmas.{at_place}
use Rattle.flush_engine.specs.Tallies.{page_of}
use Rattle.flush_engine.proofs.TallyLemmas.{len_pages, tally_at}
use Rattle.flush_engine.proofs.tallies.find.Goals as goal

pub bounds-tallies-place_of : goal.bounds-tallies-place_of
bounds-tallies-place_of c =
    let is = at_place (map page_of c.args.tallies.now) c.place_of.result c.args.page c.requires.rising c.place_of.ensures c.requires.there in
    let w = is.within in
    let n = len_pages c.args.tallies.now in
    omega (arith, w, n)

pub returns : goal.returns
returns c = tally_at c.args.tallies.now c.args.page c.place_of.result _ c.place_of.ensures c.requires.rising c.requires.there
