use Rattle.std.proofs.Common.{◌≤◌, map, length, eq-eqb, sym, ◌∙◌, arith}
use Rattle.std.proofs.lemmas.Bool.{true≢false}
use Rattle.std.proofs.lemmas.Bool.Decides.{nat_tests}
use Rattle.dep_graph.proofs.PageLemmas.{not_found}
use Rattle.flush_engine.specs.declared.tallies.Tally.{Tally}
use Rattle.flush_engine.specs.Tallies.{page_of}
use Rattle.flush_engine.proofs.TallyLemmas.{len_pages, page_at}
use Rattle.flush_engine.proofs.tallies.stands_at.Goals as goal

no_tally : Tally
no_tally = record { page = 0; age = 0; edits = 0 }

pub returns-then-at-tallies-clause-absent : goal.returns-then-at-tallies-clause-absent
returns-then-at-tallies-clause-absent c = λ off. not_found (map page_of c.args.tallies.now) c.args.at c.args.page c.requires.rising c.requires.place (λ lt is. true≢false (sym (eq-eqb _ _ (sym (page_at c.args.tallies.now c.args.at (record { page = 0; age = 0; edits = 0 }) c.if-at-tallies.true) ∙ is)) ∙ off))

pub returns-else-at-tallies-clause-absent : goal.returns-else-at-tallies-clause-absent
returns-else-at-tallies-clause-absent c = λ off. not_found (map page_of c.args.tallies.now) c.args.at c.args.page c.requires.rising c.requires.place (λ lt is. let n = len_pages c.args.tallies.now in let no : length c.args.tallies.now ≤ c.args.at = grind (arith, nat_tests) in omega (arith, lt, n, no))
