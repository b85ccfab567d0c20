use Rattle.std.proofs.Common.{◌≡◌, List, map, subst, ◌∙◌, refl, false}
use Rattle.dep_graph.specs.Pages.{holds, IsAt, IsPlace}
use Rattle.flush_engine.specs.declared.tallies.Tally.{Tally}
use Rattle.flush_engine.specs.Tallies.{page_of}
use Rattle.flush_engine.proofs.TallyLemmas.{left_absent, left_there}
use Rattle.flush_engine.proofs.tallies.leave.Goals as goal

pub returns-then-stands_at-clause-items : goal.returns-then-stands_at-clause-items
returns-then-stands_at-clause-items c =
    let at = subst (λ (l : List Tally). IsPlace (map page_of l) c.args.page c.place_of-at.result) c.deref.ensures.value c.place_of-at.ensures in
    let is = subst (λ (l : List Tally). IsAt (map page_of l) c.args.page c.place_of-at.result) c.deref-2.ensures.value (c.if-stands_at.ensures.there refl) in
    c.remove_at.ensures.items ∙ left_there c.args.tallies.now.items c.args.page c.place_of-at.result at is

pub returns-else-stands_at-clause-items : goal.returns-else-stands_at-clause-items
returns-else-stands_at-clause-items c =
    left_absent c.args.tallies.now.items c.args.page (subst (λ (l : List Tally). holds (map page_of l) c.args.page ≡ false) c.deref-2.ensures.value (c.if-stands_at.ensures.absent refl))
