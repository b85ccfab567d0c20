use Rattle.std.specs.Prelude.{if◌then◌else◌}
use Rattle.std.proofs.Common.{◌≡◌, ap, subst, sym, ◌∙◌, not, ◌||◌, ◌&&◌, ◌+◌, ℕ, List, length, eqb, arith}
use Rattle.std.proofs.lemmas.Bool.{and_parts, not-true}
use Rattle.dep_graph.specs.declared.pairs.Pair.{Pair}
use Rattle.dep_graph.specs.Pages.{holds}
use Rattle.dep_graph.specs.Pairs.{AreRising, has_pair, ends_at, from_page}
use Rattle.dep_graph.specs.Waits.{waits_for}
use Rattle.dep_graph.specs.Lists.{GraphLists, IsGraph, barred_in, dirty_in, hung_in, is_ready, live_in, waiter_count}
use Rattle.dep_graph.specs.Kept.{IsKept}
use Rattle.dep_graph.proofs.GraphLemmas.{graph_of, hung_room, ends_parts, from_others, has_from, has_not_from, live_is, barred_is, length_parts, none_leads, waiters_are}
use Rattle.dep_graph.proofs.PageLemmas.{fewer, shorter_by_one}
use Rattle.dep_graph.proofs.KeptLemmas.{kept_wrote}
use Rattle.dep_graph.proofs.CountLemmas.{wrote_marked, wrote_nodes}
use Rattle.dep_graph.proofs.graph.Graph.wrote.Goals as goal

pub leave-requires-clause-there : goal.leave-requires-clause-there
leave-requires-clause-there c = (and_parts _ _ (ap (λ (g : GraphLists). is_ready g c.args.page) c.self.view_is ∙ c.requires)).0

pub leave-requires-clause-ready : goal.leave-requires-clause-ready
leave-requires-clause-ready c = none_leads c.self.inside.dirty c.self.inside.hung.items c.self.inside.hung_only c.self.inside.live.pairs c.self.inside.barred.items c.args.page c.self.invariant.0 (not-true _ (and_parts _ _ (ap (λ (g : GraphLists). is_ready g c.args.page) c.self.view_is ∙ c.requires)).1)

pub bar_each-requires-clause-room : goal.bar_each-requires-clause-room
bar_each-requires-clause-room c =
    let out = c.out_of.ensures ∙ ap (λ (l : List Pair). from_page l c.args.page) c.pairs.ensures.pairs in
    let parts = length_parts c.self.inside.live.pairs c.args.page in
    omega (arith, c.self.invariant.1.barred, ap length out)

pub bar_each-requires-clause-some : goal.bar_each-requires-clause-some
bar_each-requires-clause-some c =
    let out = c.out_of.ensures ∙ ap (λ (l : List Pair). from_page l c.args.page) c.pairs.ensures.pairs in
    λ b.
    let parts = ends_parts c.self.inside.live.pairs c.args.page b in
    let all = c.self.invariant.0.counts b in
    let same = c.leave.ensures.counts b in
    let e = ap (λ (l : List Pair). ends_at l b) out in
    omega arith

pub bar_each-requires-clause-pages_room : goal.bar_each-requires-clause-pages_room
bar_each-requires-clause-pages_room c =
    let le = fewer c.leave.new.self.pages c.self.inside.dirty.pages c.leave.ensures.rising c.self.invariant.0.dirty_rising (λ a h. (and_parts _ _ (sym (c.leave.ensures.pages a) ∙ h)).0) in
    omega (arith, c.leave.ensures.room, c.self.invariant.1.dirty)

pub include-requires-clause-room : goal.include-requires-clause-room
include-requires-clause-room c =
    let there = (and_parts _ _ (ap (λ (g : GraphLists). is_ready g c.args.page) c.self.view_is ∙ c.requires)).0 in
    λ off. let lt = hung_room c.self.inside.dirty c.self.inside.hung.items c.self.inside.hung_only c.self.inside.live.pairs c.self.inside.barred.items c.args.page c.self.invariant.0 there off in omega (arith, c.self.invariant.1.hung)

pub invariant_of-self : goal.invariant_of-self
invariant_of-self c =
    let out = c.out_of.ensures ∙ ap (λ (l : List Pair). from_page l c.args.page) c.pairs.ensures.pairs in
    let there = (and_parts _ _ (ap (λ (g : GraphLists). is_ready g c.args.page) c.self.view_is ∙ c.requires)).0 in
    let ready : waits_for c.self.inside.dirty c.args.page ≡ 0 = none_leads c.self.inside.dirty c.self.inside.hung.items c.self.inside.hung_only c.self.inside.live.pairs c.self.inside.barred.items c.args.page c.self.invariant.0 (not-true _ (and_parts _ _ (ap (λ (g : GraphLists). is_ready g c.args.page) c.self.view_is ∙ c.requires)).1) in
    let fits = c.self.invariant.1 in
    let parts = length_parts c.self.inside.live.pairs c.args.page in
    let left = ap length c.remove_out_of.ensures.pairs in
    let gone = ap length out in
    let more = c.bar_each.ensures.len in
    let len = shorter_by_one c.self.inside.dirty.pages c.leave.new.self.pages c.args.page c.self.invariant.0.dirty_rising c.leave.ensures.rising c.leave.ensures.pages there in
    let same = ap length c.bar_each.ensures.pages in (
      subst (λ (l : List Pair). IsKept c.bar_each.new.dirty c.include.new.pages.items (c.self.inside.hung_only + 1) l c.bar_each.new.barred.items) (sym c.remove_out_of.ensures.pairs)
          (kept_wrote c.self.inside.dirty c.self.inside.hung.items c.self.inside.hung_only c.self.inside.live.pairs c.self.inside.barred.items c.self.invariant.0 c.args.page ready c.bar_each.new.dirty (λ a. ap (λ (l : List ℕ). holds l a) c.bar_each.ensures.pages ∙ c.leave.ensures.pages a)
          c.include.new.pages.items c.bar_each.new.barred.items there
          (rw c.bar_each.ensures.pages c.leave.ensures.rising) c.include.ensures.rising (subst AreRising c.remove_out_of.ensures.pairs c.remove_out_of.ensures.rising) c.bar_each.ensures.rising c.include.ensures.pages
          (λ a b. c.bar_each.ensures.pairs a b ∙ ap (λ (l : List Pair). has_pair c.self.inside.barred.items a b || has_pair l a b) out)
          (λ b. let e = ap (λ (l : List Pair). ends_at l b) out in let same = c.leave.ensures.counts b in let is = c.bar_each.ensures.counts b in omega arith)),
      record {
        dirty = omega (arith, c.bar_each.ensures.pages_room, c.leave.ensures.room, fits.dirty);
        hung = omega (arith, c.include.ensures.room, fits.hung);
        live = omega (arith, c.remove_out_of.ensures.room, fits.live);
        barred = omega (arith, c.bar_each.ensures.room, fits.barred);
        search_fits = omega (arith, fits.search_fits);
        left_fits = omega (arith, fits.left_fits);
        level_fits = omega (arith, fits.level_fits);
        few_nodes = omega (arith, fits.few_nodes);
        few_places = fits.few_places;
        few_edges = omega (arith, fits.few_edges);
      },
      c.self.invariant.2,
    )

pub returns : goal.returns
returns c =
    let out = c.out_of.ensures ∙ ap (λ (l : List Pair). from_page l c.args.page) c.pairs.ensures.pairs in
    let was = subst IsGraph c.self.view_is (graph_of c.self.inside.dirty c.self.inside.hung.items c.self.inside.hung_only c.self.inside.live.pairs c.self.inside.barred.items _ _ c.self.invariant.0) in
    let is = graph_of c.bar_each.new.dirty c.include.new.pages.items (c.self.inside.hung_only + 1) c.remove_out_of.new.self.pairs c.bar_each.new.barred.items c.self.inside.spare_nodes c.self.inside.spare_edges (invariant_of-self c).0 in
    let on = (and_parts _ _ c.requires).0 in
    let dirty = λ (a : ℕ). ap (λ (l : List ℕ). holds l a) c.bar_each.ensures.pages ∙ c.leave.ensures.pages a ∙ ap (λ (g : GraphLists). dirty_in g a && not (eqb a c.args.page)) c.self.view_is in
    let hung = λ (a : ℕ). c.include.ensures.pages a ∙ ap (λ (g : GraphLists). hung_in g a || eqb a c.args.page) c.self.view_is in
    record {
      dirty = dirty;
      hung = hung;
      live = λ a b.
          live_is c.remove_out_of.new.self.pairs c.bar_each.new.barred.items a b ∙ ap (λ (l : List Pair). has_pair l a b) c.remove_out_of.ensures.pairs ∙ has_not_from c.self.inside.live.pairs c.args.page a b
          ∙ ap (λ x. x && not (eqb a c.args.page)) (sym (live_is c.self.inside.live.pairs c.self.inside.barred.items a b) ∙ ap (λ (g : GraphLists). live_in g a b) c.self.view_is);
      barred = λ a b.
          let live = sym (live_is c.self.inside.live.pairs c.self.inside.barred.items a b) ∙ ap (λ (g : GraphLists). live_in g a b) c.self.view_is in
          let barred = sym (barred_is c.self.inside.live.pairs c.self.inside.barred.items a b) ∙ ap (λ (g : GraphLists). barred_in g a b) c.self.view_is in
          barred_is c.remove_out_of.new.self.pairs c.bar_each.new.barred.items a b ∙ c.bar_each.ensures.pairs a b
          ∙ ap (λ (l : List Pair). has_pair c.self.inside.barred.items a b || has_pair l a b) out ∙ ap (λ x. has_pair c.self.inside.barred.items a b || x) (has_from c.self.inside.live.pairs c.args.page a b) ∙ rw (live, barred);
      waiters = λ a.
          waiters_are c.remove_out_of.new.self.pairs c.bar_each.new.barred.items a ∙ ap (λ (l : List Pair). length (from_page l a)) c.remove_out_of.ensures.pairs ∙ from_others c.self.inside.live.pairs c.args.page a
          ∙ ap (λ n. if eqb a c.args.page then 0 else n) (sym (waiters_are c.self.inside.live.pairs c.self.inside.barred.items a) ∙ ap (λ (g : GraphLists). waiter_count g a) c.self.view_is);
      spare_nodes = ap (λ (g : GraphLists). g.spare_nodes) c.self.view_is;
      spare_edges = ap (λ (g : GraphLists). g.spare_edges) c.self.view_is;
      graph = is;
      nodes = wrote_nodes c.args.page c.args.self.now _ was is on dirty hung;
      marked = wrote_marked c.args.page c.args.self.now _ was is on dirty hung;
    }
