use Rattle.std.specs.Prelude.{if◌then◌else◌}
use Rattle.std.proofs.Common.{◌≡◌, ap, subst, sym, ◌∙◌, inl, inr, ◌+◌, ◌≤◌, Bool, not, ◌&&◌, ℕ, List, length, eqb, arith}
use Rattle.std.proofs.lemmas.Bool.{and_parts, cases_Bool}
use Rattle.std.specs.Int.{from_bool}
use Rattle.dep_graph.specs.declared.pairs.Pair.{Pair}
use Rattle.dep_graph.specs.Pages.{holds}
use Rattle.dep_graph.specs.Pairs.{AreRising, has_pair, ends_at, from_page}
use Rattle.dep_graph.specs.Lists.{GraphLists, IsGraph, barred_in, dirty_in, live_in, waiter_count, waits_in}
use Rattle.dep_graph.specs.Kept.{IsKept}
use Rattle.dep_graph.proofs.GraphLemmas.{graph_of, ends_parts, from_others, has_not_from, live_is, barred_is, length_parts, none_leads, waiters_are}
use Rattle.dep_graph.proofs.PageLemmas.{fewer, shorter_by_one}
use Rattle.dep_graph.proofs.KeptLemmas.{kept_drop}
use Rattle.dep_graph.proofs.CountLemmas.{dropped_marked, dropped_nodes, not_dirty}
use Rattle.dep_graph.proofs.graph.Graph.drop_node.Goals as goal

pub leave-requires-clause-ready : goal.leave-requires-clause-ready
leave-requires-clause-ready c = none_leads c.self.inside.dirty c.self.inside.hung.items c.self.inside.hung_only c.self.inside.live.pairs c.self.inside.barred.items c.args.page c.self.invariant.0 (ap (λ (g : GraphLists). waits_in g c.args.page) c.self.view_is ∙ c.requires)

pub lower_each-requires-clause-some : goal.lower_each-requires-clause-some
lower_each-requires-clause-some c =
    let out = c.out_of.ensures ∙ ap (λ (l : List Pair). from_page l c.args.page) c.pairs.ensures.pairs in
    λ b.
    let parts = ends_parts c.self.inside.live.pairs c.args.page b in
    let all = c.self.invariant.0.counts b in
    let same = c.leave.ensures.counts b in
    let e = ap (λ (l : List Pair). ends_at l b) out in
    omega arith

pub lower_each-requires-clause-room : goal.lower_each-requires-clause-room
lower_each-requires-clause-room c =
    let le = fewer c.leave.new.self.pages c.self.inside.dirty.pages c.leave.ensures.rising c.self.invariant.0.dirty_rising (λ a h. (and_parts _ _ (sym (c.leave.ensures.pages a) ∙ h)).0) in
    omega (arith, c.leave.ensures.room, c.self.invariant.1.dirty)

at_most_one : (b : Bool) → from_bool b ≤ 1
at_most_one b = elim (cases_Bool b) [
  | inl e ↦ rw e (omega arith)
  | inr e ↦ rw e (omega arith)
]

pub overflow_add-self : goal.overflow_add-self
overflow_add-self c = let le = at_most_one c.contains-2.result in omega (arith, c.from.ensures, c.self.invariant.1.few_nodes)

pub invariant_of-self : goal.invariant_of-self
invariant_of-self c =
    let out = c.out_of.ensures ∙ ap (λ (l : List Pair). from_page l c.args.page) c.pairs.ensures.pairs in
    let ready = none_leads c.self.inside.dirty c.self.inside.hung.items c.self.inside.hung_only c.self.inside.live.pairs c.self.inside.barred.items c.args.page c.self.invariant.0 (ap (λ (g : GraphLists). waits_in g c.args.page) c.self.view_is ∙ c.requires) in
    let pages = λ (a : ℕ). ap (λ (l : List ℕ). holds l a) c.lower_each.ensures.pages ∙ c.leave.ensures.pages a in
    let fits = c.self.invariant.1 in
    let parts = length_parts c.self.inside.live.pairs c.args.page in
    let left = ap length c.remove_out_of.ensures.pairs in
    let there = sym c.contains.ensures ∙ c.if-not-contains.false in
    let count : c.from.result ≡ from_bool (holds c.self.inside.hung.items c.args.page) = c.from.ensures ∙ ap from_bool (c.contains-2.ensures ∙ ap (λ (l : List ℕ). holds l c.args.page) c.deref.ensures.value) in
    let len = shorter_by_one c.self.inside.dirty.pages c.leave.new.self.pages c.args.page c.self.invariant.0.dirty_rising c.leave.ensures.rising c.leave.ensures.pages there in
    let same = ap length c.lower_each.ensures.pages in
    let le = at_most_one (holds c.self.inside.hung.items c.args.page) in (
      subst (λ (l : List Pair). IsKept c.lower_each.new.dirty c.self.inside.hung.items (c.self.inside.hung_only + c.from.result) l c.self.inside.barred.items) (sym c.remove_out_of.ensures.pairs)
          (kept_drop c.self.inside.dirty c.self.inside.hung.items c.self.inside.hung_only c.self.inside.live.pairs c.self.inside.barred.items c.self.invariant.0 c.args.page ready c.lower_each.new.dirty pages (c.self.inside.hung_only + c.from.result)
          there (rw c.lower_each.ensures.pages c.leave.ensures.rising) (subst AreRising c.remove_out_of.ensures.pairs c.remove_out_of.ensures.rising) (ap (λ n. c.self.inside.hung_only + n) count)
          (λ b. let e = ap (λ (l : List Pair). ends_at l b) out in let same = c.leave.ensures.counts b in let is = c.lower_each.ensures.counts b in omega arith)),
      record {
        dirty = omega (arith, c.lower_each.ensures.room, c.leave.ensures.room, fits.dirty);
        hung = omega (arith, fits.hung);
        live = omega (arith, c.remove_out_of.ensures.room, fits.live);
        barred = omega (arith, fits.barred);
        search_fits = omega (arith, fits.search_fits);
        left_fits = omega (arith, fits.left_fits);
        level_fits = omega (arith, fits.level_fits);
        few_nodes = omega (arith, fits.few_nodes);
        few_places = fits.few_places;
        few_edges = omega (arith, fits.few_edges);
      },
      c.self.invariant.2,
    )

pub returns : goal.returns
returns c =
    let was = subst IsGraph c.self.view_is (graph_of c.self.inside.dirty c.self.inside.hung.items c.self.inside.hung_only c.self.inside.live.pairs c.self.inside.barred.items _ _ c.self.invariant.0) in
    let is = graph_of c.lower_each.new.dirty c.self.inside.hung.items (c.self.inside.hung_only + c.from.result) c.remove_out_of.new.self.pairs c.self.inside.barred.items c.self.inside.spare_nodes c.self.inside.spare_edges (invariant_of-self c).0 in
    let dirty = λ (a : ℕ). ap (λ (l : List ℕ). holds l a) c.lower_each.ensures.pages ∙ c.leave.ensures.pages a ∙ ap (λ (g : GraphLists). dirty_in g a && not (eqb a c.args.page)) c.self.view_is in
    let hung = ap (λ (g : GraphLists). g.hung) c.self.view_is in
    record {
      dirty = dirty;
      hung = hung;
      live = λ a b.
          live_is c.remove_out_of.new.self.pairs c.self.inside.barred.items a b ∙ ap (λ (l : List Pair). has_pair l a b) c.remove_out_of.ensures.pairs ∙ has_not_from c.self.inside.live.pairs c.args.page a b
          ∙ ap (λ x. x && not (eqb a c.args.page)) (sym (live_is c.self.inside.live.pairs c.self.inside.barred.items a b) ∙ ap (λ (g : GraphLists). live_in g a b) c.self.view_is);
      barred = λ a b. barred_is c.remove_out_of.new.self.pairs c.self.inside.barred.items a b ∙ sym (barred_is c.self.inside.live.pairs c.self.inside.barred.items a b) ∙ ap (λ (g : GraphLists). barred_in g a b) c.self.view_is;
      waiters = λ a.
          waiters_are c.remove_out_of.new.self.pairs c.self.inside.barred.items a ∙ ap (λ (l : List Pair). length (from_page l a)) c.remove_out_of.ensures.pairs ∙ from_others c.self.inside.live.pairs c.args.page a
          ∙ ap (λ n. if eqb a c.args.page then 0 else n) (sym (waiters_are c.self.inside.live.pairs c.self.inside.barred.items a) ∙ ap (λ (g : GraphLists). waiter_count g a) c.self.view_is);
      spare_nodes = ap (λ (g : GraphLists). g.spare_nodes) c.self.view_is;
      spare_edges = ap (λ (g : GraphLists). g.spare_edges) c.self.view_is;
      graph = is;
      nodes = dropped_nodes c.args.page c.args.self.now _ was is dirty hung;
      marked = dropped_marked c.args.page c.args.self.now _ was is dirty hung;
    }

pub returns-then-not-contains : goal.returns-then-not-contains
returns-then-not-contains c =
    let off = sym (ap (λ (g : GraphLists). dirty_in g c.args.page) c.self.view_is) ∙ sym c.contains.ensures ∙ c.if-not-contains.true in
    let graph = subst IsGraph c.self.view_is (graph_of c.self.inside.dirty c.self.inside.hung.items c.self.inside.hung_only c.self.inside.live.pairs c.self.inside.barred.items _ _ c.self.invariant.0) in
    not_dirty c.args.page c.args.self.now graph off
