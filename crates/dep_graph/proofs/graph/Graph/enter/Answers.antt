use Rattle.std.proofs.Common.{◌||◌, eqb, refl, true, ap, subst, sym, ◌∙◌, ℕ, ◌-◌, List, arith}
use Rattle.std.proofs.lemmas.Bool.{or_from}
use Rattle.dep_graph.specs.Pages.{holds}
use Rattle.dep_graph.specs.Lists.{GraphLists, IsGraph, dirty_in, hung_in, is_node}
use Rattle.dep_graph.proofs.GraphLemmas.{graph_of, dirty_room, some_alone}
use Rattle.dep_graph.proofs.PageLemmas.{longer_by_one}
use Rattle.dep_graph.proofs.KeptLemmas.{enter_hung, enter_other, kept_enter}
use Rattle.dep_graph.proofs.CountLemmas.{at_page, entered_lists, entered_marked, entered_nodes, in_already}
use Rattle.dep_graph.proofs.graph.Graph.enter.Goals as goal

pub returns-then-contains-clause-graph : goal.returns-then-contains-clause-graph
returns-then-contains-clause-graph c = subst IsGraph c.self.view_is (graph_of c.self.inside.dirty c.self.inside.hung.items c.self.inside.hung_only c.self.inside.live.pairs c.self.inside.barred.items _ _ c.self.invariant.0)

pub enter-requires-clause-room : goal.enter-requires-clause-room
enter-requires-clause-room c =
    let off = sym c.contains.ensures ∙ c.if-contains.false in
    let spare = ap (λ (g : GraphLists). g.spare_nodes) c.self.view_is in
    let room = dirty_room c.self.inside.dirty c.self.inside.hung.items c.self.inside.hung_only c.self.inside.live.pairs c.self.inside.barred.items c.args.page c.self.inside.spare_nodes c.self.invariant.0 off
    (λ none. let some = c.requires (sym (ap (λ (g : GraphLists). is_node g c.args.page) c.self.view_is) ∙ none) in omega arith) in
    omega (arith, c.self.invariant.1.dirty)

pub overflow_sub-self : goal.overflow_sub-self
overflow_sub-self c = some_alone c.self.inside.dirty c.self.inside.hung.items c.self.inside.hung_only c.self.inside.live.pairs c.self.inside.barred.items c.args.page c.self.invariant.0 (sym c.contains.ensures ∙ c.if-contains.false)
    (ap (λ (l : List ℕ). holds l c.args.page) (sym c.deref.ensures.value) ∙ sym c.contains-2.ensures ∙ c.if-contains-2.true)

pub invariant_of-self : goal.invariant_of-self
invariant_of-self c =
    let off = sym c.contains.ensures ∙ c.if-contains.false in
    let on = ap (λ (l : List ℕ). holds l c.args.page) (sym c.deref.ensures.value) ∙ sym c.contains-2.ensures ∙ c.if-contains-2.true in
    let alone = enter_hung c.self.inside.dirty c.self.inside.hung.items c.self.inside.hung_only c.self.inside.live.pairs c.self.inside.barred.items c.self.invariant.0 c.args.page c.enter.new.self c.enter.ensures.pages off on in
    let len = longer_by_one c.self.inside.dirty.pages c.enter.new.self.pages c.args.page c.self.invariant.0.dirty_rising c.enter.ensures.rising c.enter.ensures.pages off in
    let some = some_alone c.self.inside.dirty c.self.inside.hung.items c.self.inside.hung_only c.self.inside.live.pairs c.self.inside.barred.items c.args.page c.self.invariant.0 off on in
    let fits = c.self.invariant.1 in (
      kept_enter c.self.inside.dirty c.self.inside.hung.items c.self.inside.hung_only c.self.inside.live.pairs c.self.inside.barred.items c.self.invariant.0 c.args.page c.enter.new.self (c.self.inside.hung_only - 1) c.enter.ensures.pages c.enter.ensures.counts c.enter.ensures.rising alone,
      record {
        dirty = omega (arith, c.enter.ensures.room, fits.dirty);
        hung = omega (arith, fits.hung);
        live = fits.live;
        barred = fits.barred;
        search_fits = omega (arith, fits.search_fits);
        left_fits = omega (arith, fits.left_fits);
        level_fits = omega (arith, fits.level_fits);
        few_nodes = omega (arith, fits.few_nodes);
        few_places = fits.few_places;
        few_edges = fits.few_edges;
      },
      c.self.invariant.2,
    )

pub invariant_of-self-else-contains-2 : goal.invariant_of-self-else-contains-2
invariant_of-self-else-contains-2 c =
    let off = sym c.contains.ensures ∙ c.if-contains.false in
    let none = ap (λ (l : List ℕ). holds l c.args.page) (sym c.deref.ensures.value) ∙ sym c.contains-2.ensures ∙ c.if-contains-2.false in
    let alone = enter_other c.self.inside.dirty c.self.inside.hung.items c.self.inside.hung_only c.self.inside.live.pairs c.self.inside.barred.items c.self.invariant.0 c.args.page c.enter.new.self c.enter.ensures.pages none in
    let len = longer_by_one c.self.inside.dirty.pages c.enter.new.self.pages c.args.page c.self.invariant.0.dirty_rising c.enter.ensures.rising c.enter.ensures.pages off in
    let spare = ap (λ (g : GraphLists). g.spare_nodes) c.self.view_is in
    let some = c.requires (sym (ap (λ (g : GraphLists). is_node g c.args.page) c.self.view_is) ∙ or_from _ _ off none) in
    let fits = c.self.invariant.1 in (
      kept_enter c.self.inside.dirty c.self.inside.hung.items c.self.inside.hung_only c.self.inside.live.pairs c.self.inside.barred.items c.self.invariant.0 c.args.page c.enter.new.self c.self.inside.hung_only c.enter.ensures.pages c.enter.ensures.counts c.enter.ensures.rising alone,
      record {
        dirty = omega (arith, c.enter.ensures.room, fits.dirty);
        hung = omega (arith, fits.hung);
        live = fits.live;
        barred = fits.barred;
        search_fits = omega (arith, fits.search_fits);
        left_fits = omega (arith, fits.left_fits);
        level_fits = omega (arith, fits.level_fits);
        few_nodes = omega (arith, fits.few_nodes);
        few_places = fits.few_places;
        few_edges = fits.few_edges;
      },
      c.self.invariant.2,
    )

pub returns-then-contains-2-clause-graph : goal.returns-then-contains-2-clause-graph
returns-then-contains-2-clause-graph c = graph_of c.enter.new.self c.self.inside.hung.items (c.self.inside.hung_only - 1) c.self.inside.live.pairs c.self.inside.barred.items _ _ (invariant_of-self c).0

pub returns-else-contains-2-clause-graph : goal.returns-else-contains-2-clause-graph
returns-else-contains-2-clause-graph c = graph_of c.enter.new.self c.self.inside.hung.items c.self.inside.hung_only c.self.inside.live.pairs c.self.inside.barred.items _ _ (invariant_of-self-else-contains-2 c).0

-- at the exit where the page was dirty
pub returns-then-contains-clause-lists : goal.returns-then-contains-clause-lists
returns-then-contains-clause-lists c =
    let was = subst IsGraph c.self.view_is (graph_of c.self.inside.dirty c.self.inside.hung.items c.self.inside.hung_only c.self.inside.live.pairs c.self.inside.barred.items _ _ c.self.invariant.0) in
    let on = sym (ap (λ (g : GraphLists). dirty_in g c.args.page) c.self.view_is) ∙ sym c.contains.ensures ∙ c.if-contains.true in
    entered_lists c.args.page c.args.self.now c.args.self.now was was (λ a. sym (in_already _ _ (at_page c.args.self.now.dirty c.args.page true on a))) refl refl (rw on refl) refl

pub returns-then-contains-clause-nodes : goal.returns-then-contains-clause-nodes
returns-then-contains-clause-nodes c =
    let on = sym (ap (λ (g : GraphLists). dirty_in g c.args.page) c.self.view_is) ∙ sym c.contains.ensures ∙ c.if-contains.true in
    rw on refl

pub returns-then-contains-clause-marked : goal.returns-then-contains-clause-marked
returns-then-contains-clause-marked c =
    let on = sym (ap (λ (g : GraphLists). dirty_in g c.args.page) c.self.view_is) ∙ sym c.contains.ensures ∙ c.if-contains.true in
    rw on refl

pub returns-then-contains-2-clause-lists : goal.returns-then-contains-2-clause-lists
returns-then-contains-2-clause-lists c =
    let was = subst IsGraph c.self.view_is (graph_of c.self.inside.dirty c.self.inside.hung.items c.self.inside.hung_only c.self.inside.live.pairs c.self.inside.barred.items _ _ c.self.invariant.0) in
    let is = (returns-then-contains-2-clause-graph c) in
    let dirty = λ (a : ℕ). c.enter.ensures.pages a ∙ ap (λ (g : GraphLists). dirty_in g a || eqb a c.args.page) c.self.view_is in
    let hung = ap (λ (g : GraphLists). g.hung) c.self.view_is in
    let there = sym (ap (λ (g : GraphLists). hung_in g c.args.page) c.self.view_is) ∙ ap (λ (l : List ℕ). holds l c.args.page) (sym c.deref.ensures.value) ∙ sym c.contains-2.ensures ∙ c.if-contains-2.true in
    let off = sym (ap (λ (g : GraphLists). dirty_in g c.args.page) c.self.view_is) ∙ sym c.contains.ensures ∙ c.if-contains.false in
    entered_lists c.args.page c.args.self.now _ was is dirty hung (ap (λ (g : GraphLists). g.edges) c.self.view_is) (rw (off, there) (ap (λ (g : GraphLists). g.spare_nodes) c.self.view_is)) (ap (λ (g : GraphLists). g.spare_edges) c.self.view_is)

pub returns-then-contains-2-clause-nodes : goal.returns-then-contains-2-clause-nodes
returns-then-contains-2-clause-nodes c =
    let was = subst IsGraph c.self.view_is (graph_of c.self.inside.dirty c.self.inside.hung.items c.self.inside.hung_only c.self.inside.live.pairs c.self.inside.barred.items _ _ c.self.invariant.0) in
    let is = (returns-then-contains-2-clause-graph c) in
    let dirty = λ (a : ℕ). c.enter.ensures.pages a ∙ ap (λ (g : GraphLists). dirty_in g a || eqb a c.args.page) c.self.view_is in
    let hung = ap (λ (g : GraphLists). g.hung) c.self.view_is in
    entered_nodes c.args.page c.args.self.now _ was is dirty hung

pub returns-then-contains-2-clause-marked : goal.returns-then-contains-2-clause-marked
returns-then-contains-2-clause-marked c =
    let was = subst IsGraph c.self.view_is (graph_of c.self.inside.dirty c.self.inside.hung.items c.self.inside.hung_only c.self.inside.live.pairs c.self.inside.barred.items _ _ c.self.invariant.0) in
    let is = (returns-then-contains-2-clause-graph c) in
    let dirty = λ (a : ℕ). c.enter.ensures.pages a ∙ ap (λ (g : GraphLists). dirty_in g a || eqb a c.args.page) c.self.view_is in
    let hung = ap (λ (g : GraphLists). g.hung) c.self.view_is in
    entered_marked c.args.page c.args.self.now _ was is dirty hung

pub returns-else-contains-2-clause-lists : goal.returns-else-contains-2-clause-lists
returns-else-contains-2-clause-lists c =
    let was = subst IsGraph c.self.view_is (graph_of c.self.inside.dirty c.self.inside.hung.items c.self.inside.hung_only c.self.inside.live.pairs c.self.inside.barred.items _ _ c.self.invariant.0) in
    let is = (returns-else-contains-2-clause-graph c) in
    let dirty = λ (a : ℕ). c.enter.ensures.pages a ∙ ap (λ (g : GraphLists). dirty_in g a || eqb a c.args.page) c.self.view_is in
    let hung = ap (λ (g : GraphLists). g.hung) c.self.view_is in
    let there = sym (ap (λ (g : GraphLists). hung_in g c.args.page) c.self.view_is) ∙ ap (λ (l : List ℕ). holds l c.args.page) (sym c.deref.ensures.value) ∙ sym c.contains-2.ensures ∙ c.if-contains-2.false in
    let off = sym (ap (λ (g : GraphLists). dirty_in g c.args.page) c.self.view_is) ∙ sym c.contains.ensures ∙ c.if-contains.false in
    entered_lists c.args.page c.args.self.now _ was is dirty hung (ap (λ (g : GraphLists). g.edges) c.self.view_is) (rw (off, there) (ap (λ (g : GraphLists). g.spare_nodes - 1) c.self.view_is)) (ap (λ (g : GraphLists). g.spare_edges) c.self.view_is)

pub returns-else-contains-2-clause-nodes : goal.returns-else-contains-2-clause-nodes
returns-else-contains-2-clause-nodes c =
    let was = subst IsGraph c.self.view_is (graph_of c.self.inside.dirty c.self.inside.hung.items c.self.inside.hung_only c.self.inside.live.pairs c.self.inside.barred.items _ _ c.self.invariant.0) in
    let is = (returns-else-contains-2-clause-graph c) in
    let dirty = λ (a : ℕ). c.enter.ensures.pages a ∙ ap (λ (g : GraphLists). dirty_in g a || eqb a c.args.page) c.self.view_is in
    let hung = ap (λ (g : GraphLists). g.hung) c.self.view_is in
    entered_nodes c.args.page c.args.self.now _ was is dirty hung

pub returns-else-contains-2-clause-marked : goal.returns-else-contains-2-clause-marked
returns-else-contains-2-clause-marked c =
    let was = subst IsGraph c.self.view_is (graph_of c.self.inside.dirty c.self.inside.hung.items c.self.inside.hung_only c.self.inside.live.pairs c.self.inside.barred.items _ _ c.self.invariant.0) in
    let is = (returns-else-contains-2-clause-graph c) in
    let dirty = λ (a : ℕ). c.enter.ensures.pages a ∙ ap (λ (g : GraphLists). dirty_in g a || eqb a c.args.page) c.self.view_is in
    let hung = ap (λ (g : GraphLists). g.hung) c.self.view_is in
    entered_marked c.args.page c.args.self.now _ was is dirty hung
