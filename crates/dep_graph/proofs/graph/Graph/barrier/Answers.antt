use Rattle.std.proofs.Common.{ap, sym, ◌∙◌, List, length, arith}
use Rattle.dep_graph.specs.declared.pairs.Pair.{Pair}
use Rattle.dep_graph.specs.Pairs.{ends_at, has_pair}
use Rattle.dep_graph.specs.Lists.{GraphLists, live_in, waiter_count}
use Rattle.dep_graph.proofs.GraphLemmas.{graph_of, live_is, barred_is, waiters_are}
use Rattle.dep_graph.proofs.KeptLemmas.{kept_fixed}
use Rattle.dep_graph.proofs.graph.Graph.barrier.Goals as goal

pub lower_each-requires-clause-some : goal.lower_each-requires-clause-some
lower_each-requires-clause-some c = λ b. let all = c.self.invariant.0.counts b in let e = ap (λ (l : List Pair). ends_at l b) c.deref.ensures.value in omega arith

pub lower_each-requires-clause-room : goal.lower_each-requires-clause-room
lower_each-requires-clause-room c = omega (arith, c.self.invariant.1.dirty)

pub invariant_of-self : goal.invariant_of-self
invariant_of-self c =
    let len = ap length c.lower_each.ensures.pages in
    let fits = c.self.invariant.1 in
    let none = ap length c.clear.ensures.items in
    let kept = kept_fixed c.self.inside.dirty c.self.inside.hung.items c.self.inside.hung_only c.self.inside.live.pairs c.self.inside.barred.items c.self.invariant.0 c.lower_each.new.dirty c.lower_each.ensures.pages (λ b. let e = ap (λ (l : List Pair). ends_at l b) c.deref.ensures.value in let is = c.lower_each.ensures.counts b in omega arith) in (
      rw (c.clear.ensures.items, c.clear-2.ensures.items) kept,
      record {
        dirty = omega (arith, c.lower_each.ensures.room, fits.dirty);
        hung = omega (arith, c.clear-2.ensures.capacity, fits.hung);
        live = omega (arith, fits.live);
        barred = omega (arith, c.clear.ensures.capacity, fits.barred);
        search_fits = omega (arith, fits.search_fits);
        left_fits = omega (arith, fits.left_fits);
        level_fits = omega (arith, fits.level_fits);
        few_nodes = omega (arith, fits.few_nodes);
        few_places = fits.few_places;
        few_edges = omega (arith, fits.few_edges);
      },
      c.self.invariant.2,
    )

pub returns : goal.returns
returns c =
    let dirty = c.lower_each.ensures.pages ∙ ap (λ (g : GraphLists). g.dirty) c.self.view_is in
    record {
      dirty = dirty;
      hung = c.clear-2.ensures.items;
      live = λ a b. live_is c.self.inside.live.pairs c.clear.new.self.items a b ∙ sym (live_is c.self.inside.live.pairs c.self.inside.barred.items a b) ∙ ap (λ (g : GraphLists). live_in g a b) c.self.view_is;
      barred = λ a b. barred_is c.self.inside.live.pairs c.clear.new.self.items a b ∙ ap (λ (l : List Pair). has_pair l a b) c.clear.ensures.items;
      waiters = λ a. waiters_are c.self.inside.live.pairs c.clear.new.self.items a ∙ sym (waiters_are c.self.inside.live.pairs c.self.inside.barred.items a) ∙ ap (λ (g : GraphLists). waiter_count g a) c.self.view_is;
      spare_nodes = ap (λ (g : GraphLists). g.spare_nodes) c.self.view_is;
      spare_edges = ap (λ (g : GraphLists). g.spare_edges) c.self.view_is;
      graph = graph_of c.lower_each.new.dirty c.clear-2.new.self.items 0 c.self.inside.live.pairs c.clear.new.self.items _ _ (invariant_of-self c).0;
      nodes = let len = ap length dirty in rw c.clear-2.ensures.items (omega (arith, len));
    }
