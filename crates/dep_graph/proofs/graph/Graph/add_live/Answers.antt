use Rattle.std.proofs.Common.{◌≡◌, ap, subst, sym, ◌∙◌, true, ◌||◌, ◌&&◌, ◌-◌, ℕ, List, length, eqb, arith}
use Rattle.std.proofs.lemmas.Bool.{cond-true, cond-false}
use Rattle.dep_graph.specs.declared.pairs.Pair.{Pair}
use Rattle.dep_graph.specs.Pairs.{has_pair}
use Rattle.dep_graph.specs.Lists.{GraphLists, IsGraph, dirty_in, live_in, barred_in}
use Rattle.dep_graph.proofs.GraphLemmas.{graph_of, live_is, barred_is, ends_le}
use Rattle.dep_graph.proofs.PathLemmas.{closes_more}
use Rattle.dep_graph.proofs.MoveLemmas.{is_there}
use Rattle.dep_graph.proofs.KeptLemmas.{kept_live}
use Rattle.dep_graph.proofs.graph.Graph.add_live.Goals as goal

-- the look-up in the lists is the look-up in the vector
was : (c : goal.Then-contains) (a b : ℕ) → live_in c.args.self.now a b ≡ has_pair c.self.inside.live.pairs a b
was c a b = sym (ap (λ (g : GraphLists). live_in g a b) c.self.view_is) ∙ live_is c.self.inside.live.pairs c.self.inside.barred.items a b

stood : (c : goal.Then-contains) → live_in c.args.self.now c.args.pair.before c.args.pair.after ≡ true
stood c = was c c.args.pair.before c.args.pair.after ∙ ap (λ (l : List Pair). has_pair l c.args.pair.before c.args.pair.after) (sym c.pairs.ensures.pairs) ∙ sym c.contains.ensures ∙ c.if-contains.true

pub returns-then-contains-clause-live : goal.returns-then-contains-clause-live
returns-then-contains-clause-live c = λ a b. is_there (live_in c.args.self.now) c.args.pair.before c.args.pair.after a b (stood c)

pub returns-then-contains-clause-spare_edges : goal.returns-then-contains-clause-spare_edges
returns-then-contains-clause-spare_edges c = sym (cond-true _ _ _ (stood c))

pub returns-then-contains-clause-graph : goal.returns-then-contains-clause-graph
returns-then-contains-clause-graph c = subst IsGraph c.self.view_is (graph_of c.self.inside.dirty c.self.inside.hung.items c.self.inside.hung_only c.self.inside.live.pairs c.self.inside.barred.items _ _ c.self.invariant.0)

pub raise-requires-clause-few : goal.raise-requires-clause-few
raise-requires-clause-few c =
    let is = c.self.invariant.0.counts c.args.pair.after in
    let live = ends_le c.self.inside.live.pairs c.args.pair.after in
    let barred = ends_le c.self.inside.barred.items c.args.pair.after in
    let spare = ap (λ (g : GraphLists). g.spare_edges) c.self.view_is in
    omega (arith, c.self.invariant.1.few_edges, c.requires.spare)

pub invariant_of-self : goal.invariant_of-self
invariant_of-self c =
    let spare = ap (λ (g : GraphLists). g.spare_edges) c.self.view_is in
    let some = c.requires.spare in
    let len = c.insert.ensures.len in
    let same = ap length c.raise.ensures.pages in
    let fits = c.self.invariant.1 in (
      kept_live c.self.inside.dirty c.self.inside.hung.items c.self.inside.hung_only c.self.inside.live.pairs c.self.inside.barred.items c.self.invariant.0 c.args.pair c.raise.new.self c.raise.ensures.pages (ap (λ (g : GraphLists). dirty_in g c.args.pair.after) c.self.view_is ∙ c.requires.after) c.raise.ensures.counts
          c.insert.new.self.pairs c.insert.ensures.rising c.insert.ensures.pairs c.insert.ensures.ends (ap (λ (g : GraphLists). dirty_in g c.args.pair.before) c.self.view_is ∙ c.requires.before)
          (λ closes. c.requires.opens (closes_more (has_pair c.self.inside.live.pairs) (live_in c.args.self.now) c.args.pair.before c.args.pair.after
          (λ a b h. sym (ap (λ (g : GraphLists). live_in g a b) c.self.view_is) ∙ live_is c.self.inside.live.pairs c.self.inside.barred.items a b ∙ h) closes)),
      record {
        dirty = omega (arith, c.raise.ensures.room, fits.dirty);
        hung = omega (arith, fits.hung);
        live = omega (arith, c.insert.ensures.room, fits.live);
        barred = omega (arith, fits.barred);
        search_fits = omega (arith, fits.search_fits);
        left_fits = omega (arith, fits.left_fits);
        level_fits = omega (arith, fits.level_fits);
        few_nodes = omega (arith, fits.few_nodes);
        few_places = fits.few_places;
        few_edges = omega (arith, fits.few_edges);
      },
      c.self.invariant.2,
    )

old : (c : goal.After-self-1) (a b : ℕ) → live_in c.args.self.now a b ≡ has_pair c.self.inside.live.pairs a b
old c a b = sym (ap (λ (g : GraphLists). live_in g a b) c.self.view_is) ∙ live_is c.self.inside.live.pairs c.self.inside.barred.items a b

pub returns-clause-live : goal.returns-clause-live
returns-clause-live c = λ a b. live_is c.insert.new.self.pairs c.self.inside.barred.items a b ∙ c.insert.ensures.pairs a b ∙ ap (λ x. x || (eqb a c.args.pair.before && eqb b c.args.pair.after)) (sym (old c a b))

pub returns-clause-barred : goal.returns-clause-barred
returns-clause-barred c = λ a b. barred_is c.insert.new.self.pairs c.self.inside.barred.items a b ∙ sym (barred_is c.self.inside.live.pairs c.self.inside.barred.items a b) ∙ ap (λ (g : GraphLists). barred_in g a b) c.self.view_is

pub returns-clause-spare_edges : goal.returns-clause-spare_edges
returns-clause-spare_edges c =
    let off = old c c.args.pair.before c.args.pair.after ∙ ap (λ (l : List Pair). has_pair l c.args.pair.before c.args.pair.after) (sym c.pairs.ensures.pairs) ∙ sym c.contains.ensures ∙ c.if-contains.false in
    ap (λ (g : GraphLists). g.spare_edges - 1) c.self.view_is ∙ sym (cond-false _ _ _ off)

pub returns-clause-graph : goal.returns-clause-graph
returns-clause-graph c = graph_of c.raise.new.self c.self.inside.hung.items c.self.inside.hung_only c.insert.new.self.pairs c.self.inside.barred.items _ _ (invariant_of-self c).0
