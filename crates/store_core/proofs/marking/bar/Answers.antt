use Rattle.std.proofs.Common.{◌∙◌, ◌&&◌, ◌||◌, ◌-◌, cond, eqb, refl, sym, ap, Bool}
use Rattle.std.proofs.Math.Bool.{or-false}
use Rattle.dep_graph.specs.Lists.{barred_in, live_in}
use Rattle.store_core.proofs.marking.bar.Goals as goal

pub returns-then-hung : goal.returns-then-hung
returns-then-hung c = let g = c.args.graph.now in record {
  dirty = c.add.ensures.dirty;
  hung = c.add.ensures.hung;
  live = λ a b. c.add.ensures.live a b ∙ or-false (live_in g a b);
  barred = λ a b. c.add.ensures.barred a b ∙ ap (λ (x : Bool). barred_in g a b || (x && (eqb a c.args.before && eqb b c.args.after))) (sym c.if-hung.true ∙ c.is_hung-hung.ensures);
  spare_nodes = c.add.ensures.spare_nodes;
  spare_edges = c.add.ensures.spare_edges ∙ ap (λ (x : Bool). cond x (cond (barred_in g c.args.before c.args.after) g.spare_edges (g.spare_edges - 1)) g.spare_edges) (sym c.if-hung.true ∙ c.is_hung-hung.ensures);
  graph = c.add.ensures.graph;
}

pub returns-else-hung : goal.returns-else-hung
returns-else-hung c = let g = c.args.graph.now in record {
  dirty = refl;
  hung = refl;
  live = λ a b. refl;
  barred = λ a b. sym (or-false (barred_in g a b)) ∙ ap (λ (x : Bool). barred_in g a b || (x && (eqb a c.args.before && eqb b c.args.after))) (sym c.if-hung.false ∙ c.is_hung-hung.ensures);
  spare_nodes = refl;
  spare_edges = ap (λ (x : Bool). cond x (cond (barred_in g c.args.before c.args.after) g.spare_edges (g.spare_edges - 1)) g.spare_edges) (sym c.if-hung.false ∙ c.is_hung-hung.ensures);
  graph = c.requires.graph;
}
