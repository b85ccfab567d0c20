use Rattle.std.proofs.Common.{◌≡◌, ℕ, take, length, cond, eqb, vec_capacity}
use Rattle.std.specs.List.{list_any}
use Rattle.dep_graph.specs.Waits.{count_at}
use Rattle.dep_graph.proofs.levels.lift_barred.Given as goal

abbrev pub invariant-loop-pair : goal.invariant-loop-pair
invariant-loop-pair l = record {
  each : length l.level.items ≡ length l.pages;
  levels : (p : ℕ) → count_at l.pages l.level.items p ≡ cond (list_any (λ e. eqb e.after p) (take l.pair-index l.barred)) 2 (count_at l.pages l.fn.level.items p);
  room : vec_capacity l.level ≡ vec_capacity l.fn.level;
}
