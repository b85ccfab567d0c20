-- What the calls of a graph do to its list of edges.
use Rattle.std.specs.Prelude.{List, [], cond, eqb, map, ℕ, ◌&&◌, ◌∷◌}
use Rattle.order_model.specs.declared.Kind.TheVariants.{Barrier}
use Rattle.order_model.specs.Edges.{Edge, has_barred, has_live, is_live}

-- the edges that lead from a written page wait for the barrier alone
abbrev pub wrote_edge : ℕ → Edge → Edge
wrote_edge page e = record e { kind = cond (eqb e.before page) Barrier e.kind }

abbrev pub after_wrote : ℕ → List Edge → List Edge
after_wrote page es = map (wrote_edge page) es

-- a barrier leaves the Live edges
abbrev pub after_barrier : List Edge → List Edge
after_barrier [] = []
after_barrier (e ∷ es) = cond (is_live e.kind) (e ∷ after_barrier es) (after_barrier es)

-- an edge is added, or nothing where it is there
abbrev pub after_add : Edge → List Edge → List Edge
after_add e es = cond (cond (is_live e.kind) (has_live es e.before e.after) (has_barred es e.before e.after)) es (e ∷ es)

-- a dropped node loses the Live edges that lead from it
abbrev pub after_drop : ℕ → List Edge → List Edge
after_drop page [] = []
after_drop page (e ∷ es) = cond (eqb e.before page && is_live e.kind) (after_drop page es) (e ∷ after_drop page es)
