-- The edges that a release needs, and when it is blocked.
use Rattle.std.specs.Prelude.{◌≡◌, ◌⊎◌, ◌++◌, ◌&&◌, ◌||◌, ℕ, List, [], ◌∷◌, Bool, true, cond, eqb}
use Rattle.order_model.specs.declared.Kind.TheVariants.{Live as LiveKind, Barrier as BarrierKind}
use Rattle.order_model.specs.Edges.{Edge}
use Rattle.order_model.specs.Paths.{Closes}
use Rattle.release_queue.specs.declared.Release.{Release}
use Rattle.release_queue.specs.declared.Need.{Need}
use Rattle.release_queue.specs.declared.Need.TheVariants.{Nothing, Live, Barrier}
use Rattle.release_queue.specs.declared.Wanted.{Wanted}
use Rattle.release_queue.specs.declared.TheConstants.{NOT_WRITTEN, WRITTEN}

-- By the stage: the write of the map page has to come and then a barrier, or a barrier alone. Later nothing has to.
abbrev pub map_need : ℕ → Need
map_need stage = cond (eqb stage NOT_WRITTEN) Live (cond (eqb stage WRITTEN) Barrier Nothing)

abbrev pub print_need : Bool → Need
print_need last_print = cond last_print Live Nothing

abbrev pub wanted : Release → Bool → Wanted
wanted r last_print = record { from_map = map_need r.stage; from_print = print_need last_print }

-- an edge of the kind that is needed, if one is
abbrev pub edge_between : ℕ → ℕ → Need → List Edge
edge_between before after Nothing = []
edge_between before after Live = record { before = before; after = after; kind = LiveKind } ∷ []
edge_between before after Barrier = record { before = before; after = after; kind = BarrierKind } ∷ []

-- the edges of an answer
abbrev pub edges_wanted : Release → Wanted → List Edge
edges_wanted r w = edge_between r.map_at r.count_at w.from_map ++ edge_between r.print_at r.count_at w.from_print

-- The edges that a release needs: from its map page by its stage, and from its print page where the last print goes.
abbrev pub needed_edges : Release → Bool → List Edge
needed_edges r last_print = edges_wanted r (wanted r last_print)

-- a needed Live edge would close a cycle
abbrev pub IsBlocked : (ℕ → ℕ → Bool) → Release → Bool → Type 0
IsBlocked live r last_print = ((r.stage ≡ NOT_WRITTEN) × Closes live r.map_at r.count_at) ⊎ ((last_print ≡ true) × Closes live r.print_at r.count_at)

-- the Live edges with one more
abbrev pub with_live : (ℕ → ℕ → Bool) → Edge → ℕ → ℕ → Bool
with_live live e a b = live a b || (eqb a e.before && eqb b e.after)

-- as the edges are added one after another, a Live one among them closes a cycle
abbrev pub ClosesInTurn : (ℕ → ℕ → Bool) → List Edge → Type 0
ClosesInTurn live [] = ⊥
ClosesInTurn live (e ∷ es) = elim e.kind [
  | LiveKind ↦ Closes live e.before e.after ⊎ ClosesInTurn (with_live live e) es
  | BarrierKind ↦ ClosesInTurn live es
]
