-- What every core keeps has one proof at most, so a field can hold it.
use Rattle.std.specs.Prelude.{ℕ, List, [], ◌∷◌}
use Rattle.std.specs.Coded.{×_prop, Unit-prop}
use Rattle.std.proofs.Props.{props}
use Rattle.page_layout.specs.Shape.{ShapeView}
use Rattle.order_model.specs.Edges.{Edge}
use Rattle.dep_graph.specs.Lists.{AreOnce}
use Rattle.dep_graph.specs.Pages.{IsRising}
use Rattle.dep_graph.specs.Rising.{Leads, Rises}
use Rattle.flush_engine.specs.View.{EngineView}
use Rattle.store_core.specs.declared.ledger.Ledger.{Ledger}
use Rattle.store_core.specs.Whole.{IsWhole}

Leads-prop : {X : Type 0} (R : X → X → Type 0) → ((x y : X) → IsProp (R x y)) → (x : X) (ys : List X) → IsProp (Leads R x ys)
unfolding Leads
Leads-prop R each x [] = Unit-prop
Leads-prop R each x (y ∷ ys) = ×_prop (each x y) (Leads-prop R each x ys)

Rises-prop : {X : Type 0} (R : X → X → Type 0) → ((x y : X) → IsProp (R x y)) → (xs : List X) → IsProp (Rises R xs)
unfolding Rises
Rises-prop R each [] = Unit-prop
Rises-prop R each (x ∷ xs) = ×_prop (Leads-prop R each x xs) (Rises-prop R each xs)

IsRising-prop : (pages : List ℕ) → IsProp (IsRising pages)
IsRising-prop pages = Rises-prop _ (λ a b. Prim.hlevel props) pages

AreOnce-prop : (edges : List Edge) → IsProp (AreOnce edges)
AreOnce-prop edges = Rises-prop _ (λ a b. Prim.hlevel props) edges

pub IsWhole-prop : (shape : ShapeView) (engine : EngineView) (ledger : Ledger) → IsProp (IsWhole shape engine ledger)
IsWhole-prop shape engine ledger = Prim.hlevel (IsRising-prop, AreOnce-prop, props)
