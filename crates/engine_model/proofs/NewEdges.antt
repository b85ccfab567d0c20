-- Of which kinds the new edges of an edit are, and that they close no cycle.
use Rattle.std.proofs.Common.{◌≡◌, ◌⊎◌, inl, inr, ◌<◌, ℕ, refl, sym, subst}
use Rattle.order_model.specs.World.{Layout, World, Release, IsData}
use Rattle.engine_model.specs.Entries.{EdgeKind, HasEdge, IsTable, Apart}
use Rattle.engine_model.specs.Counts.{EdgeKinds}
use Rattle.order_model.specs.Paths.{IsAcyclic, Closes}
use Rattle.engine_model.specs.Known.{Known}
use Rattle.engine_model.specs.Edits.{NewEdges}
use Rattle.engine_model.specs.Releases.{NeededEdge, NeededBarrier, IsBlocked}
use Rattle.engine_model.specs.Commands.{Mandatory}
use Rattle.engine_model.proofs.Graphs.{acyclic_more, way_ends}

pub to_table : (lay : Layout) (a b : ℕ) → EdgeKind lay a b → IsTable lay b
to_table lay a b (inl k) = elim k.1 [ inl m ↦ inl m | inr f ↦ inr (f.0, f.1, inr f.2) ]
to_table lay a b (inr k) = inr (k.1.0, k.1.1, inl k.1.2)

-- no edge leads to a data page
pub none_to_data : (lay : Layout) (w : World) (p : ℕ) → Apart lay → EdgeKinds lay w → IsData lay p → (a : ℕ) → HasEdge w a (lay.data_page p) → ⊥
none_to_data lay w p apart m d a h = apart.table_data (lay.data_page p) p (to_table lay a _ (m a _ h)) d refl

-- so none from a data page to a table page closes
pub data_open : (lay : Layout) (w : World) (p b : ℕ) → Apart lay → EdgeKinds lay w → IsData lay p → IsTable lay b → Closes w.live (lay.data_page p) b → ⊥
data_open lay w p b apart m d t (inl same) = apart.table_data b p t d (sym same)
data_open lay w p b apart m d t (inr way) = let q = way_ends way in none_to_data lay w p apart m d q.0 (inl q.1)

module _ (lay : Layout) (w v : World) (New Hung : ℕ → ℕ → Type 0) (n : NewEdges w v New Hung) where
  pub kinds_kept : ((a b : ℕ) → New a b → EdgeKind lay a b) → ((a b : ℕ) → Hung a b → EdgeKind lay a b) → (a b : ℕ) → HasEdge v a b → HasEdge w a b ⊎ EdgeKind lay a b
  kinds_kept new hung a b (inl l) = elim (n.live a b l) [ inl was ↦ inl (inl was) | inr is ↦ inr (new a b is) ]
  kinds_kept new hung a b (inr r) = elim (n.barred a b r) [ inl was ↦ inl (inr was) | inr is ↦ inr (hung a b is) ]

  pub acyclic_kept : IsAcyclic w.live → ((a b x y : ℕ) → New a b → New x y → Closes w.live a y → ⊥) → IsAcyclic v.live
  acyclic_kept = acyclic_more w.live v.live New n.live

-- the edges of an applied release
module _ (lay : Layout) (known : Known) (w : World) (r : Release) where
  pub needed_kind : r.block < lay.blocks → IsData lay r.page → (a b : ℕ) → NeededEdge lay known w r a b → EdgeKind lay a b
  needed_kind lt d a b n = inr (elim n.0 [ inl m ↦ inl (r.block, lt, m.1) | inr f ↦ inr (r.page, d, f.1) ], (r.page, d, n.1))

  pub hung_kind : r.block < lay.blocks → IsData lay r.page → (a b : ℕ) → NeededBarrier lay r a b → EdgeKind lay a b
  hung_kind lt d a b n = inr (inl (r.block, lt, n.1), (r.page, d, n.2))

  closes_at : (a b c d : ℕ) → a ≡ b → c ≡ d → Closes w.live a c → Closes w.live b d
  closes_at a b c d e f h = subst (λ z. Closes w.live z d) e (subst (λ z. Closes w.live a z) f h)

  pub needed_open : (IsBlocked lay known w r → ⊥) → (a b x y : ℕ) → NeededEdge lay known w r a b → NeededEdge lay known w r x y → Closes w.live a y → ⊥
  needed_open free a b x y n k h = free (elim n.0 [
    | inl m ↦ inl (m.0, closes_at _ _ _ _ m.1 k.1 h)
    | inr f ↦ inr (f.0, closes_at _ _ _ _ f.1 k.1 h)
  ])

-- the edges of a write
module _ (lay : Layout) (w : World) (l p : ℕ) (lt : l < lay.blocks) (d : IsData lay p) where
  pub mandatory_kind : (a b : ℕ) → Mandatory lay w l p a b → EdgeKind lay a b
  mandatory_kind a b m = inl (
    elim m.0 [ inl e ↦ inl (p, d, e) | inr e ↦ inr (p, d, e) ],
    elim m.1 [ inl e ↦ inl (l, lt, e) | inr e ↦ inr (p, d, e.0) ],
  )

  -- no way leads to a data page, and the two ways to the count page are free
  pub mandatory_open : Apart lay → EdgeKinds lay w → (Closes w.live (lay.count_page p) (lay.map_page l) → ⊥)
      → (a b x y : ℕ) → Mandatory lay w l p a b → Mandatory lay w l p x y → Closes w.live a y → ⊥
  mandatory_open apart marks free a b x y m k h = elim m.0 [
    | inr c ↦ elim k.1 [
      | inl e ↦ free (subst (λ z. Closes w.live z (lay.map_page l)) c (subst (λ z. Closes w.live a z) e h))
      | inr e ↦ e.1 (subst (λ z. Closes w.live z (lay.print_page p)) c (subst (λ z. Closes w.live a z) e.0 h))
    ]
    | inl c ↦ data_open lay w p y apart marks d
        (elim k.1 [ inl e ↦ subst (λ z. IsTable lay z) (sym e) (inl (l, lt, refl)) | inr e ↦ subst (λ z. IsTable lay z) (sym e.0) (inr (p, d, inr refl)) ])
        (subst (λ z. Closes w.live z y) c h)
  ]
