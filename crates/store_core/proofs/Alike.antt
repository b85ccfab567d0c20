-- A release is blocked by both definitions or by none.
use Rattle.std.proofs.Common.{◌≡◌, ◌↔◌, inl, inr, ℕ, Bool, true, sym, subst}
use Rattle.order_model.specs.Paths.{Closes}
use Rattle.order_model.specs.World.{World}
use Rattle.page_layout.specs.Shape.{ShapeView}
use Rattle.release_queue.specs.Needed.{IsBlocked as IsBlockedInQueue}
use Rattle.release_queue.specs.declared.Release.{Release}
use Rattle.engine_model.specs.Known.{Known}
use Rattle.engine_model.specs.Releases.{IsBlocked, IsLastPrint}
use Rattle.store_core.specs.Layout.{lay_of}
use Rattle.store_core.specs.Views.{plain_release}
use Rattle.store_core.specs.Whole.{IsPlaced}

closes_at : (live : ℕ → ℕ → Bool) (a b x y : ℕ) → a ≡ x → b ≡ y → Closes live a b → Closes live x y
closes_at live a b x y f g h = subst (λ (n : ℕ). Closes live n y) f (subst (λ (n : ℕ). Closes live a n) g h)

module _ (shape : ShapeView) (known : Known) (w : World) (r : Release) (last : Bool) (s : IsPlaced shape r) (l : (last ≡ true) ↔ IsLastPrint (lay_of shape) known w r.page) where
  pub to_engine : IsBlockedInQueue w.live r last → IsBlocked (lay_of shape) known w (plain_release r)
  to_engine (inl z) = inl (z.0, closes_at w.live r.map_at r.count_at _ _ s.map_at s.count_at z.1)
  to_engine (inr f) = inr (l.0 f.0, closes_at w.live r.print_at r.count_at _ _ s.print_at s.count_at f.1)

  pub to_queue : IsBlocked (lay_of shape) known w (plain_release r) → IsBlockedInQueue w.live r last
  to_queue (inl z) = inl (z.0, closes_at w.live _ _ r.map_at r.count_at (sym s.map_at) (sym s.count_at) z.1)
  to_queue (inr f) = inr (l.1 f.0, closes_at w.live _ _ r.print_at r.count_at (sym s.print_at) (sym s.count_at) f.1)
