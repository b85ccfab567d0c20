-- The queued releases after a write and after a barrier.
use Rattle.std.proofs.Common.{◌≡◌, ℕ, refl, ap, List, [], ◌∷◌, map}
use Rattle.std.specs.List.{All}
use Rattle.std.proofs.lemmas.List.Elements.{All-cons, All-head, All-nil, All-tail, All-map}
use Rattle.page_layout.specs.Shape.{ShapeView}
use Rattle.release_queue.specs.declared.Release.{Release}
use Rattle.release_queue.specs.Queued.{after_barrier, after_change, after_count_write, after_write}
use Rattle.engine_model.specs.DeviceSteps.{fixed_release, written_release}
use Rattle.store_core.specs.Layout.{lay_of}
use Rattle.store_core.specs.Quiet.{unmoved}
use Rattle.store_core.specs.Views.{plain_release}
use Rattle.store_core.specs.Whole.{IsPlaced}

-- each moves on as its plain release does
pub moved_by_write : (shape : ShapeView) (page : ℕ) (rs : List Release) → All (IsPlaced shape) rs
    → map plain_release (map (after_count_write page) (map (after_write page) rs)) ≡ map (written_release (lay_of shape) page) (map plain_release rs)
moved_by_write shape page [] all = refl
moved_by_write shape page (r ∷ rs) all = rw (moved_by_write shape page rs (All-tail (IsPlaced shape) r rs all), (All-head (IsPlaced shape) r rs all).map_at)

pub moved_by_barrier : (rs : List Release) → map plain_release (map after_barrier rs) ≡ map fixed_release (map plain_release rs)
moved_by_barrier [] = refl
moved_by_barrier (r ∷ rs) = rw (moved_by_barrier rs)

-- a mark changes none
pub moved_by_change : (p : ℕ) (rs : List Release) → map plain_release (map (after_change p) rs) ≡ map plain_release rs
moved_by_change p [] = refl
moved_by_change p (r ∷ rs) = rw (moved_by_change p rs) refl

-- and changes in its stage and its mark alone
pub stages_written : (page : ℕ) (rs : List Release) → map unmoved (map (after_count_write page) (map (after_write page) rs)) ≡ map unmoved rs
stages_written page [] = refl
stages_written page (r ∷ rs) = ap (λ (xs : List Release). unmoved r ∷ xs) (stages_written page rs)

pub stages_fixed : (rs : List Release) → map unmoved (map after_barrier rs) ≡ map unmoved rs
stages_fixed [] = refl
stages_fixed (r ∷ rs) = ap (λ (xs : List Release). unmoved r ∷ xs) (stages_fixed rs)

module _ (shape : ShapeView) where
  placed_same : (f : Release → Release) → ((r : Release) → IsPlaced shape r → IsPlaced shape (f r)) → (rs : List Release) → All (IsPlaced shape) rs → All (λ r. IsPlaced shape (f r)) rs
  placed_same f keeps [] all = All-nil (λ r. IsPlaced shape (f r))
  placed_same f keeps (r ∷ rs) all = All-cons (λ r. IsPlaced shape (f r)) r rs (keeps r (All-head (IsPlaced shape) r rs all)) (placed_same f keeps rs (All-tail (IsPlaced shape) r rs all))

  placed_map : (f : Release → Release) → ((r : Release) → IsPlaced shape r → IsPlaced shape (f r)) → (rs : List Release) → All (IsPlaced shape) rs → All (IsPlaced shape) (map f rs)
  placed_map f keeps rs all = All-map (IsPlaced shape) f rs (placed_same f keeps rs all)

  pub placed_written : (page : ℕ) (rs : List Release) → All (IsPlaced shape) rs → All (IsPlaced shape) (map (after_count_write page) (map (after_write page) rs))
  placed_written page rs all = placed_map (after_count_write page) (λ r h. record { block = h.block; first = h.first; last = h.last; map_at = h.map_at; count_at = h.count_at; print_at = h.print_at }) (map (after_write page) rs)
      (placed_map (after_write page) (λ r h. record { block = h.block; first = h.first; last = h.last; map_at = h.map_at; count_at = h.count_at; print_at = h.print_at }) rs all)

  pub placed_fixed : (rs : List Release) → All (IsPlaced shape) rs → All (IsPlaced shape) (map after_barrier rs)
  placed_fixed rs all = placed_map after_barrier (λ r h. record { block = h.block; first = h.first; last = h.last; map_at = h.map_at; count_at = h.count_at; print_at = h.print_at }) rs all

  pub placed_changed : (p : ℕ) (rs : List Release) → All (IsPlaced shape) rs → All (IsPlaced shape) (map (after_change p) rs)
  placed_changed p rs all = placed_map (after_change p) (λ r h. record { block = h.block; first = h.first; last = h.last; map_at = h.map_at; count_at = h.count_at; print_at = h.print_at }) rs all
