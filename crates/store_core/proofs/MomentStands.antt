-- A core that stands for an array is a moment, and a moment that keeps the invariant stands.
use Rattle.std.proofs.Common.{◌≡◌, ℕ, Bool, true, refl, sym, ◌∙◌, subst, List}
use Rattle.page_device.specs.Block.{Block}
use Rattle.page_device.specs.Meaning.{Meaning}
use Rattle.page_layout.specs.Shape.{ShapeView}
use Rattle.order_model.specs.declared.Slot.{Slot}
use Rattle.order_model.specs.declared.Slot.TheVariants.{Name, Print}
use Rattle.order_model.specs.World.{World}
use Rattle.birth_marks.specs.Births.{recorded_in, value_in}
use Rattle.engine_model.specs.Births.{IsSlot, cached_value}
use Rattle.engine_model.specs.Invariant.{EngineInvariant, Moment}
use Rattle.store_core.specs.declared.Core.{Core}
use Rattle.store_core.specs.Layout.{lay_of, top}
use Rattle.store_core.specs.Views.{world_of}
use Rattle.store_core.specs.Stands.{HasShapeOf, StandsFor, moment_of}
use Rattle.store_core.specs.Frames.{KeepsStands}
use Rattle.store_core.specs.Moments.{IsMomentOf, Moves}
use Rattle.store_core.proofs.Clean.{over}

-- what births recorded last of a slot is what is cached
module _ (sound : Bool) (d : Meaning) (core : Core) (array : ℕ → List Block) (s : StandsFor sound d core array) where
  slot_value : (slot : Slot) → IsSlot (lay_of core.shape) slot → recorded_in core.ledger.births slot ≡ true → value_in core.ledger.births slot ≡ cached_value (lay_of core.shape) (world_of d core) slot
  slot_value (Name l) kind rec = s.births.value (Name l) rec ∙ (s.kept.births (Name l) kind).left (sym (s.births.recorded (Name l)) ∙ rec)
  slot_value (Print p) kind rec = s.births.value (Print p) rec ∙ (s.kept.births (Print p) kind).left (sym (s.births.recorded (Print p)) ∙ rec)

  pub stands_moment : (m : Moment) × IsMomentOf d core m × (m.array ≡ array) × EngineInvariant (lay_of core.shape) top sound m
  stands_moment = (
    moment_of d core array s.calls s.told,
    record {
      world = refl;
      births = s.births;
      values = slot_value;
      pool = s.pool;
      formed = s.kept.contents.well_formed.cached;
      staged = record {
        live_before = s.kept.counts.marks_and_edges.live_before;
        edge_kinds = s.kept.counts.edge_kinds;
        zero_dirty = λ l p q. s.kept.counts.lost_name_owes_release.dirty l p (s.kept.counts.lost_name_owes_release.in_range l p 0 q).0 q;
        one_hung = λ l p q. s.kept.counts.lost_name_owes_release.hung l p (s.kept.counts.lost_name_owes_release.in_range l p 1 q).0 q;
        in_range = s.kept.counts.lost_name_owes_release.in_range;
      };
      clean = (over sound d core array s).clean;
    },
    refl,
    s.kept,
  )

pub moment_stands : (sound : Bool) (d : Meaning) (old new : Core) (array : ℕ → List Block) (m : Moment) → StandsFor sound d old array → new.shape ≡ old.shape → IsMomentOf d new m → EngineInvariant (lay_of old.shape) top sound m → StandsFor sound d new m.array
moment_stands sound d old new array m s shape is kept = record {
  known = s.known;
  of_shape = subst (λ (x : ShapeView). HasShapeOf d x) (sym shape) s.of_shape;
  calls = m.calls;
  told = m.pool;
  kept = subst (λ (x : ShapeView). EngineInvariant (lay_of x) top sound (moment_of d new m.array m.calls m.pool)) (sym shape)
      (subst (λ (w : World). EngineInvariant (lay_of old.shape) top sound (record { world = w; array = m.array; calls = m.calls; pool = m.pool })) (sym is.world) kept);
  births = is.births;
  pool = is.pool;
}

pub keeps_stands : (old new : Core) → new.shape ≡ old.shape → Moves (λ m n. (sound : Bool) → EngineInvariant (lay_of old.shape) top sound m → EngineInvariant (lay_of old.shape) top sound n) old new → KeepsStands old new
keeps_stands old new shape moves = λ sound d array s.
    let x = stands_moment sound d old array s in
    let y = moves d x.0 x.1 in
    subst (λ (a : ℕ → List Block). StandsFor sound d new a) (y.2 ∙ x.2) (moment_stands sound d old new array y.0 s shape y.1 (y.3 sound x.3))
