use Rattle.engine_model.proofs.small_passes.pass_effects.Goals as goal
use Rattle.engine_model.proofs.PassEffects as effects
use Rattle.engine_model.proofs.AppliedComposes.{pass_composed}
use Rattle.engine_model.proofs.Passes.{member_queued}
use Rattle.engine_model.specs.Invariant.{EngineInvariant, Moment}
use Rattle.order_model.specs.World.{Layout}
use Rattle.engine_model.specs.SmallPass.{InRange}
use Rattle.std.proofs.Common.{ℕ, Bool, refl}

in_range : (lay : Layout) (top : ℕ) (sound : Bool) (m : Moment) → EngineInvariant lay top sound m → InRange lay m.world.queue
in_range lay top sound m k r is = k.counts.lost_name_owes_release.in_range r.block r.page r.stage (member_queued r m.world.queue is)

pub returns : goal.returns
returns c = record {
  whole = λ lay top sound apart m n k p. effects.pass_effects lay apart m n _ _ refl (in_range lay top sound m k) p;
  small = λ lay top sound apart m n k p. effects.pass_effects lay apart m n _ _ refl (in_range lay top sound m k) (pass_composed lay top sound apart m n _ _ k refl p);
}
