use Rattle.engine_model.proofs.any_device.pass_on_any_device.Goals as goal
use Rattle.engine_model.proofs.Ordering.{clean_pass, data_open, in_range, pass_order}
use Rattle.engine_model.proofs.PassEffects as effects
use Rattle.engine_model.proofs.StaysBlocked.{small_pass_leaves}
use Rattle.engine_model.specs.SmallPass.{KeepsOrder}
use Rattle.std.proofs.Common.{refl, subst, sym}

pub returns : goal.returns
returns c = record {
  kept = λ lay apart m n k p. pass_order lay apart m n _ _ k refl p;
  blocked = λ lay apart m n range p. small_pass_leaves lay apart m n _ _ range refl (λ r is. absurd is) p;
  in_order = λ lay apart m n fits p. let later = effects.pass_order_kept lay apart m n _ _ refl fits p in subst (λ rs. KeepsOrder m.world.queue rs) (sym later.1) later.2;
  emptied = λ lay apart m n k clean p. clean_pass lay apart m n k clean p;
  ranged = λ lay w k. in_range lay w k;
  none_to_data = λ lay apart w a p k d. data_open lay w k apart a p d;
}
