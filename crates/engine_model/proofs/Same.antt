-- Two states that agree at each page are one, and a state agrees with itself.
use Rattle.std.proofs.Common.{◌≡◌, refl}
use mathlib.Core.Path.{fun_ext}
use Rattle.order_model.specs.World.{World}
use Rattle.engine_model.specs.DeviceSteps.{Same}

pub same_is : (w v : World) → Same w v → v ≡ w
same_is w v s = λ i. record {
  newest = fun_ext s.newest i;
  older = fun_ext s.older i;
  cached = fun_ext s.cached i;
  dirty = fun_ext s.dirty i;
  hung = fun_ext s.hung i;
  live = fun_ext (λ a. fun_ext (s.live a)) i;
  barred = fun_ext (λ a. fun_ext (s.barred a)) i;
  queue = s.queue i;
}

pub same_self : (w : World) → Same w w
same_self w = record {
  newest = λ a. refl;
  older = λ a. refl;
  cached = λ a. refl;
  dirty = λ a. refl;
  hung = λ a. refl;
  live = λ a b. refl;
  barred = λ a b. refl;
  queue = refl;
}
