-- A data page with count 0 is given up: the state after it is that of a dropped page.
use Rattle.std.proofs.Common.{◌≡◌, ℕ, Bool, refl, eq-eqb, ne_eqb}
use Rattle.std.proofs.Math.Bool.{and-false, and-true}
use Rattle.order_model.specs.World.{Layout, World, IsData}
use Rattle.engine_model.specs.Entries.{Apart, cached_count}
use Rattle.engine_model.specs.Drops.{Dropped}
use Rattle.engine_model.specs.Invariant.{EngineInvariant, Moment}
use Rattle.engine_model.specs.Schedule.{DropData}
use Rattle.engine_model.specs.SmallSteps.{given_up}
use Rattle.engine_model.proofs.Schedule.{step_keeps}

pub given_up_is : (lay : Layout) (w : World) (p : ℕ) → IsData lay p → cached_count lay w p ≡ 0 → Dropped lay w (given_up (lay.data_page p) w) p
given_up_is lay w p is none = record {
  is_data = is;
  no_count = none;
  newest = λ a. refl;
  possible = λ a c q. q;
  hung = λ a. refl;
  queue = refl;
  barred = λ a b. refl;
  live = λ a b ne. rw (ne_eqb a (lay.data_page p) ne) (and-true (w.live a b));
  live_gone = λ b. rw (eq-eqb (lay.data_page p) (lay.data_page p) refl) (and-false (w.live (lay.data_page p) b));
  dirty = λ a ne. rw (ne_eqb a (lay.data_page p) ne) (and-true (w.dirty a));
  dirty_gone = rw (eq-eqb (lay.data_page p) (lay.data_page p) refl) (and-false (w.dirty (lay.data_page p)));
  cached = λ a ne. rw (ne_eqb a (lay.data_page p) ne);
  cached_gone = rw (eq-eqb (lay.data_page p) (lay.data_page p) refl);
}

pub given_up_keeps : (lay : Layout) (top : ℕ) (sound : Bool) → Apart lay → (m : Moment) → EngineInvariant lay top sound m → (p : ℕ) → IsData lay p → cached_count lay m.world p ≡ 0
    → EngineInvariant lay top sound (record m { world = given_up (lay.data_page p) m.world })
given_up_keeps lay top sound apart m k p is none = step_keeps lay top sound apart m (record m { world = given_up (lay.data_page p) m.world }) k
    (DropData p (given_up_is lay m.world p is none) (λ l. refl) refl (λ q. refl))
