-- The device's steps as functions are steps.
use Rattle.std.proofs.Common.{◌≡◌, inl, inr, ℕ, Bool, cond, refl, ap, ◌∙◌, subst, List, [], ◌∷◌, eqb, eq-eqb, ne_eqb}
use Rattle.std.proofs.lemmas.Bool.{cases_eq}
use Rattle.order_model.specs.World.{Layout, World}
use Rattle.order_model.specs.Contents.{IsAmong}
use Rattle.engine_model.specs.Entries.{Apart}
use Rattle.engine_model.specs.DeviceSteps.{Barrier, IsReady, KeepsMarks, MovesMarks, Taken, barrier_made, page_taken, page_written}
use Rattle.engine_model.specs.Invariant.{EngineInvariant, Moment}
use Rattle.engine_model.specs.SmallRuns.{with_barrier, with_refused, with_taken, with_written}
use Rattle.engine_model.specs.Schedule.{BarrierDone, WriteDone, WriteRefused, WriteTaken}
use Rattle.engine_model.proofs.Lasts.{has_parts}
use Rattle.engine_model.proofs.Schedule.{step_keeps}

pub barrier_made_is : (w : World) → Barrier w (barrier_made w)
unfolding IsAmong
barrier_made_is w = record {
  newest = λ page. refl;
  possible = λ page c q. elim q [ inl e ↦ e | inr h ↦ elim h [ inl e ↦ e | inr none ↦ absurd none ] ];
  cached = λ page. refl;
  dirty = λ page. refl;
  hung = λ page. refl;
  live = λ a b. refl;
  barred = λ a b. refl;
  queue = refl;
}

pub page_taken_is : (w : World) (page : ℕ) → IsReady w page → Taken w (page_taken page w) page
unfolding IsAmong
page_taken_is w page ready = record {
  was_dirty = ready.dirty;
  no_live = ready.no_live;
  no_barred = ready.no_barred;
  newest_here = ap (λ b. cond b (w.cached page) (w.newest page)) (eq-eqb page page refl);
  newest_other = λ other ne. ap (λ b. cond b (w.cached page) (w.newest other)) (ne_eqb other page ne);
  possible = λ other c q. elim (cases_eq other page) [
    | inl e ↦ elim q [
      | inl n ↦ inr (e, n ∙ ap (λ b. cond b (w.cached page) (w.newest other)) (eq-eqb other page e))
      | inr h ↦ elim (has_parts c (w.older other) (cond (eqb other page) (w.cached page ∷ []) []) h) [
        | inl was ↦ inl (inr was)
        | inr new ↦ inr (e, one c (subst (λ b. IsAmong c (cond b (w.cached page ∷ []) [])) (eq-eqb other page e) new))
      ]
    ]
    | inr ne ↦ elim q [
      | inl n ↦ inl (inl (n ∙ ap (λ b. cond b (w.cached page) (w.newest other)) (ne_eqb other page ne)))
      | inr h ↦ elim (has_parts c (w.older other) (cond (eqb other page) (w.cached page ∷ []) []) h) [
        | inl was ↦ inl (inr was)
        | inr new ↦ absurd (subst (λ b. IsAmong c (cond b (w.cached page ∷ []) [])) (ne_eqb other page ne) new)
      ]
    ]
  ];
  cached = λ other. refl;
}
  where
    one : (c : List ℕ) → IsAmong c (w.cached page ∷ []) → c ≡ w.cached page
    one c (inl e) = e
    one c (inr none) = absurd none

pub page_written_is : (lay : Layout) (w : World) (page : ℕ) → IsReady w page → Taken w (page_written lay page w) page
page_written_is lay w page ready = let t = page_taken_is w page ready in record {
  was_dirty = t.was_dirty;
  no_live = t.no_live;
  no_barred = t.no_barred;
  newest_here = t.newest_here;
  newest_other = t.newest_other;
  possible = t.possible;
  cached = t.cached;
}

pub page_taken_keeps : (w : World) (page : ℕ) → KeepsMarks w (page_taken page w)
page_taken_keeps w page = record { dirty = λ a. refl; hung = λ a. refl; live = λ a b. refl; barred = λ a b. refl; queue = refl }

pub page_written_moves : (lay : Layout) (w : World) (page : ℕ) → MovesMarks lay w (page_written lay page w) page
page_written_moves lay w page = record { dirty = λ a. refl; hung = λ a. refl; live = λ a b. refl; barred = λ a b. refl; queue = refl }

module _ (lay : Layout) (top : ℕ) (sound : Bool) (apart : Apart lay) (m : Moment) (k : EngineInvariant lay top sound m) where
  pub barrier_made_keeps : EngineInvariant lay top sound (with_barrier m)
  barrier_made_keeps = step_keeps lay top sound apart m (with_barrier m) k (BarrierDone (barrier_made_is m.world) (λ l. refl) refl (λ p. refl))

  pub page_taken_kept : (page : ℕ) → IsReady m.world page → EngineInvariant lay top sound (with_taken lay page m)
  page_taken_kept page ready = step_keeps lay top sound apart m (with_taken lay page m) k
      (WriteTaken page (page_taken_is m.world page ready) (page_taken_keeps m.world page) (λ l. refl) refl (λ p. refl))

  pub page_refused_kept : (page : ℕ) → EngineInvariant lay top sound (with_refused lay page m)
  page_refused_kept page = step_keeps lay top sound apart m (with_refused lay page m) k
      (WriteRefused page (record { newest = λ a. refl; older = λ a. refl; cached = λ a. refl; dirty = λ a. refl; hung = λ a. refl; live = λ a b. refl; barred = λ a b. refl; queue = refl })
      (λ l. refl) refl (λ p. refl))

  pub page_written_kept : (page : ℕ) → IsReady m.world page → EngineInvariant lay top sound (with_written lay page m)
  page_written_kept page ready = step_keeps lay top sound apart m (with_written lay page m) k
      (WriteDone page (page_written_is lay m.world page ready) (page_written_moves lay m.world page) (λ l. refl) refl (λ p. refl))
