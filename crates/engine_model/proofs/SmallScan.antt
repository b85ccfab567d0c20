-- A scan by small steps is a scan: what a drained state is, the device's steps and the corrections leave.
use Rattle.std.proofs.Common.{◌≡◌, inl, inr, ◌+◌, ℕ, Bool, false, ◌||◌, ◌&&◌, refl, sym, ap, ◌∙◌, List, [], ◌∷◌, true≢false, map, eqb, ne_eqb}
use Rattle.std.proofs.lemmas.Bool.{and_parts, false_from_ne_true}
use Rattle.order_model.specs.World.{IsData, Layout, World}
use Rattle.engine_model.specs.DeviceSteps.{Same, fixed_release, written_release}
use Rattle.engine_model.specs.Entries.{Apart}
use Rattle.engine_model.specs.Frames.{Frame, both}
use Rattle.engine_model.specs.Invariant.{EngineInvariant, Moment}
use Rattle.engine_model.specs.Scan.{Scan}
use Rattle.engine_model.specs.Schedule.{BarrierDone, NoNode, OfDevice, Step, Unchanged, WriteDone, WriteRefused, WriteTaken}
use Rattle.engine_model.specs.SmallScan.{Fixes, IsDrained, SmallScan, count_fix_reach, print_fix_reach}
use Rattle.engine_model.proofs.Correction.{fixed_corrects, fixed_frame, fixed_keeps}
use Rattle.engine_model.proofs.Schedule.{step_keeps}

pub drained_start : (lay : Layout) (top : ℕ) (sound : Bool) (m : Moment) → EngineInvariant lay top sound m → NoNode m → m.world.queue ≡ [] → IsDrained lay m.world
drained_start lay top sound m k none empty = record {
  queue = empty;
  maps = λ l lt. none (lay.map_page l);
  prints = λ a q d. (
    false_from_ne_true _ (λ h. true≢false (sym (k.counts.marks_and_edges.live_before _ _ h) ∙ (none a).0)),
    false_from_ne_true _ (λ h. true≢false (sym (k.counts.marks_and_edges.barred_before _ _ h) ∙ (none a).1)),
  );
}

drained_same : (lay : Layout) (w v : World) → Same w v → IsDrained lay w → IsDrained lay v
drained_same lay w v s x = record {
  queue = s.queue ∙ x.queue;
  maps = λ l lt. let was = x.maps l lt in (s.dirty _ ∙ was.0, s.hung _ ∙ was.1);
  prints = λ a q d. let was = x.prints a q d in (s.live _ _ ∙ was.0, s.barred _ _ ∙ was.1);
}

module _ (lay : Layout) (top : ℕ) (m n : Moment) (x : IsDrained lay m.world) where
  drained_device : (s : Step lay top m n) → OfDevice s → IsDrained lay n.world
  drained_device (BarrierDone b e c q) h = record {
    queue = b.queue ∙ ap (λ rs. map fixed_release rs) x.queue;
    maps = λ l lt. (b.dirty _ ∙ (x.maps l lt).0, b.hung _);
    prints = λ a p d. (b.live _ _ ∙ (x.prints a p d).0, b.barred _ _);
  }
  drained_device (WriteDone page t s e c q) h = record {
    queue = s.queue ∙ ap (λ rs. map (written_release lay page) rs) x.queue;
    maps = λ l lt. (
      false_from_ne_true _ (λ y. true≢false (sym (and_parts _ _ (sym (s.dirty _) ∙ y)).0 ∙ (x.maps l lt).0)),
      s.hung _ ∙ ap (λ b. b || eqb (lay.map_page l) page) (x.maps l lt).1 ∙ ne_eqb _ page (λ y. true≢false (sym t.was_dirty ∙ ap m.world.dirty (sym y) ∙ (x.maps l lt).0)),
    );
    prints = λ a p d. (
      false_from_ne_true _ (λ y. true≢false (sym (and_parts _ _ (sym (s.live _ _) ∙ y)).0 ∙ (x.prints a p d).0)),
      gone a p d,
    );
  }
    where
      gone : (a p : ℕ) → IsData lay p → n.world.barred a (lay.print_page p) ≡ false
      gone a p d = s.barred _ _ ∙ ap (λ b. b || (m.world.live a (lay.print_page p) && eqb a page)) (x.prints a p d).1 ∙ ap (λ b. b && eqb a page) (x.prints a p d).0
  drained_device (WriteTaken page t s e c q) h = record {
    queue = s.queue ∙ x.queue;
    maps = λ l lt. let was = x.maps l lt in (s.dirty _ ∙ was.0, s.hung _ ∙ was.1);
    prints = λ a p d. let was = x.prints a p d in (s.live _ _ ∙ was.0, s.barred _ _ ∙ was.1);
  }
  drained_device (WriteRefused page w e c q) h = drained_same lay m.world n.world w x
  drained_device (Unchanged s e c q) h = drained_same lay m.world n.world s x
  drained_device s h = absurd h

module _ (lay : Layout) (top : ℕ) (sound : Bool) (apart : Apart lay) where
  pub fixes_keep : (m n : Moment) (p : ℕ) → EngineInvariant lay top sound m → IsDrained lay m.world → Fixes lay m n p → EngineInvariant lay top sound n
  fixes_keep m n p k ready x = fixed_keeps lay top sound apart m k ready p x.is_data n x.printed x.print x.count

  pub fixes_frame : (m n : Moment) (p : ℕ) → EngineInvariant lay top sound m → IsDrained lay m.world → Fixes lay m n p → Frame lay (both (print_fix_reach lay p) (count_fix_reach lay p)) m n
  fixes_frame m n p k ready x = fixed_frame lay top sound apart m k ready p x.is_data n x.printed x.print x.count

  -- a correction touches no map page, and its edge leads into a count page
  pub fixes_drained : (m n : Moment) (p : ℕ) → EngineInvariant lay top sound m → IsDrained lay m.world → Fixes lay m n p → IsDrained lay n.world
  fixes_drained m n p k ready x =
      let f = fixes_frame m n p k ready x in
      record {
        queue = f.queue refl ∙ ready.queue;
        maps = λ l lt. (
          f.marks.dirty_new _ (apart.map_count l p lt x.is_data, (apart.map_print l p lt x.is_data, (apart.map_count l p lt x.is_data, tt))) ∙ (ready.maps l lt).0,
          f.marks.hung _ ∙ (ready.maps l lt).1,
        );
        prints = λ a q d. (
          false_from_ne_true _ (λ h. elim (f.marks.live_new _ _ h) [
            | inl was ↦ true≢false (sym was ∙ (ready.prints a q d).0)
            | inr new ↦ elim new.0 [ inl e ↦ apart.count_print p q x.is_data d (sym e.1) | inr none ↦ none ]
          ]),
          false_from_ne_true _ (λ h. elim (f.marks.barred_new _ _ h) [ inl was ↦ true≢false (sym was ∙ (ready.prints a q d).1) | inr new ↦ new.0 ]),
        );
      }

  pub scan_composed : (p : ℕ) (m : Moment) (ns : List Moment) → EngineInvariant lay top sound m → IsDrained lay m.world → SmallScan lay top p m ns → Scan lay top p m ns
  scan_composed p m [] k ready s = s
  scan_composed p m (n ∷ ns) k ready (inl s) = inl (s.0, scan_composed p n ns (step_keeps lay top sound apart m n k s.0.step) (drained_device lay top m n ready s.0.step s.0.of_device) s.1)
  scan_composed p m (n ∷ ns) k ready (inr s) = inr (
    fixed_corrects lay top sound apart m k ready p s.0.is_data n s.0.printed s.0.print s.0.count,
    scan_composed (p + 1) n ns (fixes_keep m n p k ready s.0) (fixes_drained m n p k ready s.0) s.1,
  )
