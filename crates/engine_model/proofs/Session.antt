-- The session in small is a run of steps.
use Rattle.std.proofs.Common.{◌≡◌, ◌≢◌, ◌⊎◌, inl, inr, ◌<◌, ℕ, true, false, ◌||◌, ◌&&◌, arith, refl, sym, ap, subst, ◌≤◌, List, [], ◌∷◌, true≢false, eqb, ne_eqb}
use Rattle.std.proofs.Math.Bool.{or-false}
use Rattle.order_model.specs.Contents.{IsAmong}
use Rattle.order_model.specs.Counting.{count_below}
use Rattle.order_model.specs.World.{IsData}
use Rattle.engine_model.specs.Entries.{IsTable, Apart}
use Rattle.order_model.specs.declared.Slot.{Slot}
use Rattle.order_model.specs.declared.Slot.TheVariants.{Name, Print}
use Rattle.engine_model.specs.Births.{IsSlot, Leads, cached_value}
use Rattle.engine_model.specs.DeviceSteps.{AtRest}
use Rattle.engine_model.specs.Examples.{printed, empty, written}
use Rattle.engine_model.specs.Session.{discarded, discarded_world, discard_edits, dropped, count_gone, count_gone_world, dropped_world, mounted, release_edits, unborn_release, write_edits, wrote}
use Rattle.engine_model.specs.Drops.{Dropped}
use Rattle.engine_model.specs.Pass.{Lowers, Pass}
use Rattle.engine_model.specs.Schedule.{Discard, DropData, ReleaseApplied, Run, Step, Write}
use Rattle.engine_model.specs.Invariant.{EngineInvariant}
use Rattle.engine_model.proofs.Examples.{tables, no_zero, no_other, is_data, write_renamed, write_content, write_gains}
use Rattle.engine_model.proofs.Scans.{session_start}
use Rattle.engine_model.proofs.Views.{none_some}

pub printed_apart : Apart printed
printed_apart = record {
  table_data = λ page p is d e. elim (tables page is) [ inl t ↦ omega (arith, t, e) | inr o ↦ elim o [ inl t ↦ omega (arith, t, e) | inr t ↦ omega (arith, t, e) ] ];
  data_data = λ q p d e ne same. ne (omega (arith, d, e));
  map_count = λ l p lt d e. omega (arith, e);
  map_print = λ l p lt d e. omega (arith, e);
  count_print = λ q p d e same. omega (arith, same);
  first_table = λ page is e. elim (tables page is) [ inl t ↦ omega (arith, t, e) | inr o ↦ elim o [ inl t ↦ omega (arith, t, e) | inr t ↦ omega (arith, t, e) ] ];
  first_data = λ p d e. omega (arith, e);
}

empty_one : (c : List ℕ) → (c ≡ 0 ∷ []) ⊎ ⊥ → c ≡ 0 ∷ []
empty_one c (inl e) = e
empty_one c (inr x) = absurd x

empty_rest : AtRest empty
unfolding IsAmong
empty_rest = record {
  one = λ page c q. empty_one c q;
  cached = λ page. refl;
  dirty = λ page. refl;
  hung = λ page. refl;
  live = λ a b. refl;
  barred = λ a b. refl;
  queue = refl;
}

pub mounted_kept : EngineInvariant printed 5 true mounted
unfolding count_below IsAmong
mounted_kept = session_start printed 5 true mounted [] (2 ∷ []) empty_rest
    (record {
      names = λ p d. subst (λ q. count_below (λ l. eqb 0 q) 1 ≤ 0) (only p d) (omega arith);
      prints = λ p print d h. absurd (none_some print h);
    })
    (λ p d. omega arith)
    (record {
      reads = λ l lt. record { unmapped = λ n. inl refl; mapped = λ p d n. absurd (omega (arith, d, n)) };
      prints = λ s p print d h. absurd (none_some print h);
      well_formed = λ page is. refl;
    })
    (λ l lt c h. empty_one c h) refl (λ p d. ((λ h. absurd h), (λ pos. absurd (omega (arith, pos))))) (λ p d. inl refl) (λ q. refl)
  where
    only : (q : ℕ) → IsData printed q → 1 ≡ q
    only q d = omega (arith, d)

-- the slots are block 0 and page 1
write_leads : (slot : Slot) → IsSlot printed slot → Leads printed slot write_edits (cached_value printed empty slot) (cached_value printed written slot)
write_leads (Name l) lt = subst (λ k. Leads printed (Name k) write_edits (cached_value printed empty (Name k)) (cached_value printed written (Name k))) (zero_is l lt)
    ((λ e. (refl, refl, ((λ x. absurd (true≢false (sym x))), (λ x. refl)))), (λ e. absurd (true≢false e)))
  where
    zero_is : (k : ℕ) → k < 1 → 0 ≡ k
    zero_is k h = omega arith
write_leads (Print p) d = subst (λ k. Leads printed (Print k) write_edits (cached_value printed empty (Print k)) (cached_value printed written (Print k))) (one_is p d)
    ((λ e. absurd (true≢false (sym e))), (λ e. ((λ x. (refl, refl, refl)), (λ x. absurd (true≢false x)))))
  where
    one_is : (k : ℕ) → IsData printed k → 1 ≡ k
    one_is k h = omega (arith, h)

pub first_step : Step printed 5 mounted wrote
first_step = Write 0 0 1 (7 ∷ []) write_renamed write_content write_gains
    (record { edits = write_edits; calls = refl; dirty = (refl, (refl, tt)); leads = write_leads }) (inl (refl, (λ q. refl)))

-- nothing but the map's entry changes
discarded_step : Step printed 5 wrote discarded
discarded_step = Discard 0 1
    (record {
      rest = record {
        newest = λ page. refl;
        possible = λ page c q. q;
        cached_clean = λ page is d. absurd (node page is d);
        hung = λ a. refl;
        dirty_kept = λ a h. h;
        live_kept = λ a b h. h;
        barred_kept = λ a b h. h;
        live_ends = λ a b h. inl h;
        barred_ends = λ a b h. inl h;
      };
      edges = record { live = λ a b h. inl h; barred = λ a b h. inl h };
      released = record {
        in_range = omega arith;
        was = refl;
        none_or_data = inr is_data;
        other_names = λ k lt ne. absurd (no_zero k lt ne);
        map_dirty = refl;
        pushed = inr (omega arith, refl);
      };
      had = omega arith;
      name = refl;
      counts = λ q d. refl;
      prints = λ q d. refl;
    })
    (record { pages = λ q d. same_data q d; well_formed = λ page is. refl; first_page = (refl, refl) })
    (record { here = refl; other = λ k ne. rw (ne_eqb k 0 ne) })
    (record { edits = discard_edits; calls = refl; dirty = (refl, tt); leads = leads })
    (λ q. refl)
  where
    node : (page : ℕ) → IsTable printed page → written.dirty page ≡ false → ⊥
    node page is d = elim (tables page is) [
      | inl e ↦ true≢false (rw e at d)
      | inr o ↦ elim o [ inl e ↦ true≢false (rw e at d) | inr e ↦ true≢false (rw e at d) ]
    ]

    same_data : (q : ℕ) → IsData printed q → (discarded_world.cached 4 ≡ written.cached 4) × (discarded_world.dirty 4 ≡ written.dirty 4)
    same_data q d = (refl, refl)

    zero_is : (k : ℕ) → k < 1 → 0 ≡ k
    zero_is k h = omega arith

    leads : (slot : Slot) → IsSlot printed slot → Leads printed slot discard_edits (cached_value printed written slot) (cached_value printed discarded_world slot)
    leads (Name l) lt = subst (λ k. Leads printed (Name k) discard_edits (cached_value printed written (Name k)) (cached_value printed discarded_world (Name k))) (zero_is l lt)
        ((λ e. (refl, refl, refl)), (λ e. absurd (true≢false e)))
    leads (Print p) d = ((λ e. absurd (true≢false (sym e))), (λ e. refl))

pub release_lowers : Lowers printed discarded count_gone unborn_release [] []
release_lowers = record {
  applied = record {
    rest = record {
      newest = λ page. refl;
      possible = λ page c q. q;
      cached_clean = λ page is d. absurd (node page is d);
      hung = λ a. refl;
      dirty_kept = λ a h. h;
      live_kept = λ a b h. h;
      barred_kept = λ a b h. h;
      live_ends = λ a b h. inl h;
      barred_ends = λ a b h. inl h;
    };
    edges = record { live = λ a b h. inl h; barred = λ a b h. inl h };
    no_cycle = λ b. elim b [ inl z ↦ omega (arith, z) | inr f ↦ true≢false f.0.2 ];
    was_queued = refl;
    removed = refl;
    names = λ l lt. refl;
    count_here = refl;
    count_other = λ q d ne. absurd (no_other q d ne);
    print_kept = λ pos. absurd (omega (arith, pos));
    print_gone = λ z. refl;
    print_other = λ q d ne. absurd (no_other q d ne);
    from_map = λ e. absurd (omega (arith, e));
    from_hung_map = λ e. absurd (omega (arith, e));
    from_print = λ last. absurd (true≢false last.2);
  };
  data_kept = record { pages = λ q d. same_data q d; well_formed = λ page is. refl; first_page = (refl, refl) };
  array = λ l. refl;
  births = record { edits = release_edits; calls = refl; dirty = (refl, tt); leads = leads };
  pool = inl (refl, (λ q. refl));
}
  where
    node : (page : ℕ) → IsTable printed page → written.dirty page ≡ false → ⊥
    node page is d = elim (tables page is) [
      | inl e ↦ true≢false (rw e at d)
      | inr o ↦ elim o [ inl e ↦ true≢false (rw e at d) | inr e ↦ true≢false (rw e at d) ]
    ]

    same_data : (q : ℕ) → IsData printed q → (count_gone_world.cached 4 ≡ discarded_world.cached 4) × (count_gone_world.dirty 4 ≡ discarded_world.dirty 4)
    same_data q d = (refl, refl)

    one_is : (k : ℕ) → IsData printed k → 1 ≡ k
    one_is k h = omega (arith, h)

    leads : (slot : Slot) → IsSlot printed slot → Leads printed slot release_edits (cached_value printed discarded_world slot) (cached_value printed count_gone_world slot)
    leads (Name l) lt = ((λ e. absurd (true≢false (sym e))), (λ e. refl))
    leads (Print p) d = subst (λ k. Leads printed (Print k) release_edits (cached_value printed discarded_world (Print k)) (cached_value printed count_gone_world (Print k))) (one_is p d)
        ((λ e. (refl, refl, refl)), (λ e. absurd (true≢false e)))

released_step : Step printed 5 discarded count_gone
released_step = ReleaseApplied unborn_release [] [] release_lowers.applied release_lowers.data_kept release_lowers.array release_lowers.births release_lowers.pool

pub content_dropped : Dropped printed count_gone_world dropped_world 1
content_dropped = record {
  is_data = is_data;
  no_count = refl;
  newest = λ page. refl;
  possible = λ page c q. q;
  hung = λ a. refl;
  queue = refl;
  barred = λ a b. refl;
  live = λ a b ne. gone a b ne;
  live_gone = λ b. refl;
  dirty = λ a ne. less a ne;
  dirty_gone = refl;
  cached = λ a ne. rw (ne_eqb a 4 ne);
  cached_gone = refl;
}
  where
    gone : (a b : ℕ) → a ≢ 4 → (eqb a 2 && (eqb b 1 || eqb b 3)) ≡ ((eqb a 2 || eqb a 4) && (eqb b 1 || eqb b 3))
    gone a b ne = rw (ne_eqb a 4 ne) (ap (λ x. x && (eqb b 1 || eqb b 3)) (sym (or-false (eqb a 2))))

    less : (a : ℕ) → a ≢ 4 → ((eqb a 1 || eqb a 3) || eqb a 2) ≡ ((eqb a 1 || eqb a 3) || (eqb a 2 || eqb a 4))
    less a ne = rw (ne_eqb a 4 ne) (ap (λ x. (eqb a 1 || eqb a 3) || x) (sym (or-false (eqb a 2))))

drop_step : Step printed 5 count_gone dropped
drop_step = DropData 1 content_dropped (λ l. refl) refl (λ q. refl)

-- the two steps are a pass over the queue
pub sample_pass : Pass printed discarded [] (unborn_release ∷ []) dropped
sample_pass = inr (count_gone, dropped, release_lowers, record { world = inr content_dropped; array = λ l. refl; calls = refl; pool = λ q. refl }, refl)

pub sample_run : Run printed 5 mounted (wrote ∷ (discarded ∷ (count_gone ∷ (dropped ∷ []))))
sample_run = (first_step, (discarded_step, (released_step, (drop_step, tt))))
