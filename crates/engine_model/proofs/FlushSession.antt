-- The flush in small is a run of steps, and so is the change of the version after it.
use Rattle.std.proofs.Common.{◌≡◌, inl, inr, ◌<◌, ℕ, Bool, true, false, not, ◌||◌, ◌&&◌, arith, refl, sym, ap, subst, List, [], ◌∷◌, eqb, ne_eqb}
use Rattle.std.proofs.Math.Bool.{and-false}
use Rattle.order_model.specs.Counting.{count_below}
use Rattle.engine_model.specs.Contents.{Last}
use Rattle.order_model.specs.declared.Slot.{Slot}
use Rattle.order_model.specs.declared.Slot.TheVariants.{Name, Print}
use Rattle.engine_model.specs.Births.{IsSlot, Leads, cached_value}
use Rattle.engine_model.specs.DeviceSteps.{IsReady}
use Rattle.engine_model.specs.Corrections.{Corrected}
use Rattle.engine_model.specs.Invariant.{EngineInvariant, Moment}
use Rattle.engine_model.specs.Schedule.{BarrierDone, Correct, FlushDone, NoNode, Run, Step, WriteAgain, WriteDone, WriteTaken}
use Rattle.engine_model.specs.SmallRuns.{OrderByBarrier, SmallStep, with_barrier, with_taken, with_written}
use Rattle.engine_model.specs.VersionSwitch.{Clear, Fix, NoPrints, PageDone, Stamp, SwitchRun, SwitchStart}
use Rattle.engine_model.specs.Examples.{printed}
use Rattle.engine_model.specs.Session.{wrote}
use Rattle.engine_model.specs.FlushSession.{again, all_cleared, cleared_out, clearing, count_out, data_out, data_tried, first_wave, flush_moments, flushed, map_out, print_out, second_wave, stamped_out, stamping, switch_moments, waits_for_barrier}
use Rattle.engine_model.proofs.DeviceMoves.{barrier_made_is, page_taken_is, page_taken_keeps, page_written_is, page_written_moves}
use Rattle.engine_model.proofs.Examples.{is_data, no_other}
use Rattle.engine_model.proofs.Schedule.{run_keeps, step_keeps}
use Rattle.engine_model.proofs.SwitchRuns.{placed_edited}
use Rattle.engine_model.proofs.Session.{first_step, mounted_kept, printed_apart}

done_step : (m : Moment) (page : ℕ) → IsReady m.world page → Step printed 5 m (with_written printed page m)
done_step m page ready = WriteDone page (page_written_is printed m.world page ready) (page_written_moves printed m.world page) (λ l. refl) refl (λ p. refl)

failed_step : (m : Moment) (page : ℕ) → IsReady m.world page → Step printed 5 m (with_taken printed page m)
failed_step m page ready = WriteTaken page (page_taken_is m.world page ready) (page_taken_keeps m.world page) (λ l. refl) refl (λ p. refl)

fixed_step : (m : Moment) → Step printed 5 m (with_barrier m)
fixed_step m = BarrierDone (barrier_made_is m.world) (λ l. refl) refl (λ p. refl)

-- the two pages without an edge to them
and_falses : (b c : Bool) → ((b && false) && c) ≡ false
and_falses b c = grind arith

count_ready : IsReady wrote.world 2
count_ready = record { dirty = refl; no_live = λ a. and-false (eqb a 2 || eqb a 4); no_barred = λ a. refl }

data_ready : IsReady count_out.world 4
data_ready = record { dirty = refl; no_live = λ a. and_falses (eqb a 2 || eqb a 4) (not (eqb a 2)); no_barred = λ a. none (eqb a 2 || eqb a 4) (eqb a 2) }
  where
    none : (x y : Bool) → (false || ((x && false) && y)) ≡ false
    none x y = grind arith

data_ready_again : IsReady data_tried.world 4
data_ready_again = record { dirty = refl; no_live = data_ready.no_live; no_barred = data_ready.no_barred }

-- and then the two that waited for them
gone : (x y : Bool) → ((((x || y) && true) && not x) && not y) ≡ false
gone x y = grind arith

map_ready : IsReady first_wave.world 1
map_ready = record { dirty = refl; no_live = λ a. gone (eqb a 2) (eqb a 4); no_barred = λ a. refl }

print_ready : IsReady map_out.world 3
print_ready = record { dirty = refl; no_live = λ a. none (eqb a 2) (eqb a 4) (eqb a 1); no_barred = λ a. never (eqb a 2) (eqb a 4) (eqb a 1) }
  where
    none : (x y z : Bool) → (((((x || y) && true) && not x) && not y) && not z) ≡ false
    none x y z = grind arith

    never : (x y z : Bool) → (false || (((((x || y) && true) && not x) && not y) && z)) ≡ false
    never x y z = grind arith

-- no page is a node after the second wave
no_node : NoNode second_wave
no_node a = (all_out (eqb a 1) (eqb a 2) (eqb a 3) (eqb a 4), refl)
  where
    all_out : (x y z t : Bool) → ((((((x || z) || (y || t)) && not y) && not t) && not x) && not z) ≡ false
    all_out x y z t = grind arith

only_last : (l : ℕ) → l < 1 → (c : List ℕ) → Last (wrote.array l) c → flushed.array l ≡ c ∷ []
only_last l lt c last = subst (λ k. Last (wrote.array k) c → flushed.array k ≡ c ∷ []) (zero_is l lt) (λ e. ap (λ x. x ∷ []) (sym e)) last
  where
    zero_is : (k : ℕ) → k < 1 → 0 ≡ k
    zero_is k h = omega arith

flush_step : Step printed 5 second_wave flushed
flush_step = FlushDone no_node
    (record { newest = λ a. refl; older = λ a. refl; cached = λ a. refl; dirty = λ a. refl; hung = λ a. refl; live = λ a b. refl; barred = λ a b. refl; queue = refl }) only_last refl (λ p. refl)

-- nothing is to be corrected
settled_corrected : Corrected printed flushed.world flushed.world 1
unfolding count_below
settled_corrected = record {
  rest = record {
    newest = λ a. refl;
    possible = λ a c q. q;
    cached_clean = λ a t d. refl;
    hung = λ a. refl;
    dirty_kept = λ a h. h;
    live_kept = λ a b h. h;
    barred_kept = λ a b h. h;
    live_ends = λ a b h. inl h;
    barred_ends = λ a b h. inl h;
  };
  edges = record { live = λ a b h. inl h; barred = λ a b h. inl h };
  is_data = is_data;
  none_queued = refl;
  no_map_node = λ l lt. no_node 1;
  no_print_edge = λ a q d. (none (eqb a 1) (eqb a 2) (eqb a 3) (eqb a 4), refl);
  queue = refl;
  names = λ l lt. refl;
  count_here = refl;
  count_other = λ q d ne. absurd (no_other q d ne);
  print_other = λ q d ne. absurd (no_other q d ne);
  print_here = inl (omega arith, (7 ∷ [], refl), refl);
}
  where
    none : (x y z t : Bool) → ((((((y || t) && true) && not y) && not t) && not x) && not z) ≡ false
    none x y z t = grind arith

correct_step : Step printed 5 flushed flushed
correct_step = Correct 1 settled_corrected (record { pages = λ q d. (refl, refl); well_formed = λ a t. refl; first_page = (refl, refl) }) (λ l. refl)
    (record { edits = []; calls = refl; dirty = tt; leads = leads }) (inr (inr refl, (λ q. refl)))
  where
    leads : (slot : Slot) → IsSlot printed slot → Leads printed slot [] (cached_value printed flushed.world slot) (cached_value printed flushed.world slot)
    leads (Name l) lt = refl
    leads (Print q) d = refl

again_step : Step printed 5 flushed again
again_step = WriteAgain 0 1 is_data refl
    (record { newest = λ a. refl; older = λ a. refl; cached = λ a. refl; dirty = λ a. refl; hung = λ a. refl; live = λ a b. refl; barred = λ a b. refl; queue = refl })
    (record { here = refl; other = λ k ne. rw (ne_eqb k 0 ne) }) refl (λ p. refl)

pub flush_run : Run printed 5 wrote flush_moments
flush_run = (
  done_step wrote 2 count_ready,
  (
    failed_step count_out 4 data_ready,
    (
      done_step data_tried 4 data_ready_again,
      (
        fixed_step data_out,
        (
          done_step first_wave 1 map_ready,
          (done_step map_out 3 print_ready, (fixed_step print_out, (flush_step, (correct_step, (again_step, tt))))),
        ),
      ),
    ),
  ),
)

-- a Barrier edge from the hung count page to the map page, which waits for it
pub barrier_edge : SmallStep printed 5 count_out waits_for_barrier
barrier_edge = OrderByBarrier 2 1 (inl (inr (1, is_data, refl), inl (0, omega arith, refl))) refl refl refl

-- the change of the version begins after the flush
wrote_kept : EngineInvariant printed 5 true wrote
wrote_kept = step_keeps printed 5 true printed_apart _ wrote mounted_kept first_step

pub switch_start : SwitchStart printed 5 true flushed
switch_start = record {
  kept = (run_keeps printed 5 true printed_apart wrote flush_moments wrote_kept flush_run).1.1.1.1.1.1.1.0;
  queue = refl;
  clean = no_node;
}

no_prints : NoPrints printed 3 (0 ∷ [])
no_prints = record { well_formed = refl; none = λ p d e. refl }

clear_ready : IsReady clearing.world 3
clear_ready = record { dirty = refl; no_live = λ a. none (eqb a 1) (eqb a 2) (eqb a 3) (eqb a 4); no_barred = λ a. refl }
  where
    none : (x y z t : Bool) → ((((((y || t) && true) && not y) && not t) && not x) && not z) ≡ false
    none x y z t = grind arith

cleared_clean : NoNode all_cleared
cleared_clean a = (all_out (eqb a 1) (eqb a 2) (eqb a 3) (eqb a 4), refl)
  where
    all_out : (x y z t : Bool) → (((((((((x || z) || (y || t)) && not y) && not t) && not x) && not z) || z) && not z)) ≡ false
    all_out x y z t = grind arith

stamp_ready : IsReady stamping.world 0
stamp_ready = record { dirty = refl; no_live = λ a. none (eqb a 1) (eqb a 2) (eqb a 3) (eqb a 4); no_barred = λ a. refl }
  where
    none : (x y z t : Bool) → (((((((y || t) && false) && not y) && not t) && not x) && not z) && not z) ≡ false
    none x y z t = grind arith

pub switch_run : SwitchRun printed (9 ∷ []) flushed flushed switch_moments
switch_run = (
  Clear 3 (record {
    edited = placed_edited flushed.world 3 (0 ∷ []);
    is_print = (1, is_data, refl);
    none = no_prints;
    first_clean = refl;
    first_fixed = refl;
    first_cached = refl;
  }) (λ l. refl) refl (λ p. refl),
  (
    PageDone 3 (page_written_is printed clearing.world 3 clear_ready) (page_written_moves printed clearing.world 3) (λ l. refl) refl (λ p. refl),
    (
      Fix (barrier_made_is cleared_out.world) (λ l. refl) refl (λ p. refl),
      (
        Stamp (record { edited = placed_edited all_cleared.world 0 (9 ∷ []); content = refl; clean = cleared_clean; none = λ p d. no_prints }) (λ l. refl) refl (λ p. refl),
        (
          PageDone 0 (page_written_is printed stamping.world 0 stamp_ready) (page_written_moves printed stamping.world 0) (λ l. refl) refl (λ p. refl),
          (Fix (barrier_made_is stamped_out.world) (λ l. refl) refl (λ p. refl), tt),
        ),
      ),
    ),
  ),
)
