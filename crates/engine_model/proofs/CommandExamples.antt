-- Whole commands, a drain, a scan and a tight state are possible.
use Rattle.std.proofs.Common.{◌≡◌, ◌≢◌, ◌⊎◌, inl, inr, ◌+◌, ◌<◌, ◌≤◌, ℕ, Bool, true, false, not, ◌||◌, ◌&&◌, arith, refl, sym, ap, ◌∙◌, subst, List, [], ◌∷◌, Some, true≢false, eqb, ne_eqb, get_or}
use Rattle.std.proofs.lemmas.Bool.{false_from_ne_true}
use Rattle.std.proofs.Math.Bool.{and-false}
use Rattle.order_model.specs.Contents.{IsAmong}
use Rattle.order_model.specs.Counting.{count_below}
use Rattle.order_model.specs.Pool.{after_zeroed}
use Rattle.order_model.specs.World.{IsData}
use Rattle.engine_model.specs.CommandExamples.{all_drained, count_page_out, emptied, emptied_array, fixed_release_of, last_print_gone, leftover, leftover_world, map_fixed, map_gone, print_page_fixed, print_page_out, recounted, released, scan_count_out, scan_print_fixed, scan_print_out, scanned, unprinted}
use Rattle.engine_model.specs.Commands.{Gains}
use Rattle.engine_model.specs.DeviceSteps.{AtRest, IsReady}
use Rattle.engine_model.specs.Drain.{DoneDrain}
use Rattle.engine_model.specs.Entries.{cached_count, cached_names}
use Rattle.engine_model.specs.Examples.{printed}
use Rattle.engine_model.specs.FlushSession.{flushed}
use Rattle.engine_model.specs.Invariant.{EngineInvariant, Moment, known_at}
use Rattle.engine_model.specs.Releases.{IsBlocked}
use Rattle.engine_model.specs.Scan.{TablesSettled}
use Rattle.engine_model.specs.Schedule.{BarrierDone, DeviceStep, NoNode, WriteDone}
use Rattle.engine_model.specs.Session.{discarded, mounted}
use Rattle.engine_model.specs.SmallCommands.{CanDiscard, CanWriteFound, CanWriteFresh}
use Rattle.engine_model.specs.SmallPass.{Applies, ClearsLast, StaysThere}
use Rattle.engine_model.specs.SmallRuns.{with_barrier, with_written}
use Rattle.engine_model.specs.SmallScan.{CountSet, Fixes, IsDrained, PrintCleared, SmallScan}
use Rattle.engine_model.specs.SmallSteps.{SetsCount, SetsPrint}
use Rattle.engine_model.specs.Tight.{IsSettled, IsTight, WantsPage}
use Rattle.engine_model.proofs.DeviceMoves.{barrier_made_is, page_written_is, page_written_moves}
use Rattle.engine_model.proofs.Examples.{is_data, no_other}
use Rattle.engine_model.proofs.FlushSession.{switch_start}
use Rattle.engine_model.proofs.Graphs.{begins_none}
use Rattle.engine_model.proofs.Scans.{session_start}
use Rattle.engine_model.proofs.Session.{printed_apart}
use Rattle.engine_model.proofs.SmallDiscard.{discard_keeps}
use Rattle.engine_model.proofs.PassExamples.{sets_print}
use Rattle.engine_model.proofs.SmallSession.{sets_count, sets_name}
use Rattle.engine_model.proofs.SmallScan.{drained_start}
use Rattle.engine_model.proofs.Views.{none_some, some_is}

sets_some : (old : List ℕ) → SetsPrint printed old (1 ∷ (7 ∷ [])) 1 (Some (7 ∷ []))
sets_some old = record { here = refl; other = λ q d ne same. absurd (no_other q d ne); formed = refl }

-- the commands
pub fresh_possible : CanWriteFresh printed 5 mounted 0 0 1 (7 ∷ []) (1 ∷ []) (1 ∷ (7 ∷ [])) (1 ∷ [])
fresh_possible = record {
  fills = record { is_data = is_data; free = refl; below_top = omega arith; sets_count = sets_count _ 1; sets_print = sets_some _; opens = begins_none mounted.world.live 2 3 (λ e. omega (arith, e)) (λ c. refl) };
  in_range = omega arith;
  was = refl;
  none_or_data = inl refl;
  sets = sets_name _ 1;
  opens = begins_none mounted.world.live 2 1 (λ e. omega (arith, e)) (λ c. refl);
}

pub found_possible : CanWriteFound printed 5 discarded.world 0 0 1 (7 ∷ []) (2 ∷ []) (1 ∷ [])
found_possible = record {
  in_range = omega arith;
  was = refl;
  none_or_data = inl refl;
  is_data = is_data;
  other = λ e. omega (arith, e);
  holds = refl;
  counted = omega arith;
  below_top = omega arith;
  sets_count = sets_count _ 2;
  sets = sets_name _ 1;
  opens = begins_none discarded.world.live 2 1 (λ e. omega (arith, e)) (λ c. refl);
}

pub discard_possible : CanDiscard printed flushed.world 0 1 (0 ∷ [])
discard_possible = record { in_range = omega arith; was = refl; is_data = is_data; sets = sets_name _ 0 }

pub emptied_gains : Gains flushed.array emptied_array 0 printed.zero_block
emptied_gains = record { here = refl; other = λ k ne. rw (ne_eqb k 0 ne) }

pub emptied_kept : EngineInvariant printed 5 true emptied
emptied_kept = discard_keeps printed 5 true printed_apart flushed switch_start.kept 0 1 (0 ∷ []) discard_possible emptied_array emptied_gains

-- steps of the device
written_device : (m : Moment) (page : ℕ) → IsReady m.world page → DeviceStep printed 5 m (with_written printed page m)
written_device m page ready = record {
  step = WriteDone page (page_written_is printed m.world page ready) (page_written_moves printed m.world page) (λ l. refl) refl (λ p. refl);
  of_device = tt;
}

fixed_device : (m : Moment) → DeviceStep printed 5 m (with_barrier m)
fixed_device m = record { step = BarrierDone (barrier_made_is m.world) (λ l. refl) refl (λ p. refl); of_device = tt }

-- where no page is a node there is no edge
flushed_open : (a b : ℕ) → flushed.world.live a b ≡ false
flushed_open a b = false_from_ne_true _ (λ h. true≢false (sym (switch_start.kept.counts.marks_and_edges.live_before a b h) ∙ (switch_start.clean a).0))

gone : (b x : Bool) → b ≡ false → ((b || x) && not x) ≡ false
gone b x e = grind arith

less : (b x : Bool) → b ≡ false → (b && x) ≡ false
less b x e = grind arith

none_into : (b x : Bool) → b ≡ false → (b || (x && false)) ≡ false
none_into b x e = grind arith

left_from : (b x : Bool) → b ≡ false → ((b || (x && true)) && not x) ≡ false
left_from b x e = grind arith

both_gone : (b x y : Bool) → b ≡ false → ((((b || x) || y) && not y) && not x) ≡ false
both_gone b x y e = grind arith

-- the drain
map_ready : IsReady emptied.world 1
map_ready = record { dirty = refl; no_live = λ a. flushed_open a 1; no_barred = λ a. refl }

first_clean : NoNode map_fixed
first_clean a = (gone (flushed.world.dirty a) (eqb a 1) (switch_start.clean a).0, refl)

fixed_open : (a b : ℕ) → map_fixed.world.live a b ≡ false
fixed_open a b = less (flushed.world.live a b) (not (eqb a 1)) (flushed_open a b)

open_release : IsBlocked printed (known_at printed map_fixed) map_fixed.world fixed_release_of → ⊥
open_release (inl z) = omega (arith, z.0)
open_release (inr f) = begins_none map_fixed.world.live 3 2 (λ e. omega (arith, e)) (λ c. fixed_open 2 c) f.1

release_applies : Applies printed map_fixed released fixed_release_of [] []
release_applies = record {
  not_blocked = open_release;
  count = 0;
  counted = refl;
  cleared = last_print_gone;
  clears = ClearsLast (0 ∷ []) (7 ∷ []) refl refl refl (sets_print _) refl;
  content = 0 ∷ [];
  sets = sets_count _ 0;
  pool = after_zeroed 1 map_fixed.pool;
  told = inl (refl, λ q. refl);
  gives_up = StaysThere refl;
}

print_ready : IsReady released.world 3
print_ready = record { dirty = refl; no_live = λ a. none_into (map_fixed.world.live a 3) (eqb a 3) (fixed_open a 3); no_barred = λ a. refl }

count_ready : IsReady print_page_fixed.world 2
count_ready = record { dirty = refl; no_live = λ a. left_from (map_fixed.world.live a 2) (eqb a 3) (fixed_open a 2); no_barred = λ a. refl }

second_clean : NoNode all_drained
second_clean a = (both_gone (map_fixed.world.dirty a) (eqb a 2) (eqb a 3) (first_clean a).0, refl)

pub drain_possible : DoneDrain printed 5 emptied all_drained
drain_possible = record {
  between = released;
  first = record {
    round = record {
      flushed = map_gone ∷ (map_fixed ∷ []);
      run = (written_device emptied 1 map_ready, (fixed_device map_gone, tt));
      pass = inr (released, inl release_applies, refl);
    };
    done = first_clean;
  };
  second = record {
    round = record {
      flushed = print_page_out ∷ (print_page_fixed ∷ (count_page_out ∷ (all_drained ∷ [])));
      run = (written_device released 3 print_ready, (fixed_device print_page_out, (written_device print_page_fixed 2 count_ready, (fixed_device count_page_out, tt))));
      pass = refl;
    };
    done = second_clean;
  };
}

-- the scan
only_one : (c d : List ℕ) → (c ≡ d) ⊎ ⊥ → c ≡ d
only_one c d (inl e) = e
only_one c d (inr x) = absurd x

leftover_rest : AtRest leftover_world
unfolding IsAmong
leftover_rest = record {
  one = λ page c q. only_one c (leftover_world.newest page) q;
  cached = λ page. refl;
  dirty = λ page. refl;
  hung = λ page. refl;
  live = λ a b. refl;
  barred = λ a b. refl;
  queue = refl;
}

pub leftover_kept : EngineInvariant printed 5 true leftover
unfolding count_below IsAmong
leftover_kept = session_start printed 5 true leftover (1 ∷ []) (2 ∷ []) leftover_rest
    (record {
      names = λ p d. subst (λ q. count_below (λ l. eqb 0 q) 1 ≤ 1) (one p d) (omega arith);
      prints = λ p print d h. omega arith;
    })
    (λ p d. omega arith)
    (record {
      reads = λ l lt. record { unmapped = λ n. inl refl; mapped = λ p d n. absurd (omega (arith, d, n)) };
      prints = λ s p print d h. sym (some_is _ _ h);
      well_formed = λ page is. refl;
    })
    (λ l lt c h. only_one c (0 ∷ []) h) refl (λ p d. ((λ h. omega arith), (λ pos. inl (one p d)))) (λ p d. inl refl) (λ q. refl)
  where
    one : (q : ℕ) → IsData printed q → 1 ≡ q
    one q d = omega (arith, d)

pub leftover_drained : IsDrained printed leftover.world
leftover_drained = drained_start printed 5 true leftover leftover_kept (λ a. (refl, refl)) refl

nameless : cached_names printed leftover.world 1 ≡ 0
unfolding count_below
nameless = refl

leftover_fixes : Fixes printed leftover recounted 1
leftover_fixes = record {
  is_data = is_data;
  printed = unprinted;
  print = PrintCleared (0 ∷ []) (7 ∷ []) nameless refl (sets_print _) refl;
  count = CountSet (0 ∷ []) (after_zeroed 1 leftover.pool) (subst (λ n. SetsCount printed (1 ∷ []) (0 ∷ []) 1 n) (sym nameless) (sets_count (1 ∷ []) 0)) refl (inl (refl, λ q. refl));
}

scan_print_ready : IsReady recounted.world 3
scan_print_ready = record { dirty = refl; no_live = λ a. and-false (eqb a 3); no_barred = λ a. refl }

scan_count_ready : IsReady scan_print_fixed.world 2
scan_count_ready = record { dirty = refl; no_live = λ a. left_from false (eqb a 3) refl; no_barred = λ a. refl }

pub scan_possible : SmallScan printed 5 1 leftover (recounted ∷ (scan_print_out ∷ (scan_print_fixed ∷ (scan_count_out ∷ (scanned ∷ [])))))
scan_possible = inr (
  leftover_fixes,
  inl (
    written_device recounted 3 scan_print_ready,
    inl (fixed_device scan_print_out, inl (written_device scan_print_fixed 2 scan_count_ready, inl (fixed_device scan_count_out, refl))),
  ),
)

pub scan_settled : TablesSettled printed scanned
scan_settled page t = (settled (eqb page 2) (eqb page 3), refl)
  where
    settled : (x y : Bool) → (((((x || y) || x) && not y) && not x)) ≡ false
    settled x y = grind arith

-- tight states
seven_zero : ◌≡◌ {A = ℕ} 7 0 → ⊥
seven_zero e = omega (arith, e)

seven : ◌≢◌ {A = List ℕ} (7 ∷ []) (0 ∷ [])
seven e = seven_zero (ap (λ c. get_or {A = ℕ} c 0 0) e)

one_page : (p : ℕ) → IsData printed p → 1 ≡ p
one_page p d = omega (arith, d)

pub mounted_tight : IsTight printed 2 mounted.world
unfolding count_below
mounted_tight = record {
  owed = λ p d. subst (λ q. cached_count printed mounted.world q ≡ cached_names printed mounted.world q + 0) (one_page p d) refl;
  printed = λ p d pos. absurd (omega (arith, pos));
  distinct = λ p q d e ne pos pos2. absurd (omega (arith, pos));
  no_zeros = λ two p d pos. absurd (omega (arith, pos));
}

pub mounted_wants : WantsPage printed 5 2 mounted.world (7 ∷ [])
unfolding count_below
mounted_wants = record {
  is_new = record {
    none_usable = λ q d print same. absurd (none_some _ print);
    room = λ p d. subst (λ q. cached_names printed mounted.world q + 0 < 5) (one_page p d) (omega arith);
  };
  not_zeros = λ two. seven;
}

pub flushed_tight : IsTight printed 2 flushed.world
unfolding count_below
flushed_tight = record {
  owed = λ p d. subst (λ q. cached_count printed flushed.world q ≡ cached_names printed flushed.world q + 0) (one_page p d) refl;
  printed = λ p d pos. (7 ∷ [], refl);
  distinct = λ p q d e ne. absurd (ne (sym (one_page p d) ∙ one_page q e));
  no_zeros = λ two p d pos. seven;
}

pub flushed_settled : IsSettled printed flushed
flushed_settled = record {
  none = switch_start.clean;
  queue = refl;
  exact = λ p d. record { possible = λ h. (1 ∷ [], inl refl, omega arith); newest = λ h. omega arith };
}
