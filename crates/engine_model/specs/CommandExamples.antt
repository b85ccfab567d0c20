-- Concrete states for whole commands: a block that was flushed is discarded and a drain follows; and a scan finds a count that is too high.
use Rattle.std.specs.Prelude.{List, [], cond, eqb, false, ℕ, ◌∷◌}
use Rattle.order_model.specs.Pool.{after_fixed, after_zeroed, new_pool, taken_all, written_all}
use Rattle.order_model.specs.World.{Release, World}
use Rattle.engine_model.specs.Examples.{empty_array, printed}
use Rattle.engine_model.specs.FlushSession.{flushed}
use Rattle.engine_model.specs.Invariant.{Moment}
use Rattle.engine_model.specs.SmallCommands.{with_discard}
use Rattle.engine_model.specs.SmallPass.{print_readied, readied}
use Rattle.engine_model.specs.SmallRuns.{in_state, with_barrier, with_count, with_print, with_release_out, with_written}
use Rattle.engine_model.specs.SmallSteps.{ordered, touched}

-- the block is discarded, and its map page goes out
abbrev pub emptied_array : ℕ → List (List ℕ)
emptied_array l = cond (eqb l 0) ((7 ∷ []) ∷ ((0 ∷ []) ∷ [])) ((0 ∷ []) ∷ [])

abbrev pub emptied : Moment
emptied = with_discard printed 0 1 (0 ∷ []) emptied_array flushed

abbrev pub map_gone : Moment
map_gone = with_written printed 1 emptied

abbrev pub map_fixed : Moment
map_fixed = with_barrier map_gone

-- the pass applies its release, which takes the last print away
abbrev pub fixed_release_of : Release
fixed_release_of = record { block = 0; page = 1; stage = 2 }

abbrev pub print_ordered : Moment
print_ordered = in_state (print_readied printed 1 (readied printed fixed_release_of map_fixed.world)) map_fixed

abbrev pub last_print_gone : Moment
last_print_gone = with_print printed 1 (0 ∷ []) 1 0 print_ordered

abbrev pub released : Moment
released = with_release_out printed 1 (0 ∷ []) [] (after_zeroed 1 map_fixed.pool) last_print_gone

-- the second round writes the print page and then the count page
abbrev pub print_page_out : Moment
print_page_out = with_written printed 3 released

abbrev pub print_page_fixed : Moment
print_page_fixed = with_barrier print_page_out

abbrev pub count_page_out : Moment
count_page_out = with_written printed 2 print_page_fixed

abbrev pub all_drained : Moment
all_drained = with_barrier count_page_out

-- a crash left page 1 counted and with its print, and no block names it
abbrev pub leftover_world : World
leftover_world = record {
  newest = λ page. cond (eqb page 2) (1 ∷ []) (cond (eqb page 3) (1 ∷ (7 ∷ [])) (cond (eqb page 4) (7 ∷ []) (0 ∷ [])));
  older = λ page. [];
  cached = λ page. cond (eqb page 2) (1 ∷ []) (cond (eqb page 3) (1 ∷ (7 ∷ [])) (cond (eqb page 4) (7 ∷ []) (0 ∷ [])));
  dirty = λ page. false;
  hung = λ page. false;
  live = λ a b. false;
  barred = λ a b. false;
  queue = [];
}

abbrev pub leftover : Moment
leftover = record {
  world = leftover_world;
  array = empty_array;
  calls = [];
  pool = after_fixed (written_all printed (2 ∷ []) (taken_all (1 ∷ []) new_pool));
}

-- a scan clears the print and sets the count, and the pages go out
abbrev pub unprinted : Moment
unprinted = with_print printed 1 (0 ∷ []) 1 0 (in_state (ordered 3 2 (touched 3 (touched 2 leftover.world))) leftover)

abbrev pub recounted : Moment
recounted = with_count printed 1 (0 ∷ []) (after_zeroed 1 leftover.pool) (in_state (touched 2 unprinted.world) unprinted)

abbrev pub scan_print_out : Moment
scan_print_out = with_written printed 3 recounted

abbrev pub scan_print_fixed : Moment
scan_print_fixed = with_barrier scan_print_out

abbrev pub scan_count_out : Moment
scan_count_out = with_written printed 2 scan_print_fixed

abbrev pub scanned : Moment
scanned = with_barrier scan_count_out
