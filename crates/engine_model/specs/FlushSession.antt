-- A flush in small, with a write that fails: what was written in the session in small goes out; then a scan's correction, a write of what the block holds, and a change of the version.
use Rattle.std.specs.Prelude.{ℕ, List, [], ◌∷◌, cond, eqb}
use Rattle.engine_model.specs.Invariant.{Moment}
use Rattle.engine_model.specs.SmallSteps.{ordered_by_barrier, placed}
use Rattle.engine_model.specs.SmallRuns.{with_barrier, with_taken, with_written}
use Rattle.engine_model.specs.Examples.{printed}
use Rattle.engine_model.specs.Session.{wrote}

-- the count page and the data page go out, then the map page and the print page
abbrev pub count_out : Moment
count_out = with_written printed 2 wrote

abbrev pub data_tried : Moment
data_tried = with_taken printed 4 count_out

abbrev pub data_out : Moment
data_out = with_written printed 4 data_tried

abbrev pub first_wave : Moment
first_wave = with_barrier data_out

abbrev pub map_out : Moment
map_out = with_written printed 1 first_wave

abbrev pub print_out : Moment
print_out = with_written printed 3 map_out

abbrev pub second_wave : Moment
second_wave = with_barrier print_out

-- the block keeps its last content alone, and gains it again
abbrev pub flushed_array : ℕ → List (List ℕ)
flushed_array l = cond (eqb l 0) ((7 ∷ []) ∷ []) ((0 ∷ []) ∷ [])

abbrev pub flushed : Moment
flushed = record second_wave { array = flushed_array }

abbrev pub again_array : ℕ → List (List ℕ)
again_array l = cond (eqb l 0) ((7 ∷ []) ∷ ((7 ∷ []) ∷ [])) ((0 ∷ []) ∷ [])

abbrev pub again : Moment
again = record flushed { array = again_array }

abbrev pub flush_moments : List Moment
flush_moments = count_out ∷ (data_tried ∷ (data_out ∷ (first_wave ∷ (map_out ∷ (print_out ∷ (second_wave ∷ (flushed ∷ (flushed ∷ (again ∷ [])))))))))

-- the count page is hung, and the map page waits for a barrier alone
abbrev pub waits_for_barrier : Moment
waits_for_barrier = record count_out { world = ordered_by_barrier 2 1 count_out.world }

-- the version switch: the print page is cleared and goes out, and then the first page
abbrev pub clearing : Moment
clearing = record flushed { world = placed 3 (0 ∷ []) flushed.world }

abbrev pub cleared_out : Moment
cleared_out = with_written printed 3 clearing

abbrev pub all_cleared : Moment
all_cleared = with_barrier cleared_out

abbrev pub stamping : Moment
stamping = record all_cleared { world = placed 0 (9 ∷ []) all_cleared.world }

abbrev pub stamped_out : Moment
stamped_out = with_written printed 0 stamping

abbrev pub switched : Moment
switched = with_barrier stamped_out

abbrev pub switch_moments : List Moment
switch_moments = clearing ∷ (cleared_out ∷ (all_cleared ∷ (stamping ∷ (stamped_out ∷ (switched ∷ [])))))
