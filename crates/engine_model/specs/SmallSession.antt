-- The session in small by small steps: a block is written to the fresh page and discarded, and the page's print is cleared and its count lowered, with no write of a page between.
use Rattle.std.specs.Prelude.{List, [], ◌∷◌}
use Rattle.order_model.specs.Calls.{Change}
use Rattle.order_model.specs.declared.Slot.TheVariants.{Name, Print}
use Rattle.order_model.specs.Pool.{after_take, after_zeroed}
use Rattle.engine_model.specs.Invariant.{Moment, known_at}
use Rattle.engine_model.specs.SmallSteps.{given_up, lowered, named, ordered, placed, put, touched}
use Rattle.engine_model.specs.Examples.{printed, written_array}
use Rattle.engine_model.specs.Session.{mounted, twice_array}

-- the data page gets its content, and the table pages are dirty
abbrev pub content_placed : Moment
content_placed = record mounted { world = placed 4 (7 ∷ []) mounted.world }

abbrev pub map_touched : Moment
map_touched = record content_placed { world = touched 1 content_placed.world }

abbrev pub count_touched : Moment
count_touched = record map_touched { world = touched 2 map_touched.world }

abbrev pub print_touched : Moment
print_touched = record count_touched { world = touched 3 count_touched.world }

-- the count is raised
abbrev pub count_raised : Moment
count_raised = record print_touched { world = put 2 (1 ∷ []) print_touched.world; pool = after_take 1 print_touched.pool }

-- the data page and the count page go before the map page and the print page
abbrev pub data_before_map : Moment
data_before_map = record count_raised { world = ordered 4 1 count_raised.world }

abbrev pub count_before_map : Moment
count_before_map = record data_before_map { world = ordered 2 1 data_before_map.world }

abbrev pub data_before_print : Moment
data_before_print = record count_before_map { world = ordered 4 3 count_before_map.world }

abbrev pub count_before_print : Moment
count_before_print = record data_before_print { world = ordered 2 3 data_before_print.world }

-- the print and the name are set
abbrev pub print_set : Moment
print_set = record count_before_print { world = put 3 (1 ∷ (7 ∷ [])) count_before_print.world; calls = Change (Print 1) 3 0 1 ∷ count_before_print.calls }

abbrev pub name_set : Moment
name_set = record print_set { world = named (known_at printed print_set) 1 (1 ∷ []) 0 0 print_set.world; array = written_array; calls = Change (Name 0) 1 0 1 ∷ print_set.calls }

-- the name is taken away: it is unborn, and so is the print
abbrev pub name_gone : Moment
name_gone = record name_set { world = named (known_at printed name_set) 1 (0 ∷ []) 0 1 name_set.world; array = twice_array; calls = Change (Name 0) 1 1 0 ∷ name_set.calls }

abbrev pub print_cleared : Moment
print_cleared = record name_gone { world = put 3 (0 ∷ []) name_gone.world; calls = Change (Print 1) 3 1 0 ∷ name_gone.calls }

abbrev pub count_lowered : Moment
count_lowered = record print_cleared { world = lowered 2 (0 ∷ []) [] print_cleared.world; pool = after_zeroed 1 print_cleared.pool }

-- a count is raised and left as waste, which goes; and the data page is given up
abbrev pub count_wasted : Moment
count_wasted = record count_lowered { world = put 2 (1 ∷ []) count_lowered.world; pool = after_take 1 count_lowered.pool }

abbrev pub waste_gone : Moment
waste_gone = record count_wasted { world = put 2 (0 ∷ []) count_wasted.world; pool = after_zeroed 1 count_wasted.pool }

abbrev pub content_given_up : Moment
content_given_up = record waste_gone { world = given_up 4 waste_gone.world }

abbrev pub small_moments : List Moment
small_moments =
    content_placed ∷ (map_touched ∷ (count_touched ∷ (print_touched ∷ (count_raised ∷ (data_before_map ∷ (count_before_map ∷ (data_before_print ∷ (count_before_print
    ∷ (print_set ∷ (name_set ∷ (name_gone ∷ (print_cleared ∷ (count_lowered
    ∷ (count_wasted ∷ (waste_gone ∷ (content_given_up ∷ []))))))))))))))))
