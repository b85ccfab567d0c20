-- Small states that meet the premises of the laws of a pass, and one that shows what a dropped page needs.
use Rattle.std.specs.Prelude.{[], ◌∷◌, ◌&&◌, ◌||◌, eqb}
use Rattle.order_model.specs.World.{World}
use Rattle.engine_model.specs.Examples.{dropped_release, empty, printed, waiting, written}
use Rattle.engine_model.specs.Invariant.{Moment}
use Rattle.order_model.specs.Pool.{after_zeroed}
use Rattle.engine_model.specs.Session.{discarded, mounted, unborn_release, wrote}
use Rattle.engine_model.specs.SmallRuns.{in_state, with_barrier, with_print, with_release_out, with_written}
use Rattle.engine_model.specs.SmallSteps.{given_up, touched}
use Rattle.engine_model.specs.SmallPass.{print_readied, readied}

-- an unborn name is released and an unborn print goes, and the content is given up
abbrev pub unborn_readied : Moment
unborn_readied = in_state (readied printed unborn_release discarded.world) discarded

abbrev pub unborn_cleared : Moment
unborn_cleared = with_print printed 1 (0 ∷ []) 1 0 (in_state (touched 3 unborn_readied.world) unborn_readied)

abbrev pub unborn_out : Moment
unborn_out = with_release_out printed 1 (0 ∷ []) [] (after_zeroed 1 discarded.pool) unborn_cleared

abbrev pub all_gone : Moment
all_gone = in_state (given_up 4 unborn_out.world) unborn_out

-- the last print goes under its edge
abbrev pub late : Moment
late = in_state waiting mounted

abbrev pub late_readied : Moment
late_readied = in_state (readied printed dropped_release late.world) late

abbrev pub late_cleared : Moment
late_cleared = with_print printed 1 (0 ∷ []) 1 0 (in_state (print_readied printed 1 late_readied.world) late_readied)

abbrev pub late_out : Moment
late_out = with_release_out printed 1 (0 ∷ []) [] (after_zeroed 1 late.pool) late_cleared

-- the count page waits to go before the map page, so a release of what the block held before stays
abbrev pub stuck : Moment
stuck = in_state (record written { queue = dropped_release ∷ [] }) wrote

-- the data page goes out, and a barrier comes: the release is as blocked as it was
abbrev pub stuck_later : Moment
stuck_later = with_barrier (with_written printed 4 stuck)

-- an edge leads to a data page, as none does in a store: 2 before 4 before 1
abbrev pub crossed : World
crossed = record empty { live = λ a b. (eqb a 2 && eqb b 4) || (eqb a 4 && eqb b 1) }

-- Map pages 1 and 2, count pages 3 and 4: the second count page goes before the first map page, and the first before the second.
abbrev pub two_ways : World
two_ways = record empty { live = λ a b. (eqb a 4 && eqb b 1) || (eqb a 3 && eqb b 2) }
