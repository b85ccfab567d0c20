-- The blocks that may come to name a page, as a test, so that they can be counted.
use Rattle.std.specs.Prelude.{Bool, List, [], eqb, false, not, ℕ, ◌&&◌, ◌||◌, ◌∷◌}
use Rattle.order_model.specs.World.{Layout, World}
use Rattle.engine_model.specs.Entries.{cached_name}

-- one of these contents names p at l
abbrev pub some_names : Layout → List (List ℕ) → ℕ → ℕ → Bool
some_names lay [] p l = false
some_names lay (c ∷ cs) p l = eqb (lay.name_in c l) p || some_names lay cs p l

abbrev pub is_covered : Layout → World → ℕ → ℕ → Bool
is_covered lay w p l =
    some_names lay (w.newest (lay.map_page l) ∷ w.older (lay.map_page l)) p l
    || (eqb (cached_name lay w l) p && (not (w.live (lay.count_page p) (lay.map_page l)) && not (w.barred (lay.count_page p) (lay.map_page l))))
