-- Small states that meet the steps: one block and one data page.
use Rattle.std.specs.Prelude.{Bool, List, None, Some, [], cond, drop, eqb, false, get_or, true, ℕ, ◌&&◌, ◌||◌, ◌∷◌}
use Rattle.order_model.specs.World.{Layout, Release, World}
use Rattle.engine_model.specs.Known.{Known}

-- one block and one data page, with prints
abbrev pub printed : Layout
printed = record {
  blocks = 1;
  pages = 1;
  map_page = λ l. 1;
  count_page = λ p. 2;
  print_page = λ p. 3;
  data_page = λ p. 4;
  name_in = λ c l. get_or c 0 0;
  count_in = λ c p. get_or c 0 0;
  print_in = λ c p. cond (eqb (get_or c 0 0) 1) (Some (drop 1 c)) None;
  well_formed = λ page c. true;
  zero_block = 0 ∷ [];
  finger = λ c. c;
}

-- a new device
abbrev pub empty : World
empty = record {
  newest = λ page. 0 ∷ [];
  older = λ page. [];
  cached = λ page. 0 ∷ [];
  dirty = λ page. false;
  hung = λ page. false;
  live = λ a b. false;
  barred = λ a b. false;
  queue = [];
}

-- nothing is unborn, and the page is free or not
abbrev pub asked : Bool → Known
asked free = record { unborn_name = λ l p. false; unborn_print = λ p. false; free = λ p. free }

-- 7 was written to the block, as page 1
abbrev pub written : World
written = record {
  newest = λ page. 0 ∷ [];
  older = λ page. [];
  cached = λ page. cond (eqb page 1 || eqb page 2) (1 ∷ []) (cond (eqb page 3) (1 ∷ (7 ∷ [])) (cond (eqb page 4) (7 ∷ []) (0 ∷ [])));
  dirty = λ page. (eqb page 1 || eqb page 3) || (eqb page 2 || eqb page 4);
  hung = λ page. false;
  live = λ a b. (eqb a 2 || eqb a 4) && (eqb b 1 || eqb b 3);
  barred = λ a b. false;
  queue = [];
}

abbrev pub empty_array : ℕ → List (List ℕ)
empty_array l = (0 ∷ []) ∷ []

abbrev pub written_array : ℕ → List (List ℕ)
written_array l = cond (eqb l 0) ((0 ∷ []) ∷ ((7 ∷ []) ∷ [])) ((0 ∷ []) ∷ [])

-- the block was discarded in the cache, and its release waits
abbrev pub dropped_release : Release
dropped_release = record { block = 0; page = 1; stage = 0 }

abbrev pub waiting : World
waiting = record {
  newest = λ page. 1 ∷ [];
  older = λ page. [];
  cached = λ page. cond (eqb page 1) (0 ∷ []) (cond (eqb page 3) (1 ∷ (7 ∷ [])) (1 ∷ []));
  dirty = λ page. eqb page 1 || eqb page 3;
  hung = λ page. false;
  live = λ a b. false;
  barred = λ a b. false;
  queue = dropped_release ∷ [];
}

-- the release is applied: the count is 0, the print is gone
abbrev pub applied : World
applied = record {
  newest = λ page. 1 ∷ [];
  older = λ page. [];
  cached = λ page. cond (eqb page 1) (0 ∷ []) (cond (eqb page 2) (0 ∷ []) (cond (eqb page 3) (0 ∷ []) (1 ∷ [])));
  dirty = λ page. (eqb page 1 || eqb page 3) || eqb page 2;
  hung = λ page. false;
  live = λ a b. (eqb a 1 || eqb a 3) && eqb b 2;
  barred = λ a b. false;
  queue = [];
}
