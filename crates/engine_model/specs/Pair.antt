-- Two blocks and two data pages of equal content: a fold gives the second block the first page, and a copy gives a block the name of the other's page.
use Rattle.std.specs.Prelude.{◌-◌, ◌+◌, [], ◌∷◌, true, false, cond, ◌&&◌, ◌||◌, Some, None, eqb, get_or}
use Rattle.order_model.specs.World.{Layout, Release, World}

-- the map is page 1, the counts are page 2, the prints page 3, the data pages 4 and 5
abbrev pub pair : Layout
pair = record {
  blocks = 2;
  pages = 2;
  map_page = λ l. 1;
  count_page = λ p. 2;
  print_page = λ p. 3;
  data_page = λ p. 3 + p;
  name_in = λ c l. get_or c l 0;
  count_in = λ c p. get_or c (p - 1) 0;
  print_in = λ c p. cond (eqb (get_or c (p - 1) 0) 1) (Some (7 ∷ [])) None;
  well_formed = λ page c. true;
  zero_block = 0 ∷ [];
  finger = λ c. c;
}

-- each block has a page of its own, and both hold 7
abbrev pub equal_pages : World
equal_pages = record {
  newest = λ page. cond (eqb page 1) (1 ∷ (2 ∷ [])) (cond (eqb page 2 || eqb page 3) (1 ∷ (1 ∷ [])) (7 ∷ []));
  older = λ page. [];
  cached = λ page. cond (eqb page 1) (1 ∷ (2 ∷ [])) (cond (eqb page 2 || eqb page 3) (1 ∷ (1 ∷ [])) (7 ∷ []));
  dirty = λ page. false;
  hung = λ page. false;
  live = λ a b. false;
  barred = λ a b. false;
  queue = [];
}

-- the second block names the first page, and its own page is owed a release
abbrev pub second_release : Release
second_release = record { block = 1; page = 2; stage = 0 }

abbrev pub folded : World
folded = record {
  newest = λ page. cond (eqb page 1) (1 ∷ (2 ∷ [])) (cond (eqb page 2 || eqb page 3) (1 ∷ (1 ∷ [])) (7 ∷ []));
  older = λ page. [];
  cached = λ page. cond (eqb page 1) (1 ∷ (1 ∷ [])) (cond (eqb page 2) (2 ∷ (1 ∷ [])) (cond (eqb page 3) (1 ∷ (1 ∷ [])) (7 ∷ [])));
  dirty = λ page. eqb page 1 || eqb page 2;
  hung = λ page. false;
  live = λ a b. eqb a 2 && eqb b 1;
  barred = λ a b. false;
  queue = second_release ∷ [];
}
