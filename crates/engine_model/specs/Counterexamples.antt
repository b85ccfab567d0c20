-- The contents' part of the invariant without two facts, and two states that show why they are needed.
use Rattle.std.specs.Prelude.{Bool, List, None, Some, [], cond, eqb, false, get_or, true, ℕ, ◌<◌, ◌||◌, ◌∷◌, ◌≡◌}
use Rattle.order_model.specs.World.{Layout, Possible, World, IsData}
use Rattle.engine_model.specs.Entries.{HasEdge, MayName, MayPrint, cached_count, cached_name, cached_print}
use Rattle.engine_model.specs.Contents.{PrintsTrue, Reads, WellFormed}

pub record WeakOrdered (lay : Layout) (w : World) (p : ℕ) : Type 0 where
  pub name_dirty : (l : ℕ) → l < lay.blocks → cached_name lay w l ≡ p → w.dirty (lay.data_page p) ≡ true
      → w.live (lay.data_page p) (lay.map_page l) ≡ true
  pub name_hung : (l : ℕ) → l < lay.blocks → cached_name lay w l ≡ p → w.hung (lay.data_page p) ≡ true
      → HasEdge w (lay.data_page p) (lay.map_page l)
  pub print_dirty : (print : List ℕ) → cached_print lay w p ≡ Some print → w.dirty (lay.data_page p) ≡ true
      → w.live (lay.data_page p) (lay.print_page p) ≡ true
  pub print_hung : (print : List ℕ) → cached_print lay w p ≡ Some print → w.hung (lay.data_page p) ≡ true
      → HasEdge w (lay.data_page p) (lay.print_page p)
  pub settled : (c : List ℕ) → 0 < cached_count lay w p → w.dirty (lay.data_page p) ≡ false → w.hung (lay.data_page p) ≡ false
      → Possible w (lay.data_page p) c → c ≡ w.newest (lay.data_page p)

pub record WeakStands (lay : Layout) (w : World) (p : ℕ) : Type 0 where
  pub named : (l : ℕ) → l < lay.blocks → MayName lay w p l → (c : List ℕ) → Possible w (lay.data_page p) c
      → c ≡ w.newest (lay.data_page p)
  pub printed : (print : List ℕ) → MayPrint lay w p print → (c : List ℕ) → Possible w (lay.data_page p) c
      → c ≡ w.newest (lay.data_page p)

pub record WeakContents (lay : Layout) (sound : Bool) (array : ℕ → List (List ℕ)) (w : World) : Type 0 where
  pub fresh_data_first : (p : ℕ) → IsData lay p → WeakOrdered lay w p
  pub named_data_fixed : (p : ℕ) → IsData lay p → WeakStands lay w p
  pub reads : (l : ℕ) → l < lay.blocks → Reads lay w array l
  pub prints_true : sound ≡ true → (p : ℕ) → IsData lay p → PrintsTrue lay w p
  pub well_formed : WellFormed lay w

-- one block and one data page: the map is page 1, the count page 2, the print page 3, the data page 4
abbrev pub small : Layout
small = record {
  blocks = 1;
  pages = 1;
  map_page = λ l. 1;
  count_page = λ p. 2;
  print_page = λ p. 3;
  data_page = λ p. 4;
  name_in = λ c l. get_or c 0 0;
  count_in = λ c p. get_or c 0 0;
  print_in = λ c p. None;
  well_formed = λ page c. true;
  zero_block = 0 ∷ [];
  finger = λ c. c;
}

-- The block was discarded in the cache, its release waits; the device still maps it to page 1; and page 1 has got new content, 2, not yet written.
abbrev pub overwritten : World
overwritten = record {
  newest = λ page. 1 ∷ [];
  older = λ page. [];
  cached = λ page. cond (eqb page 1) (0 ∷ []) (cond (eqb page 4) (2 ∷ []) (1 ∷ []));
  dirty = λ page. eqb page 1 || eqb page 4;
  hung = λ page. false;
  live = λ a b. false;
  barred = λ a b. false;
  queue = (record { block = 0; page = 1; stage = 0 }) ∷ [];
}

-- the write of page 4 is done
abbrev pub after_overwrite : World
after_overwrite = record {
  newest = λ page. cond (eqb page 4) (2 ∷ []) (1 ∷ []);
  older = λ page. cond (eqb page 4) ((1 ∷ []) ∷ []) [];
  cached = λ page. cond (eqb page 1) (0 ∷ []) (cond (eqb page 4) (2 ∷ []) (1 ∷ []));
  dirty = λ page. eqb page 1;
  hung = λ page. eqb page 4;
  live = λ a b. false;
  barred = λ a b. false;
  queue = (record { block = 0; page = 1; stage = 0 }) ∷ [];
}

-- the block's contents: 1 was flushed, then it was discarded
abbrev pub discarded_array : ℕ → List (List ℕ)
discarded_array l = (1 ∷ []) ∷ ((0 ∷ []) ∷ [])

abbrev pub torn_image : ℕ → List ℕ
torn_image page = cond (eqb page 4) (2 ∷ []) (1 ∷ [])

-- nothing is dirty or hung, and the cache has another content of page 4 than the device
abbrev pub stale : World
stale = record {
  newest = λ page. 1 ∷ [];
  older = λ page. [];
  cached = λ page. cond (eqb page 4) (2 ∷ []) (1 ∷ []);
  dirty = λ page. false;
  hung = λ page. false;
  live = λ a b. false;
  barred = λ a b. false;
  queue = [];
}

abbrev pub stale_array : ℕ → List (List ℕ)
stale_array l = (1 ∷ []) ∷ ((2 ∷ []) ∷ [])

abbrev pub stale_flushed : ℕ → List (List ℕ)
stale_flushed l = (2 ∷ []) ∷ []
