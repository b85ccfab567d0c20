-- What the vectors of a graph keep.
use Rattle.std.specs.Prelude.{◌≡◌, ℕ, ◌+◌, ◌<◌, ◌≤◌, ◌^◌, List, true, not, filter, length}
use Rattle.dep_graph.specs.declared.pairs.Pair.{Pair}
use Rattle.dep_graph.specs.Pages.{holds, IsRising}
use Rattle.dep_graph.specs.Pairs.{has_pair, ends_at, AreRising}
use Rattle.order_model.specs.Paths.{IsAcyclic}
use Rattle.dep_graph.specs.Waits.{Waits, waits_for}

-- the hung pages that are not dirty
abbrev pub hung_alone : List ℕ → List ℕ → List ℕ
hung_alone dirty hung = filter (λ a. not (holds dirty a)) hung

pub record IsKept (dirty : Waits) (hung : List ℕ) (hung_only : ℕ) (live barred : List Pair) : Type 0 where
  pub dirty_rising : IsRising dirty.pages
  pub hung_rising : IsRising hung
  pub live_rising : AreRising live
  pub barred_rising : AreRising barred
  pub alone : hung_only ≡ length (hung_alone dirty.pages hung)
  pub counts : (b : ℕ) → waits_for dirty b ≡ ends_at live b + ends_at barred b
  pub live_ends : (a b : ℕ) → has_pair live a b ≡ true → (holds dirty.pages a ≡ true) × (holds dirty.pages b ≡ true)
  pub barred_ends : (a b : ℕ) → has_pair barred a b ≡ true → (holds hung a ≡ true) × (holds dirty.pages b ≡ true)
  pub acyclic : IsAcyclic (has_pair live)

-- room for so many nodes in each vector of pages, and for so many edges in each of pairs
pub record HasRoom (nodes edges dirty_room hung_room live_room barred_room search_room left_room level_room : ℕ) : Type 0 where
  pub dirty : nodes ≤ dirty_room
  pub hung : nodes ≤ hung_room
  pub live : edges ≤ live_room
  pub barred : edges ≤ barred_room
  pub search_fits : nodes ≤ search_room
  pub left_fits : nodes ≤ left_room
  pub level_fits : nodes ≤ level_room
  pub few_nodes : nodes < 2 ^ 31
  pub few_places : search_room < 2 ^ 31
  pub few_edges : edges < 2 ^ 32
