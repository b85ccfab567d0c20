-- What a search along edges has reached.
use Rattle.std.specs.Prelude.{◌≡◌, ℕ, ◌<◌, suc, List, [], ◌∷◌, Bool, true, false, map, length, slice_index, slice_index_or}
use Rattle.dep_graph.specs.declared.pairs.Pair.{Pair}
use Rattle.dep_graph.specs.Pages.{holds}
use Rattle.dep_graph.specs.Pairs.{has_pair}

-- the places that were reached, in their order, and how many places there are
pub record Trail : Type 0 where
  pub reached : List ℕ
  pub room : ℕ

-- how many are marked
unfoldable pub marked_count : List Bool → ℕ
marked_count [] = 0
marked_count (true ∷ marks) = suc (marked_count marks)
marked_count (false ∷ marks) = marked_count marks

-- the marked places are those in the queue, each once
pub record IsMarked (marks : List Bool) (queue : List ℕ) : Type 0 where
  pub mark : (k : ℕ) → slice_index_or marks k false ≡ holds queue k
  pub once : marked_count marks ≡ length queue

-- the page at one of the places is this one
abbrev pub seen : List ℕ → List ℕ → ℕ → Bool
seen pages reached x = holds (map (λ k. slice_index pages k) reached) x

-- each place is that of a page
abbrev pub AreWithin : List ℕ → ℕ → Type 0
AreWithin reached n = (k : ℕ) → k < length reached → slice_index reached k < n

-- each edge from a page that was reached leads to one that was
abbrev pub IsClosed : List Pair → List ℕ → List ℕ → Type 0
IsClosed live pages reached = (a b : ℕ) → seen pages reached a ≡ true → has_pair live a b ≡ true → seen pages reached b ≡ true

-- no place was reached twice
abbrev pub AreApart : List ℕ → Type 0
AreApart reached = (i j : ℕ) → i < j → j < length reached → slice_index reached i ≡ slice_index reached j → ⊥
