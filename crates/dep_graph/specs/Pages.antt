-- Lists of page numbers.
use Rattle.std.specs.Prelude.{◌≡◌, ℕ, ◌<◌, ◌≤◌, List, [], ◌∷◌, Bool, cond, eqb, nat_lt, length, slice_index, Option, Some, None}
use Rattle.std.specs.List.{list_any}
use Rattle.dep_graph.specs.Rising.{Rises}

-- the page is one of them
abbrev pub holds : List ℕ → ℕ → Bool
holds pages a = list_any (λ p. eqb p a) pages

abbrev pub IsRising : List ℕ → Type 0
IsRising pages = Rises (λ a b. a < b) pages

-- the pages with this one where it belongs
unfoldable pub placed : ℕ → List ℕ → List ℕ
placed page [] = page ∷ []
placed page (p ∷ ps) = cond (nat_lt p page) (p ∷ placed page ps) (cond (eqb p page) (p ∷ ps) (page ∷ p ∷ ps))

-- where a page stands among them, or would stand: the pages before it are below it, and the others are not
pub record IsPlace (pages : List ℕ) (page k : ℕ) : Type 0 where
  pub within : k ≤ length pages
  pub below : (j : ℕ) → j < k → slice_index pages j < page
  pub above : (j : ℕ) → k ≤ j → j < length pages → page ≤ slice_index pages j

-- the page stands there
pub record IsAt (pages : List ℕ) (page k : ℕ) : Type 0 where
  pub within : k < length pages
  pub is : slice_index pages k ≡ page

-- the least page at or above a number of which this holds, if there is one
abbrev pub IsLeast : (ℕ → Type 0) → ℕ → Option ℕ → Type 0
IsLeast P from (Some page) = P page × (from ≤ page) × ((a : ℕ) → P a → from ≤ a → page ≤ a)
IsLeast P from None = (a : ℕ) → P a → a < from
