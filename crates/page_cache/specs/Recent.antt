-- The list of the pages that stand in no table.
use Rattle.std.specs.Prelude.{◌≡◌, ℕ, ◌<◌, ◌≤◌, Bool, true, false, cond, eqb, List, [], ◌∷◌, length, Option, Some, None}
use Rattle.std.specs.List.{IsDistinct, list_any}
use Rattle.std.specs.Set.{remove_key}
use Rattle.page_cache.specs.declared.cache.TheConstants.{LEAST_SIZE, MOST_SIZE}

-- the page is one of them
abbrev pub has : List ℕ → ℕ → Bool
has pages q = list_any (eqb q) pages

-- all but this one
abbrev pub without : ℕ → List ℕ → List ℕ
without page pages = remove_key (eqb page) pages

-- a page that is one of them comes to the front
abbrev pub used : ℕ → List ℕ → List ℕ
used page pages = cond (has pages page) (page ∷ without page pages) pages

-- this one, if there is one
abbrev pub is_it : Option ℕ → ℕ → Bool
is_it None q = false
is_it (Some p) q = eqb q p

-- each is below those behind it
unfoldable pub IsRising : List ℕ → Type 0
IsRising [] = Unit {0}
IsRising (p ∷ ps) = ((q : ℕ) → has ps q ≡ true → p < q) × IsRising ps

-- how many pages a list may be for
pub record IsSize (limit : ℕ) : Type 0 where
  pub least : LEAST_SIZE ≤ limit
  pub most : limit ≤ MOST_SIZE

-- the pages, the last used first, and how many there may be
pub record RecentView : Type 0 where
  pub pages : List ℕ
  pub limit : ℕ

-- what holds of every list
pub record IsRecent (r : RecentView) : Type 0 where
  pub distinct : IsDistinct eqb r.pages
  pub few : length r.pages ≤ r.limit
  pub size : IsSize r.limit
