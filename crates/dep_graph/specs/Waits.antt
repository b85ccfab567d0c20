-- Pages, each with the number of edges that lead to it.
use Rattle.std.specs.Prelude.{◌≡◌, ℕ, ◌&&◌, List, [], ◌∷◌, eqb, length, if◌then◌else◌}
use Rattle.dep_graph.specs.Pages.{holds, IsRising}

-- the number beside a page, or 0 where it is not there
unfoldable pub count_at : List ℕ → List ℕ → ℕ → ℕ
count_at [] counts a = 0
count_at (p ∷ pages) [] a = 0
count_at (p ∷ pages) (n ∷ counts) a = if eqb p a then n else count_at pages counts a

-- pages in rising order and their numbers, and for how many pages there is room
pub record Waits : Type 0 where
  pub pages : List ℕ
  pub counts : List ℕ
  pub room : ℕ

abbrev pub waits_for : Waits → ℕ → ℕ
waits_for w a = count_at w.pages w.counts a

-- a number for each page, and the pages whose number is 0
pub record IsWaiting (pages counts ready : List ℕ) : Type 0 where
  pub rising : IsRising pages
  pub ready_rising : IsRising ready
  pub each : length counts ≡ length pages
  pub none_waits : (a : ℕ) → holds ready a ≡ (holds pages a && eqb (count_at pages counts a) 0)
