-- What a cache keeps.
use Rattle.std.specs.Prelude.{◌≡◌, ℕ, ◌≤◌, ◌+◌, ◌||◌, true, false, length}
use Rattle.page_cache.specs.View.{CacheView, in_table, is_recent, is_there}

-- a page that is there stands in the table or in the list, and there is room to note each page that is there as written
pub record IsKept (c : CacheView) (spare : ℕ) : Type 0 where
  pub there : (q : ℕ) → is_there c q ≡ (in_table c q || is_recent c q)
  pub apart : (q : ℕ) → is_recent c q ≡ true → in_table c q ≡ false
  pub room : length c.pages ≤ length c.written + spare
