-- A cache as contracts see it.
use Rattle.std.specs.Prelude.{◌≡◌, ℕ, ◌||◌, ◌≤◌, List, Bool, true, false, length, Option, is_some, nat_lt, eqb}
use Rattle.std.specs.List.{IsDistinct}
use Rattle.page_device.specs.Block.{Block}
use Rattle.page_cache.specs.declared.entries.Entry.{Entry}
use Rattle.page_cache.specs.Entries.{content_at, holds_at, dirty_at}
use Rattle.page_cache.specs.Recent.{has, IsSize}

-- the pages that are there, those that were written since the last barrier, those that stand in no table with the last used first, how many these may be, and the calls of the device so far
pub record CacheView : Type 0 where
  pub pages : List (ℕ × Entry)
  pub written : List ℕ
  pub recent : List ℕ
  pub limit : ℕ
  pub calls : ℕ

-- the content of a page that is there, wherever it stands
abbrev pub content_in : CacheView → ℕ → Option Block
content_in c q = content_at c.pages q

-- how often it is held
abbrev pub holds_in : CacheView → ℕ → ℕ
holds_in c q = holds_at c.pages q

-- it was edited since its last write
abbrev pub dirty_in : CacheView → ℕ → Bool
dirty_in c q = dirty_at c.pages q

-- it was written since the last barrier, and not taken out since
abbrev pub written_in : CacheView → ℕ → Bool
written_in c q = has c.written q

-- it stands in the list
abbrev pub is_recent : CacheView → ℕ → Bool
is_recent c q = has c.recent q

-- it stands in the table
abbrev pub in_table : CacheView → ℕ → Bool
in_table c q = nat_lt 0 (holds_in c q) || (dirty_in c q || written_in c q)

abbrev pub is_there : CacheView → ℕ → Bool
is_there c q = is_some (content_in c q)

-- What holds of every cache: a page is there where it stands in the table or in the list, and it never stands in both. The list is short, with each page once.
pub record IsWhole (c : CacheView) : Type 0 where
  pub there : (q : ℕ) → is_there c q ≡ (in_table c q || is_recent c q)
  pub apart : (q : ℕ) → is_recent c q ≡ true → in_table c q ≡ false
  pub distinct : IsDistinct eqb c.recent
  pub few : length c.recent ≤ c.limit
  pub size : IsSize c.limit
