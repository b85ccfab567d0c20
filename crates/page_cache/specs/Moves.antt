-- What moves between the table and the list make of the pages that are there.
use Rattle.std.specs.Prelude.{◌≡◌, ◌⊎◌, eqb, ℕ, ◌<◌, ◌≤◌, ◌&&◌, ◌||◌, not, Bool, true, false, cond, List, ◌∷◌, ◌++◌, take, reverse, length, None}
use Rattle.std.specs.List.{IsDistinct}
use Rattle.page_cache.specs.declared.entries.Entry.{Entry}
use Rattle.page_cache.specs.Entries.{entry_at, is_used_at}
use Rattle.page_cache.specs.Recent.{RecentView, has, IsRising}

-- the pages that the list dropped are there no longer, and all others keep their entries
pub record Drops (es : List (ℕ × Entry)) (xs : List ℕ) (es' : List (ℕ × Entry)) (xs' : List ℕ) : Type 0 where
  pub each : (q : ℕ) → entry_at es' q ≡ cond (has xs q && not (has xs' q)) None (entry_at es q)

-- a page that stands in no table has gone to the front of the list, or is there no longer
pub record Moves (asks : Bool) (es : List (ℕ × Entry)) (r : RecentView) (page : ℕ) (es' : List (ℕ × Entry)) (r' : RecentView) : Type 0 where
  pub each : (q : ℕ) → entry_at es' q ≡ cond (has r'.pages q || not (has r.pages q || eqb q page)) (entry_at es q) None
  pub recent : ((asks ≡ true) × (r'.pages ≡ take r.limit (page ∷ r.pages))) ⊎ (r'.pages ≡ r.pages)
  pub others : (q : ℕ) → has r'.pages q ≡ true → (eqb q page || has r.pages q) ≡ true
  pub limit : r'.limit ≡ r.limit

-- a page is there still where it is held or dirty, stands in the list, or is one of these
abbrev pub stays_at : List (ℕ × Entry) → List ℕ → List ℕ → ℕ → Bool
stays_at es xs rest q = is_used_at es q || (has xs q || has rest q)

-- Of pages that were written some have been looked at, and these are left. Those that are in no use went to the front of the list one after another, or were let go.
pub record Settles (es : List (ℕ × Entry)) (r : RecentView) (written rest : List ℕ) (es' : List (ℕ × Entry)) (r' : RecentView) : Type 0 where
  pub each : (q : ℕ) → entry_at es' q ≡ cond (stays_at es r'.pages rest q) (entry_at es q) None
  pub apart : (q : ℕ) → has r'.pages q ≡ true → (is_used_at es q ≡ false) × (has rest q ≡ false)
  pub others : (q : ℕ) → has r'.pages q ≡ true → (has written q || has r.pages q) ≡ true
  pub moved : List ℕ
  pub rising : IsRising moved
  pub freed : (q : ℕ) → has moved q ≡ true → (is_used_at es q ≡ false) × (has written q ≡ true)
  pub recent : r'.pages ≡ take r.limit (reverse moved ++ r.pages)
  pub limit : r'.limit ≡ r.limit
  pub len : length es' ≤ length es

-- and those that are left rise where memory is asked for, and each of those that moved is below them
pub record SettlesSoFar (asks : Bool) (es : List (ℕ × Entry)) (r : RecentView) (written rest : List ℕ) (es' : List (ℕ × Entry)) (r' : RecentView) : Type 0 where
  pub settles : Settles es r written rest es' r'
  pub below : (a b : ℕ) → has settles.moved a ≡ true → has rest b ≡ true → a < b
  pub rising : asks ≡ true → IsRising rest
  pub distinct : IsDistinct eqb rest
  pub among : (q : ℕ) → has rest q ≡ true → has written q ≡ true
