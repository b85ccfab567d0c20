-- A queue as contracts see it.
use Rattle.std.specs.Prelude.{◌≡◌, ℕ, zero, suc, ◌<◌, ◌≤◌, ◌^◌, ◌&&◌, ◌||◌, List, [], ◌∷◌, Bool, true, false, cond, eqb, length}
use Rattle.std.specs.List.{All}
use Rattle.release_queue.specs.declared.Release.{Release}
use Rattle.release_queue.specs.declared.TheConstants.{NOT_WRITTEN, WRITTEN, FIXED, UNBORN}

-- the releases, the first pushed first, and how many there may be
pub record QueueLists : Type 0 where
  pub releases : List Release
  pub limit : ℕ

-- what holds of every queue
pub record IsQueue (q : QueueLists) : Type 0 where
  pub within : length q.releases ≤ q.limit
  pub stages : All (λ r. r.stage ≤ UNBORN) q.releases
  pub small : q.limit < 2 ^ 32

-- a written map page moves its releases on, where it had not been written
abbrev pub after_write : ℕ → Release → Release
after_write page r = record r { stage = cond (eqb r.map_at page && eqb r.stage NOT_WRITTEN) WRITTEN r.stage }

-- a barrier fixes the map pages that were written
abbrev pub after_barrier : Release → Release
after_barrier r = record r { stage = cond (eqb r.stage WRITTEN) FIXED r.stage }

-- a release that is pushed is to be looked at
abbrev pub pushed : Release → Release
pushed r = record r { look = true }

-- a count page was written: each of its releases is to be looked at
abbrev pub after_count_write : ℕ → Release → Release
after_count_write page r = record r { look = r.look || eqb r.count_at page }

-- the count or the print of a data page changed: each of its releases is to be looked at
abbrev pub after_change : ℕ → Release → Release
after_change p r = record r { look = r.look || eqb r.page p }

-- the release at this place is to be looked at
unfoldable pub is_marked : List Release → ℕ → Bool
is_marked [] i = false
is_marked (r ∷ rs) zero = r.look
is_marked (r ∷ rs) (suc i) = is_marked rs i

-- it was looked at
unfoldable pub unmarked : ℕ → List Release → List Release
unmarked i [] = []
unmarked zero (r ∷ rs) = record r { look = false } ∷ rs
unmarked (suc i) (r ∷ rs) = r ∷ unmarked i rs

-- no release before this place is to be looked at
abbrev pub IsLook : List Release → ℕ → Type 0
IsLook rs first = (k : ℕ) → is_marked rs k ≡ true → first ≤ k
