-- The plain state that the laws speak of: no code, and no format of pages. Pages and blocks are numbers, contents are lists of bytes, and what is asked of a page is a function.
use Rattle.std.specs.Prelude.{Bool, List, Option, [], cond, eqb, ℕ, ◌+◌, ◌<◌, ◌∷◌, ◌≡◌, ◌≤◌, ◌⊎◌}
use Rattle.order_model.specs.Contents.{IsAmong}

-- where the entries of the tables stand, and how one is read from a page's content
pub record Layout : Type 0 where
  pub blocks : ℕ
  pub pages : ℕ
  pub map_page : ℕ → ℕ
  pub count_page : ℕ → ℕ
  pub print_page : ℕ → ℕ
  pub data_page : ℕ → ℕ
  pub name_in : List ℕ → ℕ → ℕ
  pub count_in : List ℕ → ℕ → ℕ
  pub print_in : List ℕ → ℕ → Option (List ℕ)
  -- a table page's content has only entries of the format
  pub well_formed : ℕ → List ℕ → Bool
  -- a block of zeros, and a block's fingerprint
  pub zero_block : List ℕ
  pub finger : List ℕ → List ℕ

-- p is a data page's number
abbrev pub IsData : Layout → ℕ → Type 0
IsData lay p = (0 < p) × (p ≤ lay.pages)

-- A decrement that is owed to a data page, since a block dropped its name. At stage 0 the map page was not written since, at stage 1 it was written,
-- at stage 2 a barrier came after, and at stage 3 the name was unborn when it was dropped.
pub record Release : Type 0 where
  pub block : ℕ
  pub page : ℕ
  pub stage : ℕ

-- The device, the cache, the marks, the edges and the queue. A dirty page was edited since its last successful write, a hung one was written and is not covered by a barrier.
-- An edge from a to b holds back the write of b: a Live one until a is written and a barrier comes after, a Barrier edge (barred) until a barrier comes.
pub record World : Type 0 where
  -- of each page what a read gives, and what a crash may leave in its place
  pub newest : ℕ → List ℕ
  pub older : ℕ → List (List ℕ)
  pub cached : ℕ → List ℕ
  pub dirty : ℕ → Bool
  pub hung : ℕ → Bool
  pub live : ℕ → ℕ → Bool
  pub barred : ℕ → ℕ → Bool
  pub queue : List Release

-- the same at each place
abbrev pub Agree : {A : Type 0} → (ℕ → A) → (ℕ → A) → Type 0
Agree f g = (k : ℕ) → f k ≡ g k

-- a crash may leave c at this page
abbrev pub Possible : World → ℕ → List ℕ → Type 0
Possible w page c = (c ≡ w.newest page) ⊎ IsAmong c (w.older page)

-- the release of p by l is queued at this stage
abbrev pub Queued : List Release → ℕ → ℕ → ℕ → Type 0
Queued [] l p stage = ⊥
Queued (r ∷ rs) l p stage = ((r.block ≡ l) × (r.page ≡ p) × (r.stage ≡ stage)) ⊎ Queued rs l p stage

-- how many releases of p are queued
abbrev pub queued : List Release → ℕ → ℕ
queued [] p = 0
queued (r ∷ rs) p = cond (eqb r.page p) 1 0 + queued rs p
