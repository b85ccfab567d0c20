-- What a pool of data pages knows of their counts.
use Rattle.std.specs.Prelude.{List, false, true, ℕ, ◌<◌, ◌≡◌}
use Rattle.order_model.specs.Pool.{Told}
use Rattle.order_model.specs.World.{Layout, Possible, World}
use Rattle.engine_model.specs.Entries.{cached_count, newest_count}

pub record PoolKnows (lay : Layout) (w : World) (told : Told) (p : ℕ) : Type 0 where
  pub zero : told.zero ≡ true → cached_count lay w p ≡ 0
  pub above : cached_count lay w p ≡ 0 → told.zero ≡ true
  pub possible : told.tried ≡ false → (c : List ℕ) → Possible w (lay.count_page p) c → lay.count_in c p ≡ 0
  pub newest : told.newest ≡ false → newest_count lay w p ≡ 0

-- and the other way round: what the pool was told is no more than what the device has, as long as no write of a count page failed
pub record PoolExact (lay : Layout) (w : World) (told : Told) (p : ℕ) : Type 0 where
  pub possible : told.tried ≡ true → (c : List ℕ) × Possible w (lay.count_page p) c × (0 < lay.count_in c p)
  pub newest : told.newest ≡ true → 0 < newest_count lay w p

-- every content that was possible is so
abbrev pub PossibleStays : World → World → Type 0
PossibleStays w v = (page : ℕ) (c : List ℕ) → Possible w page c → Possible v page c
