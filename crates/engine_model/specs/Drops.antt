-- A data page whose dirty content is given up.
use Rattle.std.specs.Prelude.{List, false, ℕ, ◌≡◌, ◌≢◌}
use Rattle.order_model.specs.World.{Layout, Possible, World, IsData}
use Rattle.engine_model.specs.Entries.{cached_count}

-- the dirty mark of a data page with count 0 goes, with its edges and its content
pub record Dropped (lay : Layout) (w v : World) (p : ℕ) : Type 0 where
  pub is_data : IsData lay p
  pub no_count : cached_count lay w p ≡ 0
  pub newest : (page : ℕ) → v.newest page ≡ w.newest page
  pub possible : (page : ℕ) (c : List ℕ) → Possible v page c → Possible w page c
  pub hung : (a : ℕ) → v.hung a ≡ w.hung a
  pub queue : v.queue ≡ w.queue
  pub barred : (a b : ℕ) → v.barred a b ≡ w.barred a b
  pub live : (a b : ℕ) → a ≢ lay.data_page p → v.live a b ≡ w.live a b
  pub live_gone : (b : ℕ) → v.live (lay.data_page p) b ≡ false
  pub dirty : (a : ℕ) → a ≢ lay.data_page p → v.dirty a ≡ w.dirty a
  pub dirty_gone : v.dirty (lay.data_page p) ≡ false
  pub cached : (a : ℕ) → a ≢ lay.data_page p → v.cached a ≡ w.cached a
  pub cached_gone : v.cached (lay.data_page p) ≡ w.newest (lay.data_page p)
