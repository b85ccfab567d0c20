-- What the store asks birth_marks and the pool, and what each answer has to mean.
use Rattle.std.specs.Prelude.{Bool, List, true, ℕ, ◌<◌, ◌≡◌}
use Rattle.order_model.specs.World.{Layout, Possible, World, IsData}
use Rattle.engine_model.specs.Entries.{MayName, MayPrint, cached_count}

-- the answers of this moment
pub record Known : Type 0 where
  -- of a block and the page that it names
  pub unborn_name : ℕ → ℕ → Bool
  pub unborn_print : ℕ → Bool
  pub free : ℕ → Bool

-- p is free: its count is 0 in the cache and in every possible content of its count page
pub record Free (lay : Layout) (w : World) (p : ℕ) : Type 0 where
  pub cached : cached_count lay w p ≡ 0
  pub on_device : (c : List ℕ) → Possible w (lay.count_page p) c → lay.count_in c p ≡ 0

-- an unborn name or print is in no possible content, and a page that the pool gives is free
pub record Tells (lay : Layout) (w : World) (known : Known) : Type 0 where
  pub unborn_name : (l p : ℕ) → l < lay.blocks → known.unborn_name l p ≡ true → MayName lay w p l → ⊥
  pub unborn_print : (p : ℕ) (print : List ℕ) → IsData lay p → known.unborn_print p ≡ true → MayPrint lay w p print → ⊥
  pub free : (p : ℕ) → IsData lay p → known.free p ≡ true → Free lay w p
