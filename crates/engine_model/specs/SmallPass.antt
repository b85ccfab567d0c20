-- One pass over the queue, by the small steps that code makes.
use Rattle.std.specs.Prelude.{◌≡◌, ◌⊎◌, ◌+◌, ◌<◌, ◌++◌, ℕ, true, false, cond, eqb, List, [], ◌∷◌, Some, None}
use Rattle.order_model.specs.World.{Layout, Release, World, IsData}
use Rattle.engine_model.specs.Entries.{cached_count, cached_print}
use Rattle.engine_model.specs.Invariant.{Moment, ToldZero, known_at}
use Rattle.order_model.specs.Pool.{Told}
use Rattle.engine_model.specs.Pass.{Member}
use Rattle.engine_model.specs.Releases.{IsBlocked}
use Rattle.engine_model.specs.SmallRuns.{in_state, with_print, with_release_out}
use Rattle.engine_model.specs.SmallSteps.{SetsCount, SetsPrint, given_up, ordered, ordered_by_barrier, touched}

-- the edge from the map page that a release of this stage needs
abbrev pub map_edge : ℕ → ℕ → ℕ → World → World
map_edge stage before after w = cond (eqb stage 0) (ordered before after w) (cond (eqb stage 1) (ordered_by_barrier before after w) w)

-- the count page is dirty, and the edge from the map page stands
abbrev pub readied : Layout → Release → World → World
readied lay r w = map_edge r.stage (lay.map_page r.block) (lay.count_page r.page) (touched (lay.count_page r.page) w)

-- the print page is dirty, and ordered before the count page
abbrev pub print_readied : Layout → ℕ → World → World
print_readied lay p w = ordered (lay.print_page p) (lay.count_page p) (touched (lay.print_page p) w)

-- The count of p is about to become count. A print that p has goes where that is 0: under its edge, or with none where it is unborn.
pub data Clears (lay : Layout) (p count : ℕ) (m n : Moment) : Type 0 where
  NothingToClear : (0 < count) ⊎ (cached_print lay m.world p ≡ None) → n ≡ m → Clears lay p count m n
  ClearsUnborn : (c print : List ℕ) → count ≡ 0 → cached_print lay m.world p ≡ Some print → (known_at lay m).unborn_print p ≡ true
      → SetsPrint lay (m.world.cached (lay.print_page p)) c p None
      → n ≡ with_print lay p c 1 0 (in_state (touched (lay.print_page p) m.world) m) → Clears lay p count m n
  ClearsLast : (c print : List ℕ) → count ≡ 0 → cached_print lay m.world p ≡ Some print → (known_at lay m).unborn_print p ≡ false
      → SetsPrint lay (m.world.cached (lay.print_page p)) c p None
      → n ≡ with_print lay p c 1 0 (in_state (print_readied lay p m.world) m) → Clears lay p count m n

-- A data page with count 0 is given up, where no edge leads to it, or it stays.
pub data GivesUp (lay : Layout) (p count : ℕ) (m n : Moment) : Type 0 where
  StaysThere : n ≡ m → GivesUp lay p count m n
  GivenUp : count ≡ 0 → ((a : ℕ) → m.world.live a (lay.data_page p) ≡ false) → n ≡ in_state (given_up (lay.data_page p) m.world) m
      → GivesUp lay p count m n

-- the release r, which stands between before and after and is not blocked, is applied
pub record Applies (lay : Layout) (m n : Moment) (r : Release) (before after : List Release) : Type 0 where
  pub not_blocked : IsBlocked lay (known_at lay m) m.world r → ⊥
  pub count : ℕ
  pub counted : count + 1 ≡ cached_count lay m.world r.page
  pub cleared : Moment
  pub clears : Clears lay r.page count (in_state (readied lay r m.world) m) cleared
  pub content : List ℕ
  pub sets : SetsCount lay (cleared.world.cached (lay.count_page r.page)) content r.page count
  pub pool : ℕ → Told
  pub told : ToldZero lay r.page cleared (with_release_out lay r.page content (before ++ after) pool cleared)
  pub gives_up : GivesUp lay r.page count (with_release_out lay r.page content (before ++ after) pool cleared) n

-- the release stands on a count of 0, as no honest device brings about: it leaves the queue, and nothing is lowered
pub record Leaves (lay : Layout) (m n : Moment) (r : Release) (before after : List Release) : Type 0 where
  pub no_count : cached_count lay m.world r.page ≡ 0
  pub is : n ≡ in_state (record m.world { queue = before ++ after }) m

-- From m to n: kept are those that were looked at and stay, in order, and the others follow.
abbrev pub SmallPass : Layout → Moment → List Release → List Release → Moment → Type 0
SmallPass lay m kept [] n = n ≡ m
SmallPass lay m kept (r ∷ todo) n =
    (IsBlocked lay (known_at lay m) m.world r × SmallPass lay m (kept ++ r ∷ []) todo n)
    ⊎ ((k : Moment) × (Applies lay m k r kept todo ⊎ Leaves lay m k r kept todo) × SmallPass lay k kept todo n)

-- each release is of a block and a data page
abbrev pub InRange : Layout → List Release → Type 0
InRange lay rs = (r : Release) → Member r rs → (r.block < lay.blocks) × IsData lay r.page

-- what the pass leaves is what it looked at and left, in the order of pushing
abbrev pub KeepsOrder : List Release → List Release → Type 0
KeepsOrder [] rs = rs ≡ []
KeepsOrder (x ∷ xs) rs = KeepsOrder xs rs ⊎ ((ys : List Release) × (rs ≡ x ∷ ys) × KeepsOrder xs ys)
