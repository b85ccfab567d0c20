-- Which blocked releases a pass has to look at again.
use Rattle.std.specs.Prelude.{◌≡◌, ◌≢◌, ◌⊎◌, ◌++◌, ℕ, List, [], ◌∷◌, false}
use Rattle.order_model.specs.World.{Layout, Release, IsData}
use Rattle.engine_model.specs.DeviceSteps.{Same, fixed_release, written_release}
use Rattle.engine_model.specs.Invariant.{Moment, known_at}
use Rattle.engine_model.specs.Releases.{IsBlocked}
use Rattle.engine_model.specs.SmallRuns.{ClearPrint, GiveUp, Lower, Order, OrderByBarrier, Place, Raise, Recount, SetName, SetPrint, SmallStep, Touch, with_barrier, with_refused, with_taken, with_written}
use Rattle.engine_model.specs.SmallPass.{Applies, Leaves}

-- The step changes neither the count nor the print of p. What is given up has no edge that leads to it.
abbrev pub LeavesPage : {lay : Layout} {top : ℕ} {m n : Moment} → ℕ → SmallStep lay top m n → Type 0
LeavesPage p (Touch page t e) = Unit {0}
LeavesPage p (Place q c d f e) = Unit {0}
LeavesPage p (Order a b i x y z e) = Unit {0}
LeavesPage p (OrderByBarrier a b i x y e) = Unit {0}
LeavesPage p (Raise q c pool x e t) = q ≢ p
LeavesPage p (SetPrint q c print x e) = q ≢ p
LeavesPage p (SetName l o q c a x g e) = Unit {0}
LeavesPage p (ClearPrint q c print x e) = q ≢ p
LeavesPage {lay} p (Lower r before after c k pool x e t) = IsData lay r.page × (r.page ≢ p)
LeavesPage p (Recount q c k pool x e t) = q ≢ p
LeavesPage {lay} {m = m} p (GiveUp q d z e) = (a : ℕ) → m.world.live a (lay.data_page q) ≡ false

-- A pass that passes over, without a look, releases that were blocked when it began, at the moment first.
abbrev pub SparingPass : Layout → Moment → Moment → List Release → List Release → Moment → Type 0
SparingPass lay first m kept [] n = n ≡ m
SparingPass lay first m kept (r ∷ todo) n =
    ((IsBlocked lay (known_at lay first) first.world r ⊎ IsBlocked lay (known_at lay m) m.world r) × SparingPass lay first m (kept ++ r ∷ []) todo n)
    ⊎ ((k : Moment) × (Applies lay m k r kept todo ⊎ Leaves lay m k r kept todo) × SparingPass lay first k kept todo n)

-- A step between two passes that leaves r where it is, at its stage then: no write of its count page that was done, and no change of its page's count or
-- print. A page that is fetched or forgotten leaves the state the same, read another way.
pub data QuietStep (lay : Layout) (top : ℕ) (r s : Release) (m n : Moment) : Type 0 where
  BySmall : (step : SmallStep lay top m n) → LeavesPage r.page step → s ≡ r → QuietStep lay top r s m n
  ByWrite : (page : ℕ) → ((a : ℕ) → m.world.live a page ≡ false) → lay.count_page r.page ≢ page → n ≡ with_written lay page m
      → s ≡ written_release lay page r → QuietStep lay top r s m n
  ByTaken : (page : ℕ) → n ≡ with_taken lay page m → s ≡ r → QuietStep lay top r s m n
  ByRefused : (page : ℕ) → n ≡ with_refused lay page m → s ≡ r → QuietStep lay top r s m n
  ByBarrier : n ≡ with_barrier m → s ≡ fixed_release r → QuietStep lay top r s m n
  BySame : Same m.world n.world → n.calls ≡ m.calls → s ≡ r → QuietStep lay top r s m n

-- such steps that lead from r at m to s at n
pub data QuietRun (lay : Layout) (top : ℕ) (s : Release) (n : Moment) : Release → Moment → Type 0 where
  NoStep : QuietRun lay top s n s n
  OneMore : {r : Release} {m : Moment} (q : Release) (k : Moment) → QuietStep lay top r q m k → QuietRun lay top s n q k → QuietRun lay top s n r m
