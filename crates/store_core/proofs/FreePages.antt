-- A page that the pool gives is free, whatever the core stands for.
use Rattle.std.proofs.Common.{◌≡◌, ◌<◌, ◌≤◌, ℕ, true, false, refl, sym, subst, Option, Some, None, IfNone, IfSome}
use Rattle.page_layout.specs.Shape.{ShapeView}
use Rattle.page_alloc.specs.Pool.{IsLaidOut, told_of}
use Rattle.order_model.specs.Pool.{IsLowest, Told, is_free}
use Rattle.order_model.specs.World.{Layout}
use Rattle.engine_model.proofs.Pool.{pool_free}
use Rattle.store_core.specs.declared.Core.{Core}
use Rattle.store_core.specs.Layout.{lay_of}
use Rattle.store_core.specs.Placed.{FreeWhereGiven, IsFreePage}
use Rattle.store_core.specs.Views.{world_of}

pub free_page : FreeWhereGiven
free_page sound d core array p s f =
    pool_free (lay_of core.shape) (world_of d core) (s.told p) p (s.kept.pool_knows_counts p (f.first, f.last)) (subst (λ (t : Told). is_free t ≡ true) (s.pool p (f.first, f.last)) f.free)

laid_out : (shape : ShapeView) → IsLaidOut shape (lay_of shape)
laid_out shape = record { pages = refl; count_page = λ p. refl }

pub given_page : (core : Core) (o : Option ℕ) → IfSome o (λ p. 1 ≤ p) → IfSome o (λ p. p ≤ core.ledger.pool.shape.pages) → ((lay : Layout) → IsLaidOut core.ledger.pool.shape lay → IfSome o (IsLowest lay (told_of core.ledger.pool))) → IfSome o (λ p. IsFreePage p core)
given_page core None first last lowest = first
given_page core (Some p) first last lowest = record {
  first = first;
  last = subst (λ (s : ShapeView). p ≤ s.pages) core.whole.pool_shape last;
  free = (lowest (lay_of core.ledger.pool.shape) (laid_out core.ledger.pool.shape)).free;
}

-- no page below it is free, or none at all
pub given_lowest : (core : Core) (o : Option ℕ) → ((lay : Layout) → IsLaidOut core.ledger.pool.shape lay → IfSome o (IsLowest lay (told_of core.ledger.pool))) → IfSome o (λ p. (q : ℕ) → 1 ≤ q → q < p → is_free (told_of core.ledger.pool q) ≡ false)
given_lowest core None lowest = lowest (lay_of core.ledger.pool.shape) (laid_out core.ledger.pool.shape)
given_lowest core (Some p) lowest = λ q first lt. (lowest (lay_of core.ledger.pool.shape) (laid_out core.ledger.pool.shape)).below q first lt

pub given_none : (core : Core) (o : Option ℕ) → IfNone o ((q : ℕ) → 1 ≤ q → q ≤ core.ledger.pool.shape.pages → is_free (told_of core.ledger.pool q) ≡ false) → IfNone o ((q : ℕ) → 1 ≤ q → q ≤ core.shape.pages → is_free (told_of core.ledger.pool q) ≡ false)
given_none core None none = λ q first last. none q first (subst (λ (s : ShapeView). q ≤ s.pages) (sym core.whole.pool_shape) last)
given_none core (Some p) none = none
