-- What the calls that open a pool make of what it was told.
use Rattle.std.proofs.Common.{◌≡◌, ℕ, ◌≤◌, Bool, true, false, not, ◌&&◌, ◌||◌, cond, eqb, refl, sym, ◌∙◌, ap, arith}
use Rattle.order_model.specs.Pool.{Told, after_fixed, after_tried, after_written}
use Rattle.page_layout.specs.Shape.{ShapeView, count_page}
use Rattle.page_alloc.specs.Pool.{IsLaidOut, IsTold, PoolView, told_of}
use Rattle.store_core.specs.Layout.{lay_of}
use Rattle.store_core.specs.Opened.{counted_so}
use Rattle.mount_tables.specs.Made.{taken_so}

-- the plain layout is one of the pool's
pub laid_out : (kept shape : ShapeView) → kept ≡ shape → IsLaidOut kept (lay_of shape)
laid_out kept shape is = record { pages = ap (λ (s : ShapeView). s.pages) (sym is); count_page = λ p. ap (λ (s : ShapeView). count_page s p) (sym is) }

-- a count page is tried and written; `here` is whether it is that of the data page
abbrev tried_so : Bool → Told → Told
tried_so here told = record { zero = told.zero; tried = told.tried || (here && not told.zero); newest = told.newest || (here && not told.zero) }

abbrev written_so : Bool → Told → Told
written_so here told = record { zero = told.zero; tried = told.tried; newest = cond here (not told.zero) told.newest }

elsewhere : (zero tried newest : Bool) → written_so false (tried_so false (record { zero = zero; tried = tried; newest = newest })) ≡ record { zero = zero; tried = tried; newest = newest }
elsewhere zero true true = refl
elsewhere zero true false = refl
elsewhere zero false true = refl
elsewhere zero false false = refl

module _ (shape : ShapeView) (page : ℕ) (a b c : PoolView) (kept : a.shape ≡ shape) (after : b.shape ≡ shape)
    (tried : IsTold a.shape (after_tried (lay_of shape) page (told_of a)) b) (written : IsTold b.shape (after_written (lay_of shape) page (told_of b)) c) (p : ℕ) (one : 1 ≤ p) (le : p ≤ shape.pages) where
  both : told_of c p ≡ written_so (eqb (count_page shape p) page) (tried_so (eqb (count_page shape p) page) (told_of a p))
  both = written.each p one (omega (arith, le, ap (λ (s : ShapeView). s.pages) after)) ∙ ap (written_so (eqb (count_page shape p) page)) (tried.each p one (omega (arith, le, ap (λ (s : ShapeView). s.pages) kept)))

  -- a data page of it is told as counted then
  pub told_here : (count : ℕ) → eqb (count_page shape p) page ≡ true → told_of a p ≡ taken_so count → told_of c p ≡ counted_so count
  told_here count here was = both ∙ ap (λ (h : Bool). written_so h (tried_so h (told_of a p))) here ∙ ap (λ (t : Told). written_so true (tried_so true t)) was

  -- and one of another stays as it was
  pub told_elsewhere : (zero before newest : Bool) → eqb (count_page shape p) page ≡ false → told_of a p ≡ record { zero = zero; tried = before; newest = newest } → told_of c p ≡ record { zero = zero; tried = before; newest = newest }
  told_elsewhere zero before newest other was = both ∙ ap (λ (h : Bool). written_so h (tried_so h (told_of a p))) other ∙ ap (λ (t : Told). written_so false (tried_so false t)) was ∙ elsewhere zero before newest

-- a barrier changes nothing of what is counted so
pub fixed_so : (a b : PoolView) (p count : ℕ) → IsTold a.shape (after_fixed (told_of a)) b → 1 ≤ p → p ≤ a.shape.pages → told_of a p ≡ counted_so count → told_of b p ≡ counted_so count
fixed_so a b p count fixed one le was = fixed.each p one le ∙ ap (λ (t : Told). record { zero = t.zero; tried = t.newest; newest = t.newest }) was
