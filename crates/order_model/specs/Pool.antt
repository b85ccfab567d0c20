-- What a pool of data pages was told of their counts, and which of them are free.
use Rattle.std.specs.Prelude.{Bool, List, [], cond, eqb, false, not, true, ℕ, ◌&&◌, ◌<◌, ◌||◌, ◌∷◌, ◌≡◌, ◌⊎◌}
use Rattle.order_model.specs.World.{IsData, Layout}

-- of a data page: its cached count is 0; a possible count, or the newest one, may be above 0
pub record Told : Type 0 where
  pub zero : Bool
  pub tried : Bool
  pub newest : Bool

-- a count page is about to be written, it was written, and a barrier came
abbrev pub after_tried : Layout → ℕ → (ℕ → Told) → ℕ → Told
after_tried lay page pool p = record {
  zero = (pool p).zero;
  tried = (pool p).tried || (eqb (lay.count_page p) page && not (pool p).zero);
  newest = (pool p).newest || (eqb (lay.count_page p) page && not (pool p).zero);
}

abbrev pub after_written : Layout → ℕ → (ℕ → Told) → ℕ → Told
after_written lay page pool p = record {
  zero = (pool p).zero;
  tried = (pool p).tried;
  newest = cond (eqb (lay.count_page p) page) (not (pool p).zero) (pool p).newest;
}

abbrev pub after_fixed : (ℕ → Told) → ℕ → Told
after_fixed pool p = record { zero = (pool p).zero; tried = (pool p).newest; newest = (pool p).newest }

-- p is taken, or its cached count became 0
abbrev pub after_take : ℕ → (ℕ → Told) → ℕ → Told
after_take p pool q = record { zero = not (eqb p q) && (pool q).zero; tried = (pool q).tried; newest = (pool q).newest }

abbrev pub after_zeroed : ℕ → (ℕ → Told) → ℕ → Told
after_zeroed p pool q = record { zero = eqb p q || (pool q).zero; tried = (pool q).tried; newest = (pool q).newest }

-- a new pool, and what it knows at a mount: the pages with a count above 0 are taken, each count page is told as written, and then as fixed
abbrev pub new_pool : ℕ → Told
new_pool p = record { zero = true; tried = false; newest = false }

abbrev pub taken_all : List ℕ → (ℕ → Told) → ℕ → Told
taken_all [] pool = pool
taken_all (p ∷ ps) pool = after_take p (taken_all ps pool)

abbrev pub written_all : Layout → List ℕ → (ℕ → Told) → ℕ → Told
written_all lay [] pool = pool
written_all lay (page ∷ pages) pool = after_written lay page (after_tried lay page (written_all lay pages pool))

abbrev pub Listed : ℕ → List ℕ → Type 0
Listed p [] = ⊥
Listed p (q ∷ qs) = (q ≡ p) ⊎ Listed p qs

abbrev pub is_free : Told → Bool
is_free told = told.zero && not told.tried

-- p is the lowest free page
pub record IsLowest (lay : Layout) (pool : ℕ → Told) (p : ℕ) : Type 0 where
  pub is_data : IsData lay p
  pub free : is_free (pool p) ≡ true
  pub below : (q : ℕ) → 0 < q → q < p → is_free (pool q) ≡ false
