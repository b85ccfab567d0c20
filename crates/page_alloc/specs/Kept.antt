-- What the words of a pool keep.
use Rattle.std.specs.Prelude.{◌≡◌, ◌≢◌, ℕ, ◌-◌, ◌*◌, ◌/◌, ◌%◌, ◌<◌, ◌≤◌, true, false, List, length, slice_index_or}
use Rattle.order_model.specs.Pool.{Told, is_free}
use Rattle.page_layout.specs.Shape.{ShapeView, count_pages}
use Rattle.page_alloc.specs.Marks.{told_in, free_word}
use Rattle.page_alloc.specs.Numbers.{holds}
use Rattle.page_alloc.specs.declared.marks.Marks.{Marks}

-- the marks of a group of 64 data pages
abbrev pub marks_at : List Marks → ℕ → Marks
marks_at groups g = slice_index_or groups g (record { zero = 0; tried = 0; newest = 0 })

-- what they say of the data page p
unfoldable pub told_at : List Marks → ℕ → Told
told_at groups p = told_in (marks_at groups ((p - 1) / 64)) ((p - 1) % 64)

-- the set has exactly the groups with a free page
pub record IsIndexed (groups : List Marks) (free : List ℕ) : Type 0 where
  pub room : length groups ≤ 64 * length free
  pub none : (g i : ℕ) → holds free g ≡ false → i < 64 → is_free (told_in (marks_at groups g) i) ≡ false
  pub some : (g : ℕ) → holds free g ≡ true → free_word (marks_at groups g) ≢ 0

-- sixteen groups for each count page; no page behind the last one is free; the set of count pages that were written since the
-- last barrier has each whose newest content may differ from what a crash may leave
pub record IsPool (shape : ShapeView) (groups : List Marks) (free written : List ℕ) : Type 0 where
  pub few : shape.pages ≤ 1048576
  pub long : length groups ≡ 16 * count_pages shape
  pub indexed : IsIndexed groups free
  pub behind : (p : ℕ) → shape.pages < p → (told_at groups p).zero ≡ false
  pub room : count_pages shape ≤ 64 * length written
  pub only : (c : ℕ) → holds written c ≡ true → c < count_pages shape
  pub settled : (p : ℕ) → 1 ≤ p → holds written ((p - 1) / 1024) ≡ false → (told_at groups p).tried ≡ (told_at groups p).newest
