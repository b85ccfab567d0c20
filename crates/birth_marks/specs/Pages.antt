-- What is kept of each page.
use Rattle.std.specs.Prelude.{eqb, ◌≡◌, ◌<◌, ◌≤◌, ◌-◌, ℕ, Bool, true, false, cond, List, Option, Some, None, nat_eq, is_some, length, slice_index_or, count_by}
use Rattle.std.specs.List.{list_any}
use Rattle.std.specs.Map.{lookup}
use Rattle.birth_marks.specs.declared.births.Pair.{Pair}
use Rattle.birth_marks.specs.declared.pages.Mark.{Mark}

-- of a page that no change was on
abbrev pub fresh : ℕ → Mark
fresh page = record { page = page; tried_at = 0; settled_at = 0; written = false; listed = false; last = None }

-- a barrier settles a page that was written, and takes it off the list
abbrev pub settled : ℕ → Mark → Mark
settled moment m = record m { settled_at = cond m.written moment m.settled_at; written = false; listed = false; last = cond m.written None m.last }

-- what was noted last for a page that a barrier settles
abbrev pub noted_last : Mark → Option Pair
noted_last m = cond m.written m.last None

-- Where the marks of a page stand, the marks, the list of the pages that the next barrier looks at, and for how many further pages there is room.
pub record PagesView : Type 0 where
  pub places : List (ℕ × ℕ)
  pub marks : List Mark
  pub listed : List ℕ
  pub spare : ℕ

abbrev pub mark_at : ℕ → Option ℕ → List Mark → Mark
mark_at page None marks = fresh page
mark_at page (Some i) marks = slice_index_or marks i (fresh page)

abbrev pub place_of : PagesView → ℕ → Option ℕ
place_of v page = lookup (nat_eq page) v.places

-- the marks of a page, and whether a change ever was on it
abbrev pub mark_of : PagesView → ℕ → Mark
mark_of v page = mark_at page (place_of v page) v.marks

abbrev pub is_known : PagesView → ℕ → Bool
is_known v page = is_some (place_of v page)

-- the marks of a page stand at its place
abbrev pub IsPlaced : ℕ → Option ℕ → List Mark → Type 0
IsPlaced page None marks = Unit {0}
IsPlaced page (Some i) marks = (i < length marks) × ((slice_index_or marks i (fresh page)).page ≡ page)

abbrev pub ArePlaced : List (ℕ × ℕ) → List Mark → Type 0
ArePlaced places marks = (page : ℕ) → IsPlaced page (lookup (nat_eq page) places) marks

-- the page that was put on the list last
abbrev pub listed_last : PagesView → ℕ
listed_last v = slice_index_or v.listed (length v.listed - 1) 0

-- A page that was written with no change since is marked as listed, one that is so marked stands on the list, and the list has no more pages than are so marked.
pub record AreListed (v : PagesView) : Type 0 where
  pub marked : (p : ℕ) → (mark_of v p).written ≡ true → (mark_of v p).listed ≡ true
  pub there : (p : ℕ) → (mark_of v p).listed ≡ true → list_any (eqb p) v.listed ≡ true
  pub few : length v.listed ≤ count_by (λ (m : Mark). m.listed) v.marks
