-- The prints of data pages, and the lists of pages in which a print is looked up.
use Rattle.std.specs.Prelude.{◌≡◌, ℕ, zero, suc, ◌+◌, ◌-◌, ◌*◌, ◌<◌, ◌≤◌, Bool, false, nat_lt, ◌&&◌, List, [], ◌∷◌, take, drop, length, slice_index, slice_index_or, Option, Some, Vec, vec_len, vec_capacity}
use Rattle.finger_table.specs.Order.{IsPrint, rank, key_of, key_in, print_in, bucket_of}

-- what callers see: the print of each page, if it has one, by its number, and which lists have room for one more
pub record PrintsView : Type 0 where
  pub prints : List (Option (List ℕ))
  pub rooms : List Bool

-- the print of a page
abbrev pub print_at : PrintsView → ℕ → Option (List ℕ)
print_at view = print_in view.prints

-- an insert of this pair can't fail
abbrev pub is_ready : PrintsView → List ℕ → ℕ → Bool
is_ready view print p = nat_lt p (length view.prints) && slice_index_or view.rooms (bucket_of print) false

-- one list
unfoldable pub list_at : {A : Type 0} → List (Vec ℕ A) → ℕ → List ℕ
list_at [] k = []
list_at (v ∷ vs) zero = v.items
list_at (v ∷ vs) (suc k) = list_at vs k

-- which lists have room for one more
unfoldable pub rooms_of : {A : Type 0} → List (Vec ℕ A) → List Bool
rooms_of [] = []
rooms_of (v ∷ vs) = nat_lt (vec_len v) (vec_capacity v) ∷ rooms_of vs

abbrev pub has_room : {A : Type 0} → List (Vec ℕ A) → ℕ → Bool
has_room vs b = slice_index_or (rooms_of vs) b false

-- the page stands in the list
pub record StandsIn (pages : List ℕ) (p : ℕ) : Type 0 where
  pub index : ℕ
  pub within : index < length pages
  pub is : slice_index pages index ≡ p

-- the page has a print of this list
pub record Belongs (of_page : ℕ → Option (List ℕ)) (list p : ℕ) : Type 0 where
  pub print : List ℕ
  pub is : of_page p ≡ Some print
  pub bucket : bucket_of print ≡ list
  pub small : p < 4294967296

-- the lists hold exactly the pages with a print, each in its own list, in rising order
pub record IsIndexed (of_page : ℕ → Option (List ℕ)) (lists : ℕ → List ℕ) : Type 0 where
  pub whole : (p : ℕ) (print : List ℕ) → of_page p ≡ Some print → IsPrint print
  pub rises : (b i j : ℕ) → i < j → j < length (lists b) → key_of (of_page (slice_index (lists b) i)) (slice_index (lists b) i) < key_of (of_page (slice_index (lists b) j)) (slice_index (lists b) j)
  pub belongs : (b i : ℕ) → i < length (lists b) → Belongs of_page b (slice_index (lists b) i)
  pub found : (p : ℕ) (print : List ℕ) → of_page p ≡ Some print → StandsIn (lists (bucket_of print)) p

-- the part of a list between the first and the last number of a print
pub record IsRange (table : List (Option (List ℕ))) (pages print part : List ℕ) : Type 0 where
  pub first : ℕ
  pub end : ℕ
  pub first_within : first ≤ length pages
  pub end_within : end ≤ length pages
  pub first_before : (k : ℕ) → k < first → key_in table (slice_index pages k) ≤ rank print * 4294967296 + 0
  pub first_behind : (k : ℕ) → first ≤ k → k < length pages → rank print * 4294967296 + 0 < key_in table (slice_index pages k)
  pub end_before : (k : ℕ) → k < end → key_in table (slice_index pages k) ≤ rank print * 4294967296 + 4294967296
  pub end_behind : (k : ℕ) → end ≤ k → k < length pages → rank print * 4294967296 + 4294967296 < key_in table (slice_index pages k)
  pub is : part ≡ take (end - first) (drop first pages)
