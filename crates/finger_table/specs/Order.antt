-- The order in which pages are kept: by their prints, and those of one print by their numbers.
use Rattle.std.specs.Prelude.{◌≡◌, ℕ, ◌+◌, ◌*◌, ◌^◌, ◌<◌, List, [], ◌∷◌, length, slice_index, slice_index_or, Option, Some, None, Bool, cond}
use Rattle.std.specs.declared.cmp.Ordering.{Ordering}
use Rattle.std.specs.declared.cmp.Ordering.TheVariants.{Less, Greater}

-- a print has 20 bytes
pub record IsPrint (print : List ℕ) : Type 0 where
  pub whole : length print ≡ 20
  pub bytes : (k : ℕ) → slice_index print k < 256

-- bytes as a number, highest first
abbrev pub rank : List ℕ → ℕ
rank [] = 0
rank (x ∷ xs) = x * 256 ^ length xs + rank xs

-- the place of a page in the order; a page without a print is before all others
abbrev pub key_of : Option (List ℕ) → ℕ → ℕ
key_of None p = 0
key_of (Some print) p = 1 + (rank print * 4294967296 + p)

-- the print of a page in a table of prints
abbrev pub print_in : List (Option (List ℕ)) → ℕ → Option (List ℕ)
print_in table p = slice_index_or table p None

-- and its place in the order
abbrev pub key_in : List (Option (List ℕ)) → ℕ → ℕ
key_in table p = key_of (print_in table p) p

-- the list in which the pages of a print are kept, by its first two bytes
abbrev pub bucket_of : List ℕ → ℕ
bucket_of print = 256 * slice_index print 0 + slice_index print 1

-- the answer of a comparison of two pages that are not equal in the order
abbrev pub less_where : Bool → Ordering
less_where is_before = cond is_before Less Greater
