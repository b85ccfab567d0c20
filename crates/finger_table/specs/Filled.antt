-- Lists that are filled with the pages of a table, one page after another, before each is sorted.
use Rattle.std.specs.Prelude.{◌≡◌, ℕ, ◌<◌, List, length, slice_index, Option, Some}
use Rattle.finger_table.specs.Order.{IsPrint, print_in, bucket_of}
use Rattle.finger_table.specs.Index.{StandsIn, Belongs}

-- a list holds exactly those of the pages below `n` whose print belongs to it, each once
pub record HoldsPages (table : List (Option (List ℕ))) (n list : ℕ) (pages : List ℕ) : Type 0 where
  pub different : (i j : ℕ) → i < length pages → j < length pages → slice_index pages i ≡ slice_index pages j → i ≡ j
  pub belongs : (i : ℕ) → i < length pages → Belongs (print_in table) list (slice_index pages i)
  pub before : (i : ℕ) → i < length pages → slice_index pages i < n
  pub found : (p : ℕ) (print : List ℕ) → p < n → print_in table p ≡ Some print → bucket_of print ≡ list → StandsIn pages p

-- and so does each list
pub record IsFilled (table : List (Option (List ℕ))) (n : ℕ) (lists : ℕ → List ℕ) : Type 0 where
  pub whole : (p : ℕ) (print : List ℕ) → p < n → print_in table p ≡ Some print → IsPrint print
  pub each : (b : ℕ) → HoldsPages table n b (lists b)
