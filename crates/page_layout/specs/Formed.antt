-- A test that tells of each table page whether it is well formed for its place.
use Rattle.std.specs.Prelude.{ℕ, zero, suc, ◌+◌, ◌-◌, ◌*◌, Bool, true, ◌&&◌, ◌||◌, not, cond, eqb, nat_le, nat_lt, slice_index, Option, Some, None}
use Rattle.page_device.specs.Block.{Block}
use Rattle.page_layout.specs.Numbers.{entry_of}
use Rattle.page_layout.specs.Shape.{ShapeView}
use Rattle.page_layout.specs.Entries.{page_in_table, table_at}
use Rattle.page_layout.specs.declared.shape.Table.{Table}
use Rattle.page_layout.specs.declared.shape.Table.TheVariants.{Map, Count, Print}

-- each number below n passes
unfoldable pub all_below : ℕ → (ℕ → Bool) → Bool
all_below zero passes = true
all_below (suc n) passes = passes n && all_below n passes

-- of 1024 numbers the first ones, where so many are used in all, are up to a limit, and the others are 0
abbrev pub are_numbers : ℕ → ℕ → ℕ → Block → Bool
are_numbers used limit k page = all_below 1024 (λ i. cond (nat_lt (1024 * k + i) used) (nat_le (entry_of page i) limit) (eqb (entry_of page i) 0))

-- the bytes from a place up to another are zero
abbrev pub are_zero : Block → ℕ → ℕ → Bool
are_zero page from to = all_below to (λ j. nat_lt j from || eqb (slice_index page j) 0)

abbrev pub is_print_entry : Block → ℕ → Bool
is_print_entry page i =
    nat_le (slice_index page (24 * i)) 1
    && (are_zero page (24 * i + 1) (24 * i + 4) && (not (eqb (slice_index page (24 * i)) 0) || are_zero page (24 * i + 4) (24 * i + 24)))

abbrev pub are_prints : ℕ → ℕ → Block → Bool
are_prints used k page =
    all_below 170 (λ i. cond (nat_lt (170 * k + i) used) (is_print_entry page i) (are_zero page (24 * i) (24 * i + 24))) && are_zero page 4080 4096

abbrev pub is_formed_as : Option Table → ShapeView → ℕ → Block → Bool
is_formed_as None shape page content = true
is_formed_as (Some Map) shape page content = are_numbers shape.blocks shape.pages (page_in_table Map shape page) content
is_formed_as (Some Count) shape page content = are_numbers shape.pages 2147483647 (page_in_table Count shape page) content
is_formed_as (Some Print) shape page content = are_prints shape.pages (page_in_table Print shape page) content

-- the content is well formed for the place of its page; of a page that serves no table nothing is asked
unfoldable pub is_formed : ShapeView → ℕ → Block → Bool
is_formed shape page content = is_formed_as (table_at shape page) shape page content
