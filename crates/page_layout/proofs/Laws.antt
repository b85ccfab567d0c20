-- Laws: no page serves two tables, different entries have different places, and a superblock reads back.
use Rattle.std.proofs.Common.{◌≡◌, ℕ, ◌<◌, ◌≤◌, Some, None, Result, Ok, Err, IfOk, OnErr, ap, ◌∙◌, refl, arith, ne_eqb, lt-ltb, le-ltb}
use Rattle.page_device.specs.Block.{Block}
use Rattle.page_layout.specs.Shape.{ShapeView, IsSuperblock, told_shape, first_count_page, first_print_page, first_data_page, map_page, map_place, count_page, count_place, print_page, print_place, data_page}
use Rattle.page_layout.specs.Entries.{table_at}
use Rattle.page_layout.specs.declared.shape.Table.TheVariants.{Map, Count, Print}

-- a page of each table, by its number
pub map_table : (shape : ShapeView) (n : ℕ) → 1 ≤ n → n < first_count_page shape → table_at shape n ≡ Some Map
map_table shape n low high = rw (ne_eqb n 0 (λ is. omega (arith, is)), lt-ltb n (first_count_page shape) high) refl

pub count_table : (shape : ShapeView) (n : ℕ) → first_count_page shape ≤ n → n < first_print_page shape → table_at shape n ≡ Some Count
count_table shape n low high = rw (ne_eqb n 0 (λ is. omega (arith, is)), le-ltb n (first_count_page shape) low, lt-ltb n (first_print_page shape) high) refl

pub print_table : (shape : ShapeView) (n : ℕ) → first_print_page shape ≤ n → n < first_data_page shape → table_at shape n ≡ Some Print
print_table shape n low high = rw (ne_eqb n 0 (λ is. omega (arith, is)), le-ltb n (first_count_page shape) (omega arith), le-ltb n (first_print_page shape) low, lt-ltb n (first_data_page shape) high) refl

-- the superblock, and every page from the first data page on, serve none
pub super_table : (shape : ShapeView) → table_at shape 0 ≡ None
super_table shape = refl

pub no_table : (shape : ShapeView) (n : ℕ) → first_data_page shape ≤ n → table_at shape n ≡ None
no_table shape n low = rw (ne_eqb n 0 (λ is. omega (arith, is)), le-ltb n (first_count_page shape) (omega arith), le-ltb n (first_print_page shape) (omega arith), le-ltb n (first_data_page shape) low) refl

-- the places lie in the pages of their tables
pub map_page_table : (shape : ShapeView) (block : ℕ) → block < shape.blocks → table_at shape (map_page block) ≡ Some Map
map_page_table shape block lt = map_table shape (map_page block) (omega arith) (omega arith)

pub count_page_table : (shape : ShapeView) (p : ℕ) → 1 ≤ p → p ≤ shape.pages → table_at shape (count_page shape p) ≡ Some Count
count_page_table shape p low high = count_table shape (count_page shape p) (omega arith) (omega arith)

pub print_page_table : (shape : ShapeView) (p : ℕ) → 1 ≤ p → p ≤ shape.pages → table_at shape (print_page shape p) ≡ Some Print
print_page_table shape p low high = print_table shape (print_page shape p) (omega arith) (omega arith)

pub data_page_table : (shape : ShapeView) (p : ℕ) → table_at shape (data_page shape p) ≡ None
data_page_table shape p = no_table shape (data_page shape p) (omega arith)

-- one place is that of one block or data page
pub map_place_once : (a b : ℕ) → map_page a ≡ map_page b → map_place a ≡ map_place b → a ≡ b
map_place_once a b page place = omega (arith, page, place)

pub count_place_once : (shape : ShapeView) (a b : ℕ) → 1 ≤ a → 1 ≤ b → count_page shape a ≡ count_page shape b → count_place a ≡ count_place b → a ≡ b
count_place_once shape a b low_a low_b page place = omega (arith, page, place)

pub print_place_once : (shape : ShapeView) (a b : ℕ) → 1 ≤ a → 1 ≤ b → print_page shape a ≡ print_page shape b → print_place a ≡ print_place b → a ≡ b
print_place_once shape a b low_a low_b page place = omega (arith, page, place)

pub data_page_once : (shape : ShapeView) (a b : ℕ) → 1 ≤ a → 1 ≤ b → data_page shape a ≡ data_page shape b → a ≡ b
data_page_once shape a b low_a low_b page = omega (arith, page)

-- what is read of the superblock of a shape, whatever the error is, is the shape
pub super_reads_back : {E : Type 0} (shape : ShapeView) (page : Block) (read : Result ShapeView E) → IsSuperblock page → told_shape page ≡ shape → IfOk read (λ s. s ≡ told_shape page) → OnErr read (¬ IsSuperblock page) → read ≡ Ok shape
super_reads_back shape page (Ok s) is told ok err = ap Ok (ok ∙ told)
super_reads_back shape page (Err e) is told ok err = absurd (err is)
