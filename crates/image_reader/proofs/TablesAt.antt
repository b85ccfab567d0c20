-- The table that a page of an image serves.
use Rattle.std.proofs.Common.{◌≡◌, ℕ, ◌+◌, ◌-◌, ◌*◌, ◌<◌, ◌≤◌, Some, None, Option, sym, ◌∙◌, ap, subst, arith}
use Rattle.page_layout.specs.declared.shape.Table.{Table}
use Rattle.page_layout.specs.declared.shape.Table.TheVariants.{Map, Count, Print}
use Rattle.page_layout.specs.Shape.{ShapeView, map_page, count_page, print_page, first_count_page, first_print_page, first_data_page}
use Rattle.page_layout.specs.Entries.{table_at}
use Rattle.page_layout.proofs.Laws.{map_page_table, count_page_table, print_page_table}

-- the table of a page
pub map_table : (shape : ShapeView) (k : ℕ) → 1 ≤ k → k < first_count_page shape → table_at shape k ≡ Some Map
map_table shape k low high = let at : map_page (1024 * (k - 1)) ≡ k = omega (arith, low) in
    subst (λ (n : ℕ). table_at shape n ≡ Some Map) at (map_page_table shape (1024 * (k - 1)) (omega (arith, low, high)))

pub count_table : (shape : ShapeView) (k : ℕ) → first_count_page shape ≤ k → k < first_print_page shape → table_at shape k ≡ Some Count
count_table shape k low high = let at : count_page shape (1024 * (k - first_count_page shape) + 1) ≡ k = omega (arith, low) in
    subst (λ (n : ℕ). table_at shape n ≡ Some Count) at (count_page_table shape (1024 * (k - first_count_page shape) + 1) (omega arith) (omega (arith, low, high)))

pub print_table : (shape : ShapeView) (k : ℕ) → first_print_page shape ≤ k → k < first_data_page shape → table_at shape k ≡ Some Print
print_table shape k low high = let at : print_page shape (170 * (k - first_print_page shape) + 1) ≡ k = omega (arith, low) in
    subst (λ (n : ℕ). table_at shape n ≡ Some Print) at (print_page_table shape (170 * (k - first_print_page shape) + 1) (omega arith) (omega (arith, low, high)))

pub the_table : (shape : ShapeView) (k : ℕ) (t u : Table) → table_at shape k ≡ Some u → table_at shape k ≡ Some t → u ≡ t
the_table shape k t u one other = by (sym one ∙ other)
  where
    by : Some u ≡ Some t → u ≡ t
    by h = ap (λ (o : Option Table). pick o) h
      where
        pick : Option Table → Table
        pick (Some x) = x
        pick None = u
