-- The table pages of an image are well formed where each of their entries is.
use Rattle.std.proofs.Common.{◌≡◌, ⊎_elim, ℕ, ◌+◌, ◌-◌, ◌<◌, List, Some, sym, ◌∙◌, subst, arith}
use Rattle.std.proofs.lemmas.Bool.{cases_lt, cases_eq}
use Rattle.page_device.specs.Block.{Block}
use Rattle.page_layout.specs.declared.shape.Table.{Table}
use Rattle.page_layout.specs.declared.shape.Table.TheVariants.{Map, Count, Print}
use Rattle.page_layout.specs.Shape.{ShapeView, first_count_page, first_print_page, first_data_page}
use Rattle.page_layout.specs.Tables.{page_of, shape_of, IsWellFormed, IsMapPage, IsCountPage, IsPrintPage}
use Rattle.page_layout.specs.Entries.{table_at, IsTablePage}
use Rattle.page_layout.proofs.TablePages.{page_of_entries, entries_of_page}
use Rattle.page_layout.proofs.Laws.{no_table}
use Rattle.image_reader.specs.Formed.{IsFormed}
use Rattle.image_reader.proofs.TablesAt.{map_table, count_table, print_table, the_table}

module _ (image : List Block) where
  abbrev shape : ShapeView
  shape = shape_of image

  module _ (each : (k i : ℕ) → k < first_data_page shape → IsFormed shape image k i) where
    whole : (t : Table) (k : ℕ) → table_at shape k ≡ Some t → k < first_data_page shape → IsTablePage t shape k (page_of image k)
    whole t k is lt = page_of_entries t shape k (page_of image k) (λ i within. each k i lt t is within)

    pub formed : IsWellFormed image
    formed = record {
      maps = λ k lt.
          let at : (1 + k) - 1 ≡ k = omega arith in
          subst (λ (n : ℕ). IsMapPage shape n (page_of image (1 + k))) at (whole Map (1 + k) (map_table shape (1 + k) (omega arith) (omega (arith, lt))) (omega (arith, lt)));
      counts = λ k lt.
          let at : (first_count_page shape + k) - first_count_page shape ≡ k = omega arith in
          subst (λ (n : ℕ). IsCountPage shape n (page_of image (first_count_page shape + k))) at (whole Count (first_count_page shape + k) (count_table shape (first_count_page shape + k) (omega arith) (omega (arith, lt))) (omega (arith, lt)));
      prints = λ k lt.
          let at : (first_print_page shape + k) - first_print_page shape ≡ k = omega arith in
          subst (λ (n : ℕ). IsPrintPage shape n (page_of image (first_print_page shape + k))) at (whole Print (first_print_page shape + k) (print_table shape (first_print_page shape + k) (omega arith) (omega (arith, lt))) (omega (arith, lt)));
    }

  module _ (well : IsWellFormed image) where
    -- the content of a table page is well formed for its place
    table_page : (t : Table) (k : ℕ) → table_at shape k ≡ Some t → IsTablePage t shape k (page_of image k)
    table_page t k is = ⊎_elim
        (λ none. absurd (no_super none))
        (λ some. ⊎_elim
        (λ lt. subst (λ (u : Table). IsTablePage u shape k (page_of image k)) (the_table shape k t Map (map_table shape k (omega (arith, some)) lt) is)
        (let back : 1 + (k - 1) ≡ k = omega (arith, some) in
        subst (λ (n : ℕ). IsMapPage shape (k - 1) (page_of image n)) back (well.maps (k - 1) (omega (arith, some, lt)))))
        (λ past. ⊎_elim
        (λ lt. subst (λ (u : Table). IsTablePage u shape k (page_of image k)) (the_table shape k t Count (count_table shape k past lt) is)
        (let back : first_count_page shape + (k - first_count_page shape) ≡ k = omega (arith, past) in
        subst (λ (n : ℕ). IsCountPage shape (k - first_count_page shape) (page_of image n)) back (well.counts (k - first_count_page shape) (omega (arith, past, lt)))))
        (λ beyond. ⊎_elim
        (λ lt. subst (λ (u : Table). IsTablePage u shape k (page_of image k)) (the_table shape k t Print (print_table shape k beyond lt) is)
        (let back : first_print_page shape + (k - first_print_page shape) ≡ k = omega (arith, beyond) in
        subst (λ (n : ℕ). IsPrintPage shape (k - first_print_page shape) (page_of image n)) back (well.prints (k - first_print_page shape) (omega (arith, beyond, lt)))))
        (λ behind. absurd (cc (sym (no_table shape k behind) ∙ is)))
        (cases_lt k (first_data_page shape)))
        (cases_lt k (first_print_page shape)))
        (cases_lt k (first_count_page shape)))
        (cases_eq k 0)
      where
        no_super : k ≡ 0 → ⊥
        no_super none = absurd (cc (subst (λ (n : ℕ). table_at shape n ≡ Some t) none is))

    -- and so is each entry
    pub formed_entry : (k i : ℕ) → IsFormed shape image k i
    formed_entry k i t is lt = entries_of_page t shape k (page_of image k) (table_page t k is) i lt
