-- What is fit at an entry, table by table.
use Rattle.std.proofs.Common.{◌≡◌, ℕ, ◌+◌, ◌-◌, ◌*◌, ◌<◌, ◌≤◌, List, ap, subst, arith}
use Rattle.page_device.specs.Block.{Block}
use Rattle.page_layout.specs.declared.shape.Table.{Table}
use Rattle.page_layout.specs.declared.shape.Table.TheVariants.{Map, Count, Print}
use Rattle.page_layout.specs.Shape.{ShapeView, first_count_page, first_print_page, first_data_page}
use Rattle.page_layout.specs.Tables.{page_of}
use Rattle.page_layout.specs.Entries.{entries_of, IsEntry}
use Rattle.image_reader.proofs.TablesAt.{map_table, count_table, print_table, the_table}
use Rattle.mount_tables.specs.Faults.{IsFitEntry}
use Rattle.mount_tables.specs.Reading.{AreTalliesBehind, AreCounts, IsEnough, IsBacked}
use Rattle.image_reader.specs.Tallies.{tally_of}

module _ (shape : ShapeView) (image : List Block) where
  -- nothing is asked of page 0
  pub super_fit : (i : ℕ) → IsFitEntry shape image 0 i
  super_fit i = record {
    well_formed = λ t is. absurd (cc is);
    named = λ p one le page _. absurd (omega (arith, page));
    printed = λ p one le page _ _. absurd (omega (arith, page));
  }

  module _ (k i : ℕ) (low : 1 ≤ k) (high : k < first_count_page shape) where
    pub map_fit : (i < 1024 → IsEntry Map shape k (page_of image k) i) → IsFitEntry shape image k i
    map_fit h = record {
      well_formed = λ t is. by t (the_table shape k t Map (map_table shape k low high) is);
      named = λ p one le page _. absurd (omega (arith, page, high));
      printed = λ p one le page _ _. absurd (omega (arith, page, high));
    }
      where
        by : (t : Table) → Map ≡ t → i < entries_of t → IsEntry t shape k (page_of image k) i
        by t same = subst (λ (u : Table). i < entries_of u → IsEntry u shape k (page_of image k) i) same h

    pub of_map : IsFitEntry shape image k i → i < 1024 → IsEntry Map shape k (page_of image k) i
    of_map h = h.well_formed Map (map_table shape k low high)

  module _ (k i : ℕ) (low : first_count_page shape ≤ k) (high : k < first_print_page shape) (tallies : List ℕ) (are : AreTalliesBehind (1024 * (k - first_count_page shape)) shape tallies image) where
    pub count_fit : (i < 1024 → IsEntry Count shape k (page_of image k) i × IsEnough shape tallies (k - first_count_page shape) (page_of image k) i) → IsFitEntry shape image k i
    count_fit h = record {
      well_formed = λ t is. by t (the_table shape k t Count (count_table shape k low high) is);
      named = λ p one le page place.
          let at : 1024 * (k - first_count_page shape) + i + 1 ≡ p = omega (arith, page, place, one) in
          let enough = (h (omega (arith, place))).1 (omega (arith, at, le)) in
          omega (arith, enough, are p (omega (arith, at)) le, ap (tally_of tallies) at);
      printed = λ p one le page _ _. absurd (omega (arith, page, high));
    }
      where
        by : (t : Table) → Count ≡ t → i < entries_of t → IsEntry t shape k (page_of image k) i
        by t same = subst (λ (u : Table). i < entries_of u → IsEntry u shape k (page_of image k) i) same (λ lt. (h lt).0)

    pub of_count : IsFitEntry shape image k i → i < 1024 → IsEntry Count shape k (page_of image k) i × IsEnough shape tallies (k - first_count_page shape) (page_of image k) i
    of_count h lt = (
      h.well_formed Count (count_table shape k low high) lt,
      λ within.
          let p = 1024 * (k - first_count_page shape) + i + 1 in
          let few = h.named p (omega arith) (omega (arith, within)) (omega (arith, low, lt)) (omega (arith, lt)) in
          omega (arith, few, are p (omega arith) (omega (arith, within))),
    )

  module _ (k i : ℕ) (low : first_print_page shape ≤ k) (high : k < first_data_page shape) (counts : List ℕ) (are : AreCounts shape counts image) where
    pub print_fit : (i < 171 → IsEntry Print shape k (page_of image k) i × IsBacked shape counts (k - first_print_page shape) (page_of image k) i) → IsFitEntry shape image k i
    print_fit h = record {
      well_formed = λ t is. by t (the_table shape k t Print (print_table shape k low high) is);
      named = λ p one le page _. absurd (omega (arith, page, low, one, le));
      printed = λ p one le page place some.
          let at : 170 * (k - first_print_page shape) + i + 1 ≡ p = omega (arith, page, place, one) in
          let backed = (h (omega (arith, place))).1 (omega (arith, place)) (omega (arith, at, le)) some in
          omega (arith, backed, ap (tally_of counts) at, are p one le le);
    }
      where
        by : (t : Table) → Print ≡ t → i < entries_of t → IsEntry t shape k (page_of image k) i
        by t same = subst (λ (u : Table). i < entries_of u → IsEntry u shape k (page_of image k) i) same (λ lt. (h lt).0)

    pub of_print : IsFitEntry shape image k i → i < 171 → IsEntry Print shape k (page_of image k) i × IsBacked shape counts (k - first_print_page shape) (page_of image k) i
    of_print h lt = (
      h.well_formed Print (print_table shape k low high) lt,
      λ before within some.
          let p = 170 * (k - first_print_page shape) + i + 1 in
          let backed = h.printed p (omega arith) (omega (arith, within)) (omega (arith, low, before)) (omega (arith, before)) some in
          omega (arith, backed, are p (omega arith) (omega (arith, within)) (omega (arith, within))),
    )
