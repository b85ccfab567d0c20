-- A page of zeros is well formed, whatever table it serves.
use Rattle.std.proofs.Common.{◌≡◌, ⊎_elim, ℕ, ◌*◌, ◌<◌, ◌≤◌, ◌==◌, if◌then◌else◌, Bool, true, false, List, refl, sym, ◌∙◌, ap, subst, arith, slice_index, Some, None, Option, IsSome}
use Rattle.std.proofs.lemmas.List.{get_or-replicate, get_or_past, length-replicate}
use Rattle.std.proofs.lemmas.Bool.{cases_lt}
use Rattle.std.proofs.lemmas.Bool.Decides.{nat_tests}
use Rattle.page_device.specs.Block.{Block, zero_block}
use Rattle.page_layout.specs.declared.shape.Table.{Table}
use Rattle.page_layout.specs.declared.shape.Table.TheVariants.{Map, Count, Print}
use Rattle.page_layout.specs.Numbers.{entry_of}
use Rattle.page_layout.specs.Shape.{ShapeView}
use Rattle.page_layout.specs.Tables.{print_entry_of, IsMapPage, IsCountPage, IsPrintPage}
use Rattle.page_layout.specs.Entries.{entries_of, IsEntry, IsTablePage}
use Rattle.page_layout.proofs.ZeroPages.{zero_entry}
use Rattle.page_layout.proofs.TablePages.{entries_of_page}
use Rattle.array_model.specs.Counting.{count_below}
use Rattle.array_model.proofs.CountingLemmas.{none_counted}

-- each byte of the zero block is zero, also past its end
pub zero_byte : (k : ℕ) → slice_index zero_block k ≡ 0
zero_byte k = ⊎_elim (λ lt. get_or-replicate 4096 k 0 0 lt) (λ le. get_or_past zero_block k 0 (subst (λ (n : ℕ). n ≤ k) (sym (length-replicate {A = ℕ} 4096 0)) le)) (cases_lt k 4096)

-- a page of zeros names nothing, counts nothing, and has no print
pub zero_is_map_page : (shape : ShapeView) (j : ℕ) → IsMapPage shape j zero_block
zero_is_map_page shape j = record { used = λ i lt _. omega (arith, zero_entry i lt); rest = λ i lt _. zero_entry i lt }

pub zero_is_count_page : (shape : ShapeView) (j : ℕ) → IsCountPage shape j zero_block
zero_is_count_page shape j = record { used = λ i lt _. omega (arith, zero_entry i lt); rest = λ i lt _. zero_entry i lt }

pub zero_is_print_page : (shape : ShapeView) (j : ℕ) → IsPrintPage shape j zero_block
zero_is_print_page shape j = record {
  used = λ i lt used. record { flag = omega (arith, zero_byte (24 * i)); padding = λ k _ _. zero_byte k; none = λ _ k _ _. zero_byte k };
  rest = λ i lt past k _ _. zero_byte k;
  tail = λ k _ _. zero_byte k;
}

zero_is_table_page : (t : Table) (shape : ShapeView) (k : ℕ) → IsTablePage t shape k zero_block
zero_is_table_page Map shape k = zero_is_map_page shape _
zero_is_table_page Count shape k = zero_is_count_page shape _
zero_is_table_page Print shape k = zero_is_print_page shape _

-- so each of its entries is well formed
pub zeros_formed : (t : Table) (shape : ShapeView) (k : ℕ) (page : Block) → page ≡ zero_block → (i : ℕ) → i < entries_of t → IsEntry t shape k page i
zeros_formed t shape k page is = subst (λ (b : Block). (i : ℕ) → i < entries_of t → IsEntry t shape k b i) (sym is) (entries_of_page t shape k zero_block (zero_is_table_page t shape k))

no_flag : (b : Bool) (f : List ℕ) → b ≡ false → (if b then Some f else None) ≡ None
no_flag true f h = cc
no_flag false f h = refl

pub no_print : (page : Block) (i : ℕ) → page ≡ zero_block → print_entry_of page i ≡ None
no_print page i is = no_flag (slice_index page (24 * i) == 1) _ (ap (λ (n : ℕ). n == 1) (ap (λ (b : Block). slice_index b (24 * i)) is ∙ zero_byte (24 * i)))

pub none_is_no_some : (o : Option (List ℕ)) → o ≡ None → IsSome o → ⊥
none_is_no_some None e h = cc
none_is_no_some (Some f) e h = cc

-- no entry of it names a data page
pub zeros_name : (page : Block) (p used : ℕ) → 1 ≤ p → used ≤ 1024 → page ≡ zero_block → count_below (λ i. entry_of page i == p) used ≡ 0
zeros_name page p used one few is = none_counted (λ i. entry_of page i == p) used (λ i lt.
    let entry : entry_of page i ≡ 0 = ap (λ (b : Block). entry_of b i) is ∙ zero_entry i (omega (arith, lt, few)) in
    ap (λ (n : ℕ). n == p) entry ∙ other)
  where
    other : (0 == p) ≡ false
    other = grind (arith, nat_tests)
