use Rattle.std.proofs.Common.{◌≡◌, ℕ, ◌-◌, arith, subst, sym}
use Rattle.page_layout.specs.Shape.{first_print_page}
use Rattle.page_layout.specs.Tables.{print_entry_of}
use Rattle.page_layout.specs.Entries.{IsEntry, IsFirstFault}
use Rattle.page_layout.specs.declared.shape.Table.TheVariants.{Print}
use Rattle.mount_tables.specs.Reading.{IsBacked}
use Rattle.image_reader.proofs.TablesAt.{print_table}
use Rattle.image_reader.proofs.ZeroTables.{zeros_formed, no_print, none_is_no_some}
use Rattle.mount_tables.proofs.Firsts.{first_of_both}
use Rattle.mount_tables.proofs.prints.print_fault.Goals as goal

pub returns-then-is_zero : goal.returns-then-is_zero
returns-then-is_zero c = λ i lt.
    let page = c.args.page.now in
    let is = c.is_zero.ensures.zero.0 c.if-is_zero.true in
    (zeros_formed Print c.args.shape.now c.args.k page is i lt, λ _ _ some. absurd (none_is_no_some (print_entry_of page i) (no_print page i is) some))

pub returns : goal.returns
returns c =
    let shape = c.args.shape.now in
    let k = c.args.k in
    let j = k - first_print_page shape in
    let page = c.args.page.now in
    let at : k - c.first_print_page.result ≡ j = omega (arith, c.first_print_page.ensures.place) in
    let malformed = c.malformed_entry-malformed.ensures Print (print_table shape k c.requires.first (omega (arith, c.requires.last))) in
    let low : IsFirstFault (IsBacked shape c.args.counts.now j page) 171 c.loose_print.result = subst (λ (n : ℕ). IsFirstFault (IsBacked shape c.args.counts.now n page) 171 c.loose_print.result) at c.loose_print.ensures in
    subst (IsFirstFault (λ i. IsEntry Print shape k page i × IsBacked shape c.args.counts.now j page i) 171) (sym c.lower.ensures)
    (first_of_both (IsEntry Print shape k page) (IsBacked shape c.args.counts.now j page) 171 c.malformed_entry-malformed.result c.loose_print.result malformed low)
