use Rattle.std.proofs.Common.{◌≡◌, ℕ, ◌-◌, arith, subst, sym}
use Rattle.page_layout.specs.Shape.{first_count_page}
use Rattle.page_layout.specs.Entries.{IsEntry, IsFirstFault}
use Rattle.page_layout.specs.declared.shape.Table.TheVariants.{Count}
use Rattle.mount_tables.specs.Reading.{IsEnough}
use Rattle.image_reader.proofs.TablesAt.{count_table}
use Rattle.mount_tables.proofs.Firsts.{first_of_both}
use Rattle.mount_tables.proofs.counts.count_fault.Goals as goal

pub returns : goal.returns
returns c =
    let shape = c.args.shape.now in
    let k = c.args.k in
    let j = k - first_count_page shape in
    let page = c.args.page.now in
    let at : k - c.first_count_page.result ≡ j = omega (arith, c.first_count_page.ensures.place) in
    let malformed = c.malformed_entry-malformed.ensures Count (count_table shape k c.requires.first (omega (arith, c.requires.last))) in
    let low : IsFirstFault (IsEnough shape c.args.tallies.now j page) 1024 c.low_count.result = subst (λ (n : ℕ). IsFirstFault (IsEnough shape c.args.tallies.now n page) 1024 c.low_count.result) at c.low_count.ensures in
    subst (IsFirstFault (λ i. IsEntry Count shape k page i × IsEnough shape c.args.tallies.now j page i) 1024) (sym c.lower.ensures)
    (first_of_both (IsEntry Count shape k page) (IsEnough shape c.args.tallies.now j page) 1024 c.malformed_entry-malformed.result c.low_count.result malformed low)
