use Rattle.std.proofs.Common.{◌≡◌, sym, subst, refl}
use Rattle.page_layout.specs.declared.shape.Table.{Table}
use Rattle.page_layout.specs.Entries.{IsTablePage}
use Rattle.page_layout.proofs.TablePages.{page_of_entries, entries_of_page}
use Rattle.page_layout.proofs.faults.table_fault.Goals as goal

pub returns-in-Some-clause-none : goal.returns-in-Some-clause-none
returns-in-Some-clause-none c = λ t is.
    let same : c.unwrap-table.result ≡ t = cc in
    let Fits : Table → Type 0 = λ u. IsTablePage u c.args.shape.now c.args.page_no c.args.page.now in
    (λ no. absurd cc, λ page. absurd (c.in-Some.ensures.1 (entries_of_page c.unwrap-table.result c.args.shape.now c.args.page_no c.args.page.now (subst Fits (sym same) page) c.in-Some.entry c.in-Some.ensures.0)))

pub returns-in-None-clause-none : goal.returns-in-None-clause-none
returns-in-None-clause-none c = λ t is.
    let same : c.unwrap-table.result ≡ t = cc in
    let Fits : Table → Type 0 = λ u. IsTablePage u c.args.shape.now c.args.page_no c.args.page.now in
    (λ _. subst Fits same (page_of_entries c.unwrap-table.result c.args.shape.now c.args.page_no c.args.page.now c.in-None.ensures), λ _. refl)
