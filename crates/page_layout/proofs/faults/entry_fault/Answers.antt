use Rattle.page_layout.proofs.faults.entry_fault.Goals as goal

pub returns-in-Map : goal.returns-in-Map
returns-in-Map c = rw (c.in-Map.is, ← c.page.view_is, ← c.shape.view_is) c.number_fault.ensures

pub returns-in-Count : goal.returns-in-Count
returns-in-Count c =
    let first = rw (← c.shape.view_is) at c.first_count_page.ensures.place in
    rw (c.in-Count.is, ← c.page.view_is, ← c.shape.view_is, ← first) c.number_fault-in-Count.ensures

pub returns-in-Print : goal.returns-in-Print
returns-in-Print c =
    let first = rw (← c.shape.view_is) at c.first_print_page.ensures.place in
    rw (c.in-Print.is, ← c.page.view_is, ← c.shape.view_is, ← first) c.print_fault.ensures
