use Rattle.std.proofs.Common.{sym, ◌∙◌, None}
use Rattle.finger_table.proofs.Ranks.{compared}
use Rattle.finger_table.proofs.order.is_before.Goals as goal

pub returns-in-Less : goal.returns-in-Less
returns-in-Less c =
    let is = sym (c.in-Some-Some.ensures.lookup.3.1 None) ∙ c.in-Some-Some.field-0-is in
    compared c.args.prints.now c.args.page c.in-Some-Some.own c.args.print.now c.args.from _ c.ranges.page.fits c.requires.small is (c.requires.prints _ _ is) (record { whole = c.told-print; bytes = c.fits-print }) c.in-Less.ensures

pub returns-in-Equal : goal.returns-in-Equal
returns-in-Equal c =
    let is = sym (c.in-Some-Some.ensures.lookup.3.1 None) ∙ c.in-Some-Some.field-0-is in
    compared c.args.prints.now c.args.page c.in-Some-Some.own c.args.print.now c.args.from _ c.ranges.page.fits c.requires.small is (c.requires.prints _ _ is) (record { whole = c.told-print; bytes = c.fits-print }) c.in-Equal.ensures

pub returns-in-Greater : goal.returns-in-Greater
returns-in-Greater c =
    let is = sym (c.in-Some-Some.ensures.lookup.3.1 None) ∙ c.in-Some-Some.field-0-is in
    compared c.args.prints.now c.args.page c.in-Some-Some.own c.args.print.now c.args.from _ c.ranges.page.fits c.requires.small is (c.requires.prints _ _ is) (record { whole = c.told-print; bytes = c.fits-print }) c.in-Greater.ensures
