use Rattle.std.proofs.Common.{◌≡◌, Some, None, rules}
use Rattle.finger_table.specs.Order.{print_in}
use Rattle.finger_table.specs.Index.{list_at}
use Rattle.finger_table.proofs.Filled.{filled_more, filled_past}
use Rattle.finger_table.proofs.bulk.add_page.Goals as goal

pub returns-in-Ok-clause-filled : goal.returns-in-Ok-clause-filled
returns-in-Ok-clause-filled c =
    let is : print_in c.args.table.now c.args.p ≡ Some c.in-Some.print = search rules in
    let here = rw c.list_of.ensures.list at c.in-Ok.ensures.here in
    let others = rw c.list_of.ensures.list at c.in-Ok.ensures.others in
    filled_more c.args.table.now c.args.p c.in-Some.print (list_at c.args.lists.now.items) (list_at c.append.new.lists.items) is c.list_of.ensures.is_print c.ranges.p.fits here others c.requires.filled

pub returns-in-None-clause-filled : goal.returns-in-None-clause-filled
returns-in-None-clause-filled c =
    let is : print_in c.args.table.now c.args.p ≡ None = search rules in
    filled_past c.args.table.now c.args.p (list_at c.args.lists.now.items) is c.requires.filled
