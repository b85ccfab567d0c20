use Rattle.std.proofs.Common.{◌≡◌, ◌<◌, length, refl, sym, ◌∙◌, arith, Some, None, set, get_or-set_other, get_or-set_same}
use Rattle.finger_table.specs.Order.{print_in, bucket_of}
use Rattle.finger_table.specs.Index.{list_at}
use Rattle.finger_table.proofs.ListFunctions.{list_at_index, list_within, print_within}
use Rattle.finger_table.proofs.Edited.{take_indexed, taken_within}
use Rattle.finger_table.proofs.Ranges.{order_of}
use Rattle.finger_table.proofs.prints.Prints.remove.Goals as goal

pub index-requires : goal.index-requires
index-requires c =
    let is = rw (← c.self.view_is) at c.in-Some.ensures in
    omega (arith, c.self.inside.lists.ok.0, c.list_of-list.ensures.list, list_within c.self.inside.table.items c.self.inside.lists.items c.self.invariant c.args.p c.in-Some.print (sym is))

pub place-at-requires-clause-order : goal.place-at-requires-clause-order
place-at-requires-clause-order c =
    let is = rw (← c.self.view_is) at c.in-Some.ensures in
    let within : c.list_of-list.result < length c.self.inside.lists.items = omega (arith, c.list_of-list.ensures.list, list_within c.self.inside.table.items c.self.inside.lists.items c.self.invariant c.args.p c.in-Some.print (sym is)) in
    let list : c.deref-2.result.now ≡ list_at c.self.inside.lists.items c.list_of-list.result = c.deref-2.ensures.value ∙ sym (list_at_index c.self.inside.lists.items c.list_of-list.result c.index.result.now within c.index.ensures) in
    rw (c.deref.ensures.value, list) (order_of c.self.inside.table.items (list_at c.self.inside.lists.items) c.self.invariant c.list_of-list.result)

pub take_page-requires-clause-list : goal.take_page-requires-clause-list
take_page-requires-clause-list c =
    let is = rw (← c.self.view_is) at c.in-Some.ensures in
    omega (arith, c.self.inside.lists.ok.0, c.list_of-list.ensures.list, list_within c.self.inside.table.items c.self.inside.lists.items c.self.invariant c.args.p c.in-Some.print (sym is))

pub take_page-requires-clause-place : goal.take_page-requires-clause-place
take_page-requires-clause-place c =
    let told = rw (← c.self.view_is) at c.in-Some.ensures in
    let stood : print_in c.self.inside.table.items c.args.p ≡ Some c.in-Some.print = sym told in
    let is : c.list_of-list.result ≡ bucket_of c.in-Some.print = c.list_of-list.ensures.list in
    let found = rw is at c.index.ensures in
    let list : c.deref-2.result.now ≡ list_at c.self.inside.lists.items (bucket_of c.in-Some.print) = c.deref-2.ensures.value ∙ sym (list_at_index c.self.inside.lists.items (bucket_of c.in-Some.print) c.index.result.now (list_within c.self.inside.table.items c.self.inside.lists.items c.self.invariant c.args.p c.in-Some.print stood) found) in
    let before = rw (c.deref.ensures.value, list) at c.place-at.ensures.before in
    let behind = rw (c.deref.ensures.value, list) at c.place-at.ensures.behind in
    rw is (taken_within (print_in c.self.inside.table.items) (print_in (set c.self.inside.table.items c.args.p None)) (list_at c.self.inside.lists.items) (list_at c.self.inside.lists.items) c.self.invariant c.args.p c.in-Some.print
    (c.self.invariant.whole c.args.p c.in-Some.print stood) (λ q ne. get_or-set_other c.self.inside.table.items c.args.p q None None ne) (λ b ne. refl)
    c.place-at.result stood (get_or-set_same c.self.inside.table.items c.args.p None None (print_within c.self.inside.table.items c.args.p c.in-Some.print stood)) before behind)

pub invariant_of-self : goal.invariant_of-self
invariant_of-self c =
    let told = rw (← c.self.view_is) at c.in-Some.ensures in
    let stood : print_in c.self.inside.table.items c.args.p ≡ Some c.in-Some.print = sym told in
    let is : c.list_of-list.result ≡ bucket_of c.in-Some.print = c.list_of-list.ensures.list in
    let found = rw is at c.index.ensures in
    let list : c.deref-2.result.now ≡ list_at c.self.inside.lists.items (bucket_of c.in-Some.print) = c.deref-2.ensures.value ∙ sym (list_at_index c.self.inside.lists.items (bucket_of c.in-Some.print) c.index.result.now (list_within c.self.inside.table.items c.self.inside.lists.items c.self.invariant c.args.p c.in-Some.print stood) found) in
    let before = rw (c.deref.ensures.value, list) at c.place-at.ensures.before in
    let behind = rw (c.deref.ensures.value, list) at c.place-at.ensures.behind in
    let edit = rw is at c.take_page.ensures.here in
    let others = rw is at c.take_page.ensures.others in
    take_indexed (print_in c.self.inside.table.items) (print_in (set c.self.inside.table.items c.args.p None)) (list_at c.self.inside.lists.items) (list_at c.take_page.new.lists.items) c.self.invariant c.args.p c.in-Some.print
    (c.self.invariant.whole c.args.p c.in-Some.print stood) (λ q ne. get_or-set_other c.self.inside.table.items c.args.p q None None ne) others
    c.place-at.result stood (get_or-set_same c.self.inside.table.items c.args.p None None (print_within c.self.inside.table.items c.args.p c.in-Some.print stood)) before behind edit
