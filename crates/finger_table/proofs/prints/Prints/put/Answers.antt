use Rattle.std.proofs.Common.{◌≡◌, ◌<◌, true, length, sym, ◌∙◌, ap, arith, Some, None, set, get_or-set_other, get_or-set_same, ltb-true}
use Rattle.finger_table.specs.Order.{print_in, bucket_of}
use Rattle.finger_table.specs.Index.{list_at, has_room}
use Rattle.finger_table.proofs.ListFunctions.{list_at_index, room_within}
use Rattle.finger_table.proofs.Edited.{put_indexed}
use Rattle.finger_table.proofs.Ranges.{order_of, both_true}
use Rattle.finger_table.proofs.prints.Prints.put.Goals as goal

pub index-requires : goal.index-requires
index-requires c =
    let ready = rw (← c.self.view_is) at c.requires.ready in
    let room : has_room c.self.inside.lists.items c.list_of-list.result ≡ true = rw c.list_of-list.ensures.list (both_true _ _ ready).1 in
    omega (arith, c.self.inside.lists.ok.0, room_within c.self.inside.lists.items c.list_of-list.result room)

pub place-at-requires-clause-order : goal.place-at-requires-clause-order
place-at-requires-clause-order c =
    let ready = rw (← c.self.view_is) at c.requires.ready in
    let room : has_room c.self.inside.lists.items c.list_of-list.result ≡ true = rw c.list_of-list.ensures.list (both_true _ _ ready).1 in
    let list : c.deref-2.result.now ≡ list_at c.self.inside.lists.items c.list_of-list.result = c.deref-2.ensures.value ∙ sym (list_at_index c.self.inside.lists.items c.list_of-list.result c.index.result.now (room_within c.self.inside.lists.items c.list_of-list.result room) c.index.ensures) in
    rw (c.deref.ensures.value, list) (order_of c.self.inside.table.items (list_at c.self.inside.lists.items) c.self.invariant c.list_of-list.result)

pub put_page-requires-clause-list : goal.put_page-requires-clause-list
put_page-requires-clause-list c =
    let ready = rw (← c.self.view_is) at c.requires.ready in
    let room : has_room c.self.inside.lists.items c.list_of-list.result ≡ true = rw c.list_of-list.ensures.list (both_true _ _ ready).1 in
    omega (arith, c.self.inside.lists.ok.0, room_within c.self.inside.lists.items c.list_of-list.result room)

pub put_page-requires-clause-place : goal.put_page-requires-clause-place
put_page-requires-clause-place c =
    let ready = rw (← c.self.view_is) at c.requires.ready in
    let room : has_room c.self.inside.lists.items c.list_of-list.result ≡ true = rw c.list_of-list.ensures.list (both_true _ _ ready).1 in
    let list : c.deref-2.result.now ≡ list_at c.self.inside.lists.items c.list_of-list.result = c.deref-2.ensures.value ∙ sym (list_at_index c.self.inside.lists.items c.list_of-list.result c.index.result.now (room_within c.self.inside.lists.items c.list_of-list.result room) c.index.ensures) in
    omega (arith, c.place-at.ensures.within, ap length list)

pub invariant_of-self : goal.invariant_of-self
invariant_of-self c =
    let ready = rw (← c.self.view_is) at c.requires.ready in
    let absent = rw (← c.self.view_is) at c.requires.absent in
    let parts = both_true _ _ ready in
    let long : c.args.p < length c.self.inside.table.items = ltb-true _ _ parts.0 in
    let room : has_room c.self.inside.lists.items (bucket_of c.args.print.now) ≡ true = parts.1 in
    let is : c.list_of-list.result ≡ bucket_of c.args.print.now = c.list_of-list.ensures.list in
    let stood = rw is at c.index.ensures in
    let list : c.deref-2.result.now ≡ list_at c.self.inside.lists.items (bucket_of c.args.print.now) = c.deref-2.ensures.value ∙ sym (list_at_index c.self.inside.lists.items (bucket_of c.args.print.now) c.index.result.now (room_within c.self.inside.lists.items (bucket_of c.args.print.now) room) stood) in
    let at_within = rw list at c.place-at.ensures.within in
    let before = rw (c.deref.ensures.value, list) at c.place-at.ensures.before in
    let behind = rw (c.deref.ensures.value, list) at c.place-at.ensures.behind in
    let edit = rw is at c.put_page.ensures.here in
    let others = rw is at c.put_page.ensures.others in
    put_indexed (print_in c.self.inside.table.items) (print_in (set c.self.inside.table.items c.args.p (Some c.args.print.now))) (list_at c.self.inside.lists.items) (list_at c.put_page.new.lists.items) c.self.invariant c.args.p c.args.print.now
    (record { whole = c.told-print; bytes = c.fits-print }) (λ q ne. get_or-set_other c.self.inside.table.items c.args.p q (Some c.args.print.now) None ne) others
    c.place-at.result c.ranges.p.fits absent (get_or-set_same c.self.inside.table.items c.args.p (Some c.args.print.now) None long) at_within before behind edit
