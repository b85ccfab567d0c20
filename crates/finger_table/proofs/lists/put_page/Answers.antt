use Rattle.std.proofs.Common.{◌≡◌, ◌<◌, ℕ, List, length, true, is_ok, sym, ◌∙◌, ap, arith, insert}
use Rattle.finger_table.proofs.ListFunctions.{list_at_index, list_at_set, list_at_other, has_room_other, room_means}
use Rattle.finger_table.proofs.lists.put_page.Goals as goal

pub insert-requires : goal.insert-requires
insert-requires c = omega (arith, c.index_mut.result.now.ok.0, c.args.lists.now.ok.0, ap length (list_at_index c.args.lists.now.items c.args.list c.index_mut.result.now (omega (arith, c.args.lists.now.ok.0)) c.index_mut.ensures.value), c.requires.place)

pub returns-clause-here : goal.returns-clause-here
returns-clause-here c =
    let within : c.args.list < length c.args.lists.now.items = omega (arith, c.args.lists.now.ok.0) in
    let ok : is_ok c.insert.result ≡ true = c.insert.ensures.succeeds (room_means c.args.lists.now.items c.args.list c.index_mut.result.now c.insert.new.self within c.index_mut.ensures.value c.requires.room) in
    let items = rw ok at c.insert.ensures.items in
    list_at_set c.args.lists.now.items c.args.list c.insert.new.self within ∙ items ∙ ap (λ (l : List ℕ). insert l c.args.at c.args.p) (sym (list_at_index c.args.lists.now.items c.args.list c.index_mut.result.now within c.index_mut.ensures.value))

pub returns-clause-others : goal.returns-clause-others
returns-clause-others c = λ k ne. list_at_other c.args.lists.now.items c.args.list k c.insert.new.self ne

pub returns-clause-rooms : goal.returns-clause-rooms
returns-clause-rooms c = λ k ne is. has_room_other c.args.lists.now.items c.args.list k c.insert.new.self ne ∙ is
