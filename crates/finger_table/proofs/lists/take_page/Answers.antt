use Rattle.std.proofs.Common.{◌<◌, ℕ, List, length, sym, ◌∙◌, ap, arith, remove}
use Rattle.finger_table.proofs.ListFunctions.{list_at_index, list_at_set, list_at_other, room_kept}
use Rattle.finger_table.proofs.lists.take_page.Goals as goal

pub remove-requires : goal.remove-requires
remove-requires c = omega (arith, c.index_mut.result.now.ok.0, c.args.lists.now.ok.0, ap length (list_at_index c.args.lists.now.items c.args.list c.index_mut.result.now (omega (arith, c.args.lists.now.ok.0)) c.index_mut.ensures.value), c.requires.place)

pub returns-clause-here : goal.returns-clause-here
returns-clause-here c =
    let within : c.args.list < length c.args.lists.now.items = omega (arith, c.args.lists.now.ok.0) in
    list_at_set c.args.lists.now.items c.args.list c.remove.new.self within ∙ c.remove.ensures.items ∙ ap (λ (l : List ℕ). remove l c.args.at) (sym (list_at_index c.args.lists.now.items c.args.list c.index_mut.result.now within c.index_mut.ensures.value))

pub returns-clause-others : goal.returns-clause-others
returns-clause-others c = λ k ne. list_at_other c.args.lists.now.items c.args.list k c.remove.new.self ne

pub returns-clause-rooms : goal.returns-clause-rooms
returns-clause-rooms c = room_kept c.args.lists.now.items c.args.list c.index_mut.result.now c.remove.new.self (omega (arith, c.args.lists.now.ok.0)) c.index_mut.ensures.value (λ lt. omega (arith, lt, c.remove.ensures.len, c.remove.ensures.capacity))
