use Rattle.std.proofs.Common.{arith}
use Rattle.finger_table.proofs.ListFunctions.{list_kept, room_means, room_made, room_kept}
use Rattle.finger_table.proofs.lists.reserve_list.Goals as goal

pub returns-in-Ok-clause-room : goal.returns-in-Ok-clause-room
returns-in-Ok-clause-room c = room_made c.args.lists.now.items c.args.list c.index_mut.result.now c.reserve.new.self (omega (arith, c.args.lists.now.ok.0)) c.index_mut.ensures.value (omega (arith, c.in-Ok.ensures.ok))

pub returns-in-Ok-clause-same : goal.returns-in-Ok-clause-same
returns-in-Ok-clause-same c = list_kept c.args.lists.now.items c.args.list c.index_mut.result.now c.reserve.new.self (omega (arith, c.args.lists.now.ok.0)) c.index_mut.ensures.value c.reserve.ensures.items

pub returns-in-Ok-clause-rooms : goal.returns-in-Ok-clause-rooms
returns-in-Ok-clause-rooms c = room_kept c.args.lists.now.items c.args.list c.index_mut.result.now c.reserve.new.self (omega (arith, c.args.lists.now.ok.0)) c.index_mut.ensures.value (λ lt. omega (arith, lt, c.reserve.ensures.len, c.reserve.ensures.capacity))

pub returns-in-Err-clause-same : goal.returns-in-Err-clause-same
returns-in-Err-clause-same c = list_kept c.args.lists.now.items c.args.list c.index_mut.result.now c.reserve.new.self (omega (arith, c.args.lists.now.ok.0)) c.index_mut.ensures.value c.reserve.ensures.items

pub returns-in-Err-clause-rooms : goal.returns-in-Err-clause-rooms
returns-in-Err-clause-rooms c = room_kept c.args.lists.now.items c.args.list c.index_mut.result.now c.reserve.new.self (omega (arith, c.args.lists.now.ok.0)) c.index_mut.ensures.value (λ lt. omega (arith, lt, c.reserve.ensures.len, c.reserve.ensures.capacity))

pub returns-in-Err-clause-succeeds : goal.returns-in-Err-clause-succeeds
returns-in-Err-clause-succeeds c = λ room. absurd (omega (arith, c.in-Err.ensures.full, room_means c.args.lists.now.items c.args.list c.index_mut.result.now c.reserve.new.self (omega (arith, c.args.lists.now.ok.0)) c.index_mut.ensures.value room))
