use Rattle.std.proofs.Common.{◌∙◌, arith}
use Rattle.finger_table.proofs.ListFunctions.{list_at_push, has_room_push}
use Rattle.finger_table.proofs.lists.make_lists.Goals as goal

pub loop-number-preserved : goal.loop-number-preserved
loop-number-preserved c = record {
  count = omega (arith, c.push_reserved.ensures.len, c.loop-number.invariant.count);
  space = omega (arith, c.push_reserved.ensures.capacity, c.loop-number.invariant.space);
  same = λ k. rw c.push_reserved.ensures.items (list_at_push c.loop-number.lists.items c.new.result c.new.ensures.items k ∙ c.loop-number.invariant.same k);
  rooms = λ k is. rw c.push_reserved.ensures.items (has_room_push c.loop-number.lists.items c.new.result k (c.loop-number.invariant.rooms k is));
}
