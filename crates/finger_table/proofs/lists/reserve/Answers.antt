use Rattle.std.proofs.Common.{arith}
use Rattle.finger_table.proofs.ListFunctions.{room_within}
use Rattle.finger_table.proofs.lists.reserve.Goals as goal

pub returns-in_err-make_lists-clause-succeeds : goal.returns-in_err-make_lists-clause-succeeds
returns-in_err-make_lists-clause-succeeds c = λ room. absurd (omega (arith, c.args.lists.now.ok.0, room_within c.args.lists.now.items c.args.list room))
