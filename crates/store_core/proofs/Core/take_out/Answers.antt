use Rattle.std.proofs.Common.{arith}
use Rattle.store_core.specs.Quiet.{once}
use Rattle.store_core.proofs.NoCalls.{out_adds}
use Rattle.store_core.proofs.PartOut.{out_passing, still_held, takes_out}
use Rattle.store_core.proofs.PartSteps.{count_held}
use Rattle.store_core.proofs.Core.take_out.Goals as goal

pub unhold-requires : goal.unhold-requires
unhold-requires c =
    let r = c.args.release in
    let held = count_held c.args.self.now c.args.i r c.requires.passing.provided c.requires.queued in
    let same = c.lower_or_let_go-freed.ensures.leaves.holds r.count_at in
    omega (arith, held, same)

pub unhold-requires-2 : goal.unhold-requires-2
unhold-requires-2 c = still_held c.args.self.now c.lower_or_let_go-freed.new.self c.unhold.new.self c.args.i c.args.release c.lower_or_let_go-freed.result c.requires.queued c.requires.passing.provided c.lower_or_let_go-freed.ensures.leaves c.unhold.ensures

pub returns-clause-out : goal.returns-clause-out
returns-clause-out c = takes_out c.args.self.now c.lower_or_let_go-freed.new.self c.unhold.new.self _ c.args.i c.args.release c.lower_or_let_go-freed.result c.requires.queued c.lower_or_let_go-freed.ensures.leaves c.unhold.ensures c.unhold-2.ensures

pub returns-clause-passing : goal.returns-clause-passing
returns-clause-passing c = out_passing c.args.self.now c.lower_or_let_go-freed.new.self c.unhold.new.self _ c.args.i c.args.release c.lower_or_let_go-freed.result c.requires.queued c.lower_or_let_go-freed.ensures.leaves c.unhold.ensures c.unhold-2.ensures c.requires.passing

pub returns-clause-adds : goal.returns-clause-adds
returns-clause-adds c = let r = c.args.release in
    out_adds c.args.self.now c.lower_or_let_go-freed.new.self c.unhold.new.self _ (once r.count_at) (once r.print_at) c.lower_or_let_go-freed.ensures.leaves.shape c.lower_or_let_go-freed.ensures.adds c.unhold.ensures c.unhold-2.ensures
