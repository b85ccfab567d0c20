use Rattle.std.proofs.Common.{arith}
use Rattle.page_device.proofs.KeptCalls.{kept_stops, kept_goes, kept_ends}
use Rattle.page_device.proofs.log.kept_among.Goals as goal

pub returns-then-left-lost : goal.returns-then-left-lost
returns-then-left-lost c = kept_stops c.args.lost_before.now c.loop-i.i c.loop-i.left _ c.loop-i-test.true c.if-left-lost.true c.loop-i.invariant

pub loop-i-preserved : goal.loop-i-preserved
loop-i-preserved c = kept_goes c.args.lost_before.now c.loop-i.i c.loop-i.left _ c.loop-i-test.true (omega (arith, c.if-left-lost.false)) c.loop-i.invariant

pub returns : goal.returns
returns c = kept_ends c.args.lost_before.now c.loop-i.i c.loop-i.left _ (omega (arith, c.loop-i-test.false)) (omega (arith, c.loop-i.auto.i-end)) c.loop-i.invariant
