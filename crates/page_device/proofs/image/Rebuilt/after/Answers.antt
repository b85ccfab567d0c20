use Rattle.std.proofs.Common.{◌≡◌}
use Rattle.page_device.specs.Disk.{after}
use Rattle.page_device.specs.Rebuilt.{state_of}
use Rattle.page_device.proofs.Rebuilds.{state_goes, state_ends, ok_where}
use Rattle.page_device.proofs.image.Rebuilt.after.Goals as goal

pub loop-entry-preserved : goal.loop-entry-preserved
loop-entry-preserved c =
    state_goes (state_of c.loop-entry.state) (state_of c.follow.new.self) _ c.args.entries.now c.loop-entry.entry-index c.entry-item.result c.loop-entry-test.true c.entry-item.is
    (ok_where c.follow.result (state_of c.follow.new.self ≡ after (state_of c.loop-entry.state) c.entry-item.result) c.if-is_err.ensures.value c.follow.ensures) c.loop-entry.invariant

pub returns : goal.returns
returns c = state_ends (state_of c.loop-entry.state) _ c.args.entries.now c.loop-entry.entry-index c.loop-entry-test.false c.loop-entry.invariant
