use Rattle.page_device.proofs.Rebuilds.{overlay_goes, overlay_ends}
use Rattle.page_device.proofs.image.set_all.Goals as goal

pub loop-write-preserved : goal.loop-write-preserved
loop-write-preserved c = overlay_goes c.loop-write.pages.items c.set_page.new.pages.items _ c.args.writes.now c.loop-write.write-index c.write-item.result c.loop-write-test.true c.write-item.is c.set_page.ensures c.loop-write.invariant

pub returns : goal.returns
returns c = overlay_ends c.loop-write.pages.items _ c.args.writes.now c.loop-write.write-index c.loop-write-test.false c.loop-write.invariant
