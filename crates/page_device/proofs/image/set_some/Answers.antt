use Rattle.page_device.proofs.ChosenSteps.{chosen_goes, chosen_passes, chosen_ends}
use Rattle.page_device.proofs.image.set_some.Goals as goal
use Rattle.page_device.proofs.image.set_some.Goals.{then-take_one, else-take_one}

pub loop-write-preserved : goal.loop-write-preserved
loop-write-preserved c = λ image is. c.loop-write.invariant image (elim c.if-take_one.branch [
  | then-take_one w ↦ chosen_goes c.loop-write.pages.items c.if-take_one.pages.items c.args.writes.now c.loop-write.left.items c.take_one.new.left.items image c.loop-write.write-index c.write-item.result c.loop-write-test.true c.write-item.is is
      w.if-take_one.ensures.some (let p = w.pages-is in let q = w.set_page.ensures in cc) w.if-take_one.ensures.lowered
  | else-take_one w ↦ chosen_passes c.loop-write.pages.items c.if-take_one.pages.items c.args.writes.now c.loop-write.left.items c.take_one.new.left.items image c.loop-write.write-index c.write-item.result c.loop-write-test.true c.write-item.is is
      w.if-take_one.ensures.none (let p = w.pages-is in cc) w.if-take_one.ensures.same
])

pub returns : goal.returns
returns c = c.loop-write.invariant c.loop-write.pages.items (chosen_ends c.loop-write.pages.items c.args.writes.now c.loop-write.left.items c.loop-write.write-index c.loop-write-test.false)
