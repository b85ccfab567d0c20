use Rattle.std.proofs.Common.{List, drop}
use Rattle.page_device.specs.Block.{Block}
use Rattle.page_device.specs.Chosen.{IsChosen}
use Rattle.page_device.proofs.image.set_some.Given as goal

abbrev pub invariant-loop-write : goal.invariant-loop-write
invariant-loop-write l = (image : List Block) → IsChosen (record { fixed = l.pages.items; since = drop l.write-index l.writes }) l.left.items image
    → IsChosen (record { fixed = l.initial.pages.items; since = l.writes }) l.initial.left.items image
