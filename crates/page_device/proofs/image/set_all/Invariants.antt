use Rattle.std.proofs.Common.{◌≡◌, drop}
use Rattle.page_device.specs.Disk.{overlay}
use Rattle.page_device.proofs.image.set_all.Given as goal

abbrev pub invariant-loop-write : goal.invariant-loop-write
invariant-loop-write l = overlay l.pages.items (drop l.write-index l.writes) ≡ overlay l.initial.pages.items l.writes
