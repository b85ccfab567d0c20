use Rattle.std.proofs.Common.{◌≡◌, take}
use Rattle.page_device.proofs.image.copy_all.Given as goal

abbrev pub invariant-loop-page : goal.invariant-loop-page
invariant-loop-page l = l.copy.items ≡ take l.page-index l.pages
