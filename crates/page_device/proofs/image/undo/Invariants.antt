use Rattle.std.proofs.Common.{◌≡◌, ◌≤◌, length, take}
use Rattle.page_device.specs.Memory.{taken_pages, undone}
use Rattle.page_device.proofs.image.undo.Given as goal

abbrev pub invariant-loop-i : goal.invariant-loop-i
invariant-loop-i l = record {
  pages : undone l.pages.items (taken_pages (take l.i l.entries)) (take l.left l.replaced) ≡ undone l.initial.pages.items (taken_pages l.entries) l.replaced;
  left : l.left ≡ length (taken_pages (take l.i l.entries));
  within : l.left ≤ length l.replaced;
  bound : l.i ≤ length l.entries;
}
