use Rattle.std.proofs.Common.{◌≡◌, ◌≤◌, ◌<◌, ◌+◌, ◌-◌, ℕ, length}
use Rattle.page_layout.specs.Shape.{first_print_page, print_pages}
use Rattle.page_layout.specs.Tables.{page_of}
use Rattle.image_reader.specs.Looked.{Looked, Holds, Reads}
use Rattle.image_check.specs.Steps.{FormedBelow}
use Rattle.image_check.proofs.prints.look_at_prints.Given as goal

abbrev pub invariant-loop-k : goal.invariant-loop-k
invariant-loop-k g l =
    let seen = g.D.Device.seen in
    record {
      looked : Looked (seen l.fn.device) (seen l.device);
      pages : (seen l.device).pages ≡ (seen l.fn.device).pages;
      faults : (seen l.fn.device).faults ≤ (seen l.device).faults;
      reads : Reads (l.k - first_print_page l.fn.shape) (seen l.fn.device) (seen l.device);
      formed : Holds (λ image. FormedBelow (first_print_page l.fn.shape) l.fn.shape image → FormedBelow l.k l.fn.shape image) (seen l.fn.device);
      items : length l.prints.items ≡ l.k - first_print_page l.fn.shape;
      limit : l.prints.limit ≡ print_pages l.fn.shape;
      kept : Holds (λ image. (j : ℕ) → j < length l.prints.items → page_of l.prints.items j ≡ page_of image (first_print_page l.fn.shape + j)) (seen l.fn.device);
    }
