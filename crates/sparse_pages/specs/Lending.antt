-- A page that is lent.
use Rattle.std.specs.Prelude.{ℕ, slice_set}
use Rattle.std.specs.Borrow.{Lends, MutBor, Fml}
use Rattle.page_device.specs.Block.{Block}
use Rattle.page_device.specs.contracts.block.Page.{the_row as page_row}
use Rattle.sparse_pages.specs.View.{PagesView}
use Rattle.sparse_pages.specs.contracts.pages.SparsePages.{the_row}

-- with this content of one page
abbrev pub with_page : PagesView → ℕ → Block → PagesView
with_page pages j block = record pages { items = slice_set pages.items j block }

abbrev pub LendsPage : MutBor PagesView → ℕ → MutBor Block → Fml
LendsPage pages j lent = Lends the_row page_row pages lent (with_page pages.now j)
