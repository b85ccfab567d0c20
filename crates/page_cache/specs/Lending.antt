-- A page that is lent.
use Rattle.std.specs.Prelude.{ℕ, List, [], ◌∷◌, cond, eqb, true}
use Rattle.std.specs.Box.{with_value}
use Rattle.std.specs.Borrow.{Lends, MutBor, Fml}
use Rattle.page_device.specs.Block.{Block}
use Rattle.page_cache.specs.declared.entries.Entry.{Entry}
use Rattle.page_cache.specs.View.{CacheView}
use Rattle.page_cache.specs.contracts.cache.Cache.{the_row}
use Rattle.page_device.specs.contracts.block.Page.{the_row as page_row}

-- with this content, and dirty
abbrev pub with_edit : Entry → Block → Entry
with_edit e block = record e { content = with_value e.content block; dirty = true }

-- with this content at the page, which is dirty
abbrev pub edited : ℕ → Block → List (ℕ × Entry) → List (ℕ × Entry)
edited page block [] = []
edited page block (e ∷ es) = cond (eqb page e.0) ((e.0, with_edit e.1 block) ∷ es) (e ∷ edited page block es)

abbrev pub with_content : CacheView → ℕ → Block → CacheView
with_content c page block = record c { pages = edited page block c.pages }

abbrev pub LendsPage : MutBor CacheView → ℕ → MutBor Block → Fml
LendsPage c page r = Lends the_row page_row c r (with_content c.now page)
