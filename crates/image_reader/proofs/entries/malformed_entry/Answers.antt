use Rattle.std.proofs.Common.{sym, refl, subst, IsNone}
use Rattle.page_layout.proofs.TablePages.{entries_of_page}
use Rattle.image_reader.proofs.ZeroTables.{zeros_formed}
use Rattle.image_reader.proofs.entries.malformed_entry.Goals as goal

pub returns-then-is_zero : goal.returns-then-is_zero
returns-then-is_zero c = λ t is. zeros_formed t c.args.shape.now c.args.k c.args.page.now (c.is_zero.ensures.zero.0 c.if-is_zero.true)

pub returns-in-None : goal.returns-in-None
returns-in-None c = λ t is. entries_of_page t c.args.shape.now c.args.k c.args.page.now ((c.table_fault.ensures.none t is).0 (subst IsNone (sym c.in-None.is) refl))
