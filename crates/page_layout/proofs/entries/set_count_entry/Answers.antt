use Rattle.std.proofs.Common.{ℕ, List, subst}
use Rattle.page_layout.specs.Numbers.{SetsEntry}
use Rattle.page_layout.proofs.Bytes.{sets_entry}
use Rattle.page_layout.proofs.entries.set_count_entry.Goals as goal

pub returns : goal.returns
returns c = subst (λ (l : List ℕ). SetsEntry l c.args.i c.args.count c.set_number.new.bytes) c.page.view_is (sets_entry c.page.inside.0 c.args.i c.args.count c.set_number.new.bytes c.set_number.ensures)
