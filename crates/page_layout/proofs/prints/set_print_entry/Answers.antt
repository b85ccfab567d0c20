use Rattle.std.proofs.Common.{◌≡◌, ℕ, ◌+◌, ◌*◌, ◌-◌, List, ◌++◌, length, take, drop, subst, ap, ◌∙◌, refl, arith}
use borrow.Rule.Slice.PartMut.{put_mid}
use Rattle.page_layout.specs.Entries.{SetsPrint, print_bytes}
use Rattle.page_layout.proofs.PrintEntries.{sets_print}
use Rattle.page_layout.proofs.prints.set_print_entry.Goals as goal

-- 24 bytes in the place of 24
placed : (p bytes entry : List ℕ) (at : ℕ) → bytes ≡ entry → put_mid at (at + 24 - at) p bytes ≡ take at p ++ (entry ++ drop 24 (drop at p))
placed p bytes entry at is = let n : at + 24 - at ≡ 24 = omega arith in rw (n, is) refl

pub returns : goal.returns
returns c =
    let new : List ℕ = put_mid (24 * c.args.i) (24 * c.args.i + 24 - 24 * c.args.i) c.page.inside.0 c.copy_from_slice.new.self in
    subst (λ (l : List ℕ). SetsPrint l c.args.i c.args.print new) c.page.view_is
    (sets_print c.page.inside.0 c.args.i c.args.print new c.requires (omega (arith, c.page.told)) (omega (arith, ap length c.entry_bytes.ensures)) (placed c.page.inside.0 c.copy_from_slice.new.self (print_bytes c.args.print) (24 * c.args.i) (c.copy_from_slice.ensures.after ∙ c.entry_bytes.ensures)))
