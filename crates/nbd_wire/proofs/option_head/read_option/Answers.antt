use Rattle.std.proofs.Common.{sym, ap, ◌∙◌, arith}
use Rattle.std.specs.Prelude.{ℕ, List, Ok, slice_range}
use Rattle.nbd_wire.specs.declared.option_head.OptionHead.{OptionHead}
use Rattle.nbd_wire.specs.BigEndian.{four_bytes_tell, eight_bytes_tell}
use Rattle.nbd_wire.proofs.OptionParts.{magic_at, number_at, length_at, same_head}
use Rattle.nbd_wire.proofs.option_head.read_option.Goals as goal

pub returns-then-u64_at-ne-OPTION_MAGIC-clause-magic : goal.returns-then-u64_at-ne-OPTION_MAGIC-clause-magic
returns-then-u64_at-ne-OPTION_MAGIC-clause-magic c =
    (λ never. absurd (cc never), λ is. absurd (c.if-u64_at-ne-OPTION_MAGIC.true (eight_bytes_tell _ _ c.u64_at.type_inv (omega arith) (c.u64_at.ensures ∙ is))))

pub returns-then-u64_at-ne-OPTION_MAGIC-clause-exact : goal.returns-then-u64_at-ne-OPTION_MAGIC-clause-exact
returns-then-u64_at-ne-OPTION_MAGIC-clause-exact c head fits is =
    absurd (c.if-u64_at-ne-OPTION_MAGIC.true (eight_bytes_tell _ _ c.u64_at.type_inv (omega arith)
    (c.u64_at.ensures ∙ ap (λ (message : List ℕ). slice_range message 0 8) (sym is) ∙ magic_at head)))

pub returns-clause-exact : goal.returns-clause-exact
returns-clause-exact c head fits is =
    ap (λ (h : OptionHead). Ok h) (same_head _ head
    (four_bytes_tell _ _ c.u32_at.type_inv fits.number (c.u32_at.ensures ∙ ap (λ (message : List ℕ). slice_range message 8 12) (sym is) ∙ number_at head))
    (four_bytes_tell _ _ c.u32_at-2.type_inv fits.length (c.u32_at-2.ensures ∙ ap (λ (message : List ℕ). slice_range message 12 16) (sym is) ∙ length_at head)))
