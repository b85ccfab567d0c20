use Rattle.std.proofs.Common.{sym, ap, ◌∙◌, arith}
use Rattle.std.specs.Prelude.{ℕ, List, Ok, slice_range}
use Rattle.nbd_wire.specs.declared.request.Request.{Request}
use Rattle.nbd_wire.specs.BigEndian.{four_bytes, two_bytes_tell, four_bytes_tell, eight_bytes_tell}
use Rattle.nbd_wire.proofs.Parts.{all_of, and_read}
use Rattle.nbd_wire.proofs.RequestParts.{magic_at, flags_at, kind_at, cookie_at, offset_at, length_at, same_request}
use Rattle.nbd_wire.proofs.request.read_request.Goals as goal

pub returns-then-u32_at-ne-REQUEST_MAGIC-clause-magic : goal.returns-then-u32_at-ne-REQUEST_MAGIC-clause-magic
returns-then-u32_at-ne-REQUEST_MAGIC-clause-magic c =
    (λ never. absurd (cc never), λ is. absurd (c.if-u32_at-ne-REQUEST_MAGIC.true (four_bytes_tell _ _ c.u32_at.type_inv (omega arith) (c.u32_at.ensures ∙ is))))

pub returns-then-u32_at-ne-REQUEST_MAGIC-clause-exact : goal.returns-then-u32_at-ne-REQUEST_MAGIC-clause-exact
returns-then-u32_at-ne-REQUEST_MAGIC-clause-exact c request fits is =
    absurd (c.if-u32_at-ne-REQUEST_MAGIC.true (four_bytes_tell _ _ c.u32_at.type_inv (omega arith)
    (c.u32_at.ensures ∙ ap (λ (message : List ℕ). slice_range message 0 4) (sym is) ∙ magic_at request)))

pub returns-clause-read : goal.returns-clause-read
returns-clause-read c =
    let magic = ap four_bytes (sym c.if-u32_at-ne-REQUEST_MAGIC.false) ∙ c.u32_at.ensures in
    let flags = and_read c.args.bytes.now _ _ 4 2 magic c.u16_at.ensures in
    let kind = and_read c.args.bytes.now _ _ 6 2 flags c.u16_at-2.ensures in
    let cookie = and_read c.args.bytes.now _ _ 8 8 kind c.u64_at.ensures in
    let offset = and_read c.args.bytes.now _ _ 16 8 cookie c.u64_at-2.ensures in
    let length = and_read c.args.bytes.now _ _ 24 4 offset c.u32_at-2.ensures in
    sym (all_of c.args.bytes.now _ 28 c.told-bytes (sym length))

pub returns-clause-exact : goal.returns-clause-exact
returns-clause-exact c request fits is =
    ap (λ (r : Request). Ok r) (same_request _ request
    (two_bytes_tell _ _ c.u16_at.type_inv fits.flags (c.u16_at.ensures ∙ ap (λ (message : List ℕ). slice_range message 4 6) (sym is) ∙ flags_at request))
    (two_bytes_tell _ _ c.u16_at-2.type_inv fits.kind (c.u16_at-2.ensures ∙ ap (λ (message : List ℕ). slice_range message 6 8) (sym is) ∙ kind_at request))
    (eight_bytes_tell _ _ c.u64_at.type_inv fits.cookie (c.u64_at.ensures ∙ ap (λ (message : List ℕ). slice_range message 8 16) (sym is) ∙ cookie_at request))
    (eight_bytes_tell _ _ c.u64_at-2.type_inv fits.offset (c.u64_at-2.ensures ∙ ap (λ (message : List ℕ). slice_range message 16 24) (sym is) ∙ offset_at request))
    (four_bytes_tell _ _ c.u32_at-2.type_inv fits.length (c.u32_at-2.ensures ∙ ap (λ (message : List ℕ). slice_range message 24 28) (sym is) ∙ length_at request)))
