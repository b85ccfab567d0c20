use Rattle.std.proofs.Common.{arith, ap, ◌∙◌, ◌≡◌, ℕ, List, ◌-◌, ◌+◌, length, take, drop, ◌++◌, ◌≤◌, length-drop}
use borrow.Rule.Slice.PartMut.{put_mid}
use Rattle.std.proofs.lemmas.List.{take_rest, drop_all, append-nil}
use Rattle.byteorder.specs.Endian.{little_bytes}
use Rattle.page_layout.proofs.Bytes.{sets_number}
use Rattle.page_layout.proofs.numbers.set_number.Goals as goal

-- a write of all that is left
whole : (p buf : List ℕ) (at value : ℕ) → at + 4 ≤ length p → buf ≡ little_bytes 4 value ++ drop 4 (take (length p - at) (drop at p))
    → put_mid at (length p - at) p buf ≡ take at p ++ (little_bytes 4 value ++ drop 4 (drop at p))
whole p buf at value fits is =
    ap (λ (l : List ℕ). take at p ++ l) (ap (λ (l : List ℕ). buf ++ l) (drop_all (length p - at) (drop at p) (omega (arith, length-drop at p))) ∙ append-nil buf ∙ is
    ∙ ap (λ (l : List ℕ). little_bytes 4 value ++ drop 4 l) (take_rest p at))

pub returns : goal.returns
returns c = sets_number c.args.bytes.now c.args.at c.args.value _ c.requires (omega arith) (whole c.args.bytes.now c.write_u32.new.buf c.args.at c.args.value c.requires c.write_u32.ensures)
