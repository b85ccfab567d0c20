use Rattle.std.proofs.Common.{◌≡◌, ⊎_elim, slice_index, ◌∙◌, ap, arith, bit_or}
use Rattle.std.specs.Int.Bits.{or_zero_r}
use Rattle.std.proofs.lemmas.Bool.{cases_eq}
use Rattle.std.proofs.lemmas.Nat.{le_or_l, le_or_r}
use Rattle.page_device.proofs.block.some_bits.Goals as goal

pub loop-byte-preserved : goal.loop-byte-preserved
loop-byte-preserved c =
    let bytes = c.args.bytes.now in
    let at = c.loop-byte.byte-index in
    let some = c.loop-byte.some in
    let byte = slice_index bytes at in
    record {
      none = λ none i lt. ⊎_elim
          (λ same. omega (arith, none, le_or_r some byte, ap (slice_index bytes) same))
          (λ other. c.loop-byte.invariant.none (omega (arith, none, le_or_l some byte)) i (omega (arith, lt, other)))
          (cases_eq i at);
      all = λ zero.
          let before : some ≡ 0 = c.loop-byte.invariant.all (λ i lt. zero i (omega (arith, lt))) in
          let here : byte ≡ 0 = zero at (omega arith) in
          ap (bit_or some) here ∙ or_zero_r some ∙ before;
    }
