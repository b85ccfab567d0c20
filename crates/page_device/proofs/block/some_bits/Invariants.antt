use Rattle.std.proofs.Common.{◌≡◌, ℕ, ◌<◌, slice_index}
use Rattle.page_device.proofs.block.some_bits.Given as goal

abbrev pub invariant-loop-byte : goal.invariant-loop-byte
invariant-loop-byte l = record {
  none : l.some ≡ 0 → (i : ℕ) → i < l.byte-index → slice_index l.bytes i ≡ 0;
  all : ((i : ℕ) → i < l.byte-index → slice_index l.bytes i ≡ 0) → l.some ≡ 0;
}
