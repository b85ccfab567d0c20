-- A page of zeros has entries of 0.
use Rattle.std.proofs.Common.{◌≡◌, ℕ, zero, suc, ◌-◌, ◌*◌, ◌<◌, ◌≤◌, refl, replicate, arith}
use Rattle.std.proofs.lemmas.List.{drop-replicate}
use Rattle.byteorder.specs.Endian.{little_number}
use Rattle.page_device.specs.Block.{zero_block}
use Rattle.page_layout.specs.Numbers.{number_at, entry_of}

four_zeros : (n : ℕ) → 4 ≤ n → little_number 4 (replicate n 0) ≡ 0
four_zeros (suc (suc (suc (suc n)))) h = refl
four_zeros zero h = absurd (omega arith)
four_zeros (suc zero) h = absurd (omega arith)
four_zeros (suc (suc zero)) h = absurd (omega arith)
four_zeros (suc (suc (suc zero))) h = absurd (omega arith)

pub zero_entry : (i : ℕ) → i < 1024 → entry_of zero_block i ≡ 0
unfolding number_at
zero_entry i lt = rw (drop-replicate (4 * i) 4096 zero) (four_zeros (4096 - 4 * i) (omega arith))
