-- What a step of a count page does to words, and which pages are free.
use Rattle.std.proofs.Common.{◌≡◌, ℕ, true, false, refl}
use Rattle.order_model.specs.Pool.{new_pool}
use Rattle.page_alloc.specs.Bits.{is_one}
use Rattle.page_alloc.specs.Marks.{told_in, no_told}
use Rattle.page_alloc.proofs.BitLemmas.{none_is}

-- so many fresh pages
pub fresh_bit : (word i : ℕ) → is_one word i ≡ true → told_in (record { zero = word; tried = 0; newest = 0 }) i ≡ new_pool i
fresh_bit word i is = rw (is, none_is i) refl

pub behind_bit : (word i : ℕ) → is_one word i ≡ false → told_in (record { zero = word; tried = 0; newest = 0 }) i ≡ no_told
behind_bit word i is = rw (is, none_is i) refl
