-- Numbers as bytes, the highest first.
use Rattle.std.specs.Prelude.{◌≡◌, ℕ, ◌<◌, ◌^◌, List}
use Rattle.std.specs.Int.{w16, w32, w64, to_be_bytes, from_be_bytes}
use Rattle.std.proofs.Common.{ap, sym, ◌∙◌}
use Rattle.std.proofs.lemmas.Nat.{from_be_bytes-to_be_bytes_2, from_be_bytes-to_be_bytes_4, from_be_bytes-to_be_bytes_8}

-- the two, four or eight bytes of a number
unfoldable pub two_bytes : ℕ → List ℕ
two_bytes n = to_be_bytes w16 n

unfoldable pub four_bytes : ℕ → List ℕ
four_bytes n = to_be_bytes w32 n

unfoldable pub eight_bytes : ℕ → List ℕ
eight_bytes n = to_be_bytes w64 n

-- they tell the number
pub two_bytes_tell : (m n : ℕ) → m < 2 ^ 16 → n < 2 ^ 16 → two_bytes m ≡ two_bytes n → m ≡ n
unfolding two_bytes
two_bytes_tell m n m_fits n_fits same = sym (from_be_bytes-to_be_bytes_2 m m_fits) ∙ ap (from_be_bytes w16) same ∙ from_be_bytes-to_be_bytes_2 n n_fits

pub four_bytes_tell : (m n : ℕ) → m < 2 ^ 32 → n < 2 ^ 32 → four_bytes m ≡ four_bytes n → m ≡ n
unfolding four_bytes
four_bytes_tell m n m_fits n_fits same = sym (from_be_bytes-to_be_bytes_4 m m_fits) ∙ ap (from_be_bytes w32) same ∙ from_be_bytes-to_be_bytes_4 n n_fits

pub eight_bytes_tell : (m n : ℕ) → m < 2 ^ 64 → n < 2 ^ 64 → eight_bytes m ≡ eight_bytes n → m ≡ n
unfolding eight_bytes
eight_bytes_tell m n m_fits n_fits same = sym (from_be_bytes-to_be_bytes_8 m m_fits) ∙ ap (from_be_bytes w64) same ∙ from_be_bytes-to_be_bytes_8 n n_fits
