-- How many numbers below a bound pass a test, and the sum of what stands at each.
use Rattle.std.specs.Prelude.{ℕ, zero, suc, true, ◌+◌, ◌<◌, ◌≡◌, ◌≤◌, Bool, if◌then◌else◌}

unfoldable pub count_below : (ℕ → Bool) → ℕ → ℕ
count_below test zero = 0
count_below test (suc n) = (if test n then 1 else 0) + count_below test n

unfoldable pub sum_below : (ℕ → ℕ) → ℕ → ℕ
sum_below at zero = 0
sum_below at (suc n) = at n + sum_below at n

-- at most k numbers below n have P: each set of them that a test can tell has at most k
abbrev pub AtMost : ℕ → (ℕ → Type 0) → ℕ → Type 0
AtMost n P k = (S : ℕ → Bool) → ((l : ℕ) → l < n → S l ≡ true → P l) → count_below S n ≤ k
