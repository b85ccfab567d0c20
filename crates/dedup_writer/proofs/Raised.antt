-- Counts of calls, one after another.
use Rattle.std.proofs.Common.{◌≡◌, ℕ, ◌+◌, ◌<◌, ◌^◌, List, ◌++◌, length, sym, arith, min, length-append}
use Rattle.page_device.specs.declared.device.LogEntry.{LogEntry}
use Rattle.dedup_writer.specs.Core.{CountsCalls}

-- one more call
pub counts_one : (calls later : ℕ) → calls < 2 ^ 64 → later ≡ min (calls + 1) 18446744073709551615 → CountsCalls 1 calls later
counts_one calls later bound is = record { never_falls = omega (arith, is, bound); counted = λ _. is }

-- some and then more
pub counts_then : (m n a b c : ℕ) → CountsCalls m a b → CountsCalls n b c → CountsCalls (m + n) a c
counts_then m n a b c h k = record {
  never_falls = omega (arith, h.never_falls, k.never_falls);
  counted = λ low. let e : b ≡ min (a + m) 18446744073709551615 = h.counted low in
      let below : b < 2 ^ 64 = omega (arith, e) in
      let f : c ≡ min (b + n) 18446744073709551615 = k.counted below in
      omega (arith, e, f);
}

-- none
pub counts_none : (calls : ℕ) → CountsCalls 0 calls calls
counts_none calls = record { never_falls = omega arith; counted = λ low. omega (arith, low) }

-- as many as another number
pub counts_same : (m n a b : ℕ) → m ≡ n → CountsCalls m a b → CountsCalls n a b
counts_same m n a b same h = record { never_falls = h.never_falls; counted = λ low. omega (arith, h.counted low, same) }

-- of lists of calls one after another
pub counts_append : (xs ys : List LogEntry) (a b c : ℕ) → CountsCalls (length xs) a b → CountsCalls (length ys) b c → CountsCalls (length (xs ++ ys)) a c
counts_append xs ys a b c h k = counts_same (length xs + length ys) (length (xs ++ ys)) a c (sym (length-append xs ys)) (counts_then (length xs) (length ys) a b c h k)
