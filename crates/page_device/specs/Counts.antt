-- Counters that stand still at their end, and what a call does to a count of faults.
use Rattle.std.specs.Prelude.{◌≡◌, ℕ, ◌+◌, ◌≤◌, min, Result, IsOk, IsErr}
use Rattle.std.proofs.Common.{arith}

-- a count that rises, and stands still at the end of a `u64`
abbrev pub raised : ℕ → ℕ → ℕ
raised count more = min (count + more) 18446744073709551615

-- a length rose by so many, and by fewer only from where a `u64` can't count them
pub record Rises (more old new : ℕ) : Type 0 where
  pub never_falls : old ≤ new
  pub at_most : new ≤ old + more
  pub counted : old + more ≤ 18446744073709551615 → new ≡ old + more

-- no rise
pub rises_none : (n : ℕ) → Rises 0 n n
rises_none n = record { never_falls = omega arith; at_most = omega arith; counted = λ _. omega arith }

-- one rise after another
pub rises_then : (more further a b c : ℕ) → Rises more a b → Rises further b c → Rises (more + further) a c
rises_then more further a b c h k = record {
  never_falls = omega (arith, h.never_falls, k.never_falls);
  at_most = omega (arith, h.at_most, k.at_most);
  counted = λ few. let first : b ≡ a + more = h.counted (omega (arith, few)) in omega (arith, first, k.counted (omega (arith, few, first)));
}

-- one call counts a fault where it fails, and none where it succeeds
pub record OneFault {T E : Type 0} (result : Result T E) (old new : ℕ) : Type 0 where
  pub never_falls : old ≤ new
  pub failed : IsErr result → new ≡ raised old 1
  pub calm : IsOk result → new ≡ old
