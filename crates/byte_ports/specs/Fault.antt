-- That a failed call is a counted fault, also where it is many calls of a port.
use Rattle.std.specs.Prelude.{◌≡◌, ℕ, ◌+◌, ◌<◌, ◌≤◌, ◌^◌, Result, IsErr}
use Rattle.std.proofs.Common.{arith, ⊎_elim}
use Rattle.std.proofs.lemmas.Bool.{cases_lt}

-- no fault was counted, and the count is not at its end
abbrev pub NoneCounted : ℕ → ℕ → Type 0
NoneCounted old new = (new ≡ old) × (old + 1 < 2 ^ 64)

-- the count of faults never falls, and an error raises it; a count at its end may stand still
pub record CountsFault {T E : Type 0} (result : Result T E) (old new : ℕ) : Type 0 where
  pub never_falls : old ≤ new
  pub failed : IsErr result → old + 1 < 2 ^ 64 → old < new

-- counted since an earlier moment
pub counts_since : {T E : Type 0} (result : Result T E) (start old new : ℕ) → start ≤ old → CountsFault result old new → CountsFault result start new
counts_since result start old new le c = record {
  never_falls = omega (arith, le, c.never_falls);
  failed = λ err few. ⊎_elim
      (λ room. omega (arith, le, c.failed err room))
      (λ full. omega (arith, few, full, c.never_falls))
      (cases_lt (old + 1) (2 ^ 64));
}
