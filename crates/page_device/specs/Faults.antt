-- That a device counted no fault from one moment to another.
use Rattle.std.specs.Prelude.{◌≡◌, ◌+◌, ◌<◌, ◌≤◌, ◌^◌}
use Rattle.std.proofs.Common.{arith}
use Rattle.page_device.specs.Meaning.{Meaning}

-- its count is not at its end
pub record IsCalm (old new : Meaning) : Type 0 where
  pub same : new.faults ≡ old.faults
  pub few : old.faults + 1 < 2 ^ 64

-- a part of what was calm was calm, since a count never falls
pub calm_first : (a b c : Meaning) → a.faults ≤ b.faults → b.faults ≤ c.faults → IsCalm a c → IsCalm a b
calm_first a b c first next calm = record { same = omega (arith, first, next, calm.same); few = calm.few }

pub calm_next : (a b c : Meaning) → a.faults ≤ b.faults → b.faults ≤ c.faults → IsCalm a c → IsCalm b c
calm_next a b c first next calm = record { same = omega (arith, first, next, calm.same); few = omega (arith, first, next, calm.same, calm.few) }
