-- Where calls of the device stop that a failure ends.
use Rattle.std.specs.Prelude.{◌≡◌, ◌++◌, ◌∷◌, [], List, Result, IsErr}
use Rattle.page_device.specs.declared.device.LogEntry.{LogEntry}
use Rattle.page_device.specs.declared.error.Failed.{Failed}
use Rattle.page_device.specs.Meaning.{Meaning}
use Rattle.store_core.specs.declared.Core.{Core}
use Rattle.store_core.specs.Quiet.{Flows}
use Rattle.store_core.specs.Stands.{EndsDone}

-- calls of which the last did not end done
pub record EndUndone (calls : List LogEntry) : Type 0 where
  pub front : List LogEntry
  pub last : LogEntry
  pub split : calls ≡ front ++ last ∷ []
  pub undone : EndsDone last → ⊥

-- the calls flow, and those that failed stopped at one that did not end done
pub record FlowEnds (result : Result Unit Failed) (d e : Meaning) (old new : Core) : Type 0 where
  pub flows : Flows d e old new
  pub stopped : IsErr result → EndUndone flows.passes.calls
