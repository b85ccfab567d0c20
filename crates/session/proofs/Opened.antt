-- A session over a device that was only looked at before is one over the device as it was.
use Rattle.std.proofs.Common.{◌≡◌, ℕ, ◌≤◌, true, List, ◌++◌, length, sym, ◌∙◌, ap, subst}
use Rattle.page_device.specs.declared.device.LogEntry.{LogEntry}
use Rattle.page_device.specs.Disk.{DeviceState, state_after}
use Rattle.page_device.specs.Counts.{Rises}
use Rattle.page_device.specs.Gains.{Gains}
use Rattle.page_device.specs.Meaning.{Meaning}
use Rattle.page_device.specs.Moments.{kind_then}
use Rattle.image_reader.specs.Looked.{Looked}
use Rattle.array_model.specs.Images.{left_mode}
use Rattle.array_model.specs.Turns.{Turn, WorksLeave, SurvivesCrash}
use Rattle.session.specs.Session.{Start, start_rules, Close, works_done, Kept}

-- the same device calls
pub gains_from : (calls : List LogEntry) (a b c : Meaning) → Looked a b → Gains calls b c → Gains calls a c
gains_from calls a b c looked h = record {
  counted = subst (λ (n : ℕ). Rises (length calls) n c.calls) looked.calls h.counted;
  grows = λ t. subst (λ (l : List LogEntry). Rises (length calls) (length l) (length c.log)) (looked.log t) (h.grows (looked.kind.tells_log ∙ t));
  log = λ t few. h.log (looked.kind.tells_log ∙ t) few ∙ ap (λ (l : List LogEntry). l ++ calls) (looked.log t);
  state = λ t. h.state (looked.kind.tells_pages ∙ t) ∙ ap (λ (s : DeviceState). state_after s calls) (looked.state t);
  kind = kind_then a b c looked.kind h.kind;
}

module _ (s : Start) (begun d : Meaning) (looked : Looked s.device begun) (tells : s.device.tells_pages ≡ true) where
  abbrev later : Start
  later = record { mode = s.mode; array = s.array; shape = s.shape; at = s.at; device = begun }

  pub kept_from : (turns : List Turn) (close : Close) → Kept later turns close d → Kept s turns close d
  kept_from turns close h = record {
    run = h.run;
    gains = gains_from _ s.device begun d looked h.gains;
    leave = subst (λ (x : DeviceState). WorksLeave (left_mode s.mode) (start_rules s) s.array x (works_done turns close)) (looked.state tells) h.leave;
    survives = subst (λ (x : DeviceState). SurvivesCrash (left_mode s.mode) (start_rules s) s.array x (works_done turns close)) (looked.state tells) h.survives;
  }
