use Rattle.std.proofs.Common.{◌∙◌, sym, ap, subst}
use Rattle.page_device.specs.Counts.{Rises}
use Rattle.page_device.proofs.Quiet.{quiet_flush}
use Rattle.page_device.proofs.file.FileDeviceDevice.flush.Goals as goal

pub returns-clause-call : goal.returns-clause-call
returns-clause-call g c = quiet_flush _ _ _ _ _ _ _ (c.counted.ensures.pages ∙ c.sync-done.ensures.pages ∙ c.count_call.ensures.pages)
    (subst (Rises 1 c.args.self.now.calls) (sym (c.counted.ensures.calls ∙ c.sync-done.ensures.calls)) c.count_call.ensures.counted)
