use Rattle.std.proofs.Common.{◌∙◌, sym, subst}
use Rattle.page_device.specs.Counts.{Rises}
use Rattle.page_device.proofs.Quiet.{quiet_write}
use Rattle.page_device.proofs.file.FileDeviceDevice.write.Goals as goal

pub returns-clause-call : goal.returns-clause-call
returns-clause-call g c = quiet_write _ _ _ _ _ _ _ _ _ (c.counted-2.ensures.pages ∙ c.count_call.ensures.pages)
    (subst (Rises 1 c.args.self.now.calls) (sym c.counted-2.ensures.calls) c.count_call.ensures.counted)

pub returns-then-self-clause-call : goal.returns-then-self-clause-call
returns-then-self-clause-call g c = quiet_write _ _ _ _ _ _ _ _ _ (c.counted.ensures.pages ∙ c.count_call.ensures.pages)
    (subst (Rises 1 c.args.self.now.calls) (sym c.counted.ensures.calls) c.count_call.ensures.counted)

pub returns-in-Some-clause-call : goal.returns-in-Some-clause-call
returns-in-Some-clause-call g c = quiet_write _ _ _ _ _ _ _ _ _ (c.counted-in-Some.ensures.pages ∙ c.count_call.ensures.pages)
    (subst (Rises 1 c.args.self.now.calls) (sym c.counted-in-Some.ensures.calls) c.count_call.ensures.counted)
