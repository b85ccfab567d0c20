use Rattle.std.proofs.Common.{ℕ, ◌-◌, None, refl, ◌∙◌, ap, subst}
use Rattle.page_device.specs.Disk.{newest}
use Rattle.image_check.specs.Steps.{PrintsTo}
use Rattle.image_check.proofs.Judging.{zero_verdict, sound_verdict, waste_is}
use Rattle.image_check.proofs.checking.judge.Goals as goal

pub returns-in-Ok-Some-clause-verdict : goal.returns-in-Ok-Some-clause-verdict
returns-in-Ok-Some-clause-verdict g c = λ honest tells has told are ready _.
    let shape = c.args.shape.now in
    let image = newest (g.D.Device.seen c.args.device.now).state in
    zero_verdict shape image told has c.args.counts.now ready c.in-Ok-Some.page (subst (PrintsTo shape.pages image) c.in-Ok-Some.field-0-is (c.in-Ok-Some.ensures.prints honest tells told are ready))

pub returns-in-Ok-None-clause-verdict : goal.returns-in-Ok-None-clause-verdict
returns-in-Ok-None-clause-verdict g c = λ honest tells has told are ready mapped.
    let shape = c.args.shape.now in
    let image = newest (g.D.Device.seen c.args.device.now).state in
    let to : PrintsTo shape.pages image None = subst (PrintsTo shape.pages image) c.in-Ok-None.field-0-is (c.in-Ok-None.ensures.prints honest tells told are ready) in (
      sound_verdict shape image told has c.args.counts.now ready to,
      c.saturating_sub.ensures ∙ ap (λ (m : ℕ). c.sum_of.result - m) c.from.ensures ∙ waste_is shape image told has c.args.counts.now ready c.sum_of.result c.args.mapped shape.pages refl c.sum_of.ensures mapped,
    )
