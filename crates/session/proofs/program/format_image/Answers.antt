use Rattle.std.proofs.Common.{ℕ, List, Err, ◌∙◌, ap, subst, refl}
use Rattle.session.specs.declared.status.Status.TheVariants.{Done}
use Rattle.session.specs.Endings.{LinePut}
use Rattle.session.specs.Run.{formatted, failed}
use Rattle.session.proofs.program.format_image.Goals as goal

pub returns-in-Ok-clause-outcome : goal.returns-in-Ok-clause-outcome
returns-in-Ok-clause-outcome g c = formatted (c.in-Ok.ensures.done refl) (c.in-Ok.ensures.calm refl)
    (subst (λ (l : List ℕ). LinePut l Done c.end_with_line.result (g.K.Sink.seen c.args.sink.now) (g.K.Sink.seen c.end_with_line.new.sink)) (c.bytes.ensures ∙ c.formatted_text.ensures) c.end_with_line.ensures.put)

pub returns-in-Err-Device-clause-outcome : goal.returns-in-Err-Device-clause-outcome
returns-in-Err-Device-clause-outcome g c =
    let is = ap Err c.in-Err-Device.field-0-is in
    failed (c.in-Err-Device.ensures.cause is) (c.in-Err-Device.ensures.failed is) c.end_with.ensures.put
