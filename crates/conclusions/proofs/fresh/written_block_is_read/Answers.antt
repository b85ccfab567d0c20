use Rattle.std.proofs.Common.{◌≡◌, ◌⊎◌, inl, inr, ◌∙◌, ◌++◌, length, ap, sym, refl, subst, arith}
use Rattle.page_device.specs.Block.{numbered_block}
use Rattle.page_device.specs.Possible.{newest_at_rest}
use Rattle.page_layout.specs.Tables.{shape_of}
use Rattle.trace_text.specs.declared.command.Command.TheVariants.{Write, Read}
use Rattle.array_model.specs.Images.{IsFit}
use Rattle.array_model.specs.Turns.{lines_in}
use Rattle.session.specs.declared.status.Status.{Status}
use Rattle.session.specs.declared.status.Status.TheVariants as status
use Rattle.trace_text.specs.declared.reply.Reply.TheVariants as reply
use Rattle.session.specs.Statuses.{last_text}
use Rattle.conclusions.specs.Sentences.{PutsTwo}
use Rattle.session.specs.Flat.{Session, EndsOverFit}
use Rattle.conclusions.proofs.Turns.{only_of}
use Rattle.conclusions.proofs.Arrays.{is_write_five, is_read_zero}
use Rattle.conclusions.proofs.NewImage.{five_put, write_and_read}
use Rattle.conclusions.proofs.fresh.written_block_is_read.Goals as goal

-- how a session may end that no fault ended
by_status : (P : Status → Type 0) (s : Status) → EndsOverFit s → (s ≡ status.SourceFault → ⊥) → (s ≡ status.SinkFault → ⊥) → (s ≡ status.DeviceFault → ⊥) → (s ≡ status.InputLimit → ⊥)
    → (s ≡ status.Done → P s) → (s ≡ status.NoMemory → P s) → P s
by_status P status.Done ends source sink device limit done memory = done refl
by_status P status.Usage ends source sink device limit done memory = absurd ends
by_status P status.SourceFault ends source sink device limit done memory = absurd (source refl)
by_status P status.SinkFault ends source sink device limit done memory = absurd (sink refl)
by_status P status.DeviceFault ends source sink device limit done memory = absurd (device refl)
by_status P status.NotFormatted ends source sink device limit done memory = absurd ends
by_status P (status.Unsound found) ends source sink device limit done memory = absurd ends
by_status P status.NoMemory ends source sink device limit done memory = memory refl
by_status P status.InputLimit ends source sink device limit done memory = absurd (limit refl)

pub returns : goal.returns
returns g c = λ source_calm sink_calm calm.
    let d = g.D.Device.seen c.args.device.now in
    let d' = g.D.Device.seen c.serve.new.device in
    let source = g.S.Source.seen c.args.source.now in
    let source' = g.S.Source.seen c.serve.new.source in
    let sink = g.K.Sink.seen c.args.sink.now in
    let sink' = g.K.Sink.seen c.serve.new.sink in
    let ready = c.requires.device in
    let image = d.state.fixed in
    let good : IsFit image = c.images_weaken.ensures.fit image (c.images_weaken.ensures.sound image c.requires.image.tight) in
    let newest = newest_at_rest d.state ready.rest in
    let serve = c.serve.ensures in
    let ends : EndsOverFit c.serve.result = c.fit_session.ensures c.serve.result d d' source source' sink sink' ready.honest ready.tells_pages (subst IsFit (sym newest) good) serve.session in
    by_status (λ (s : Status). ((s ≡ status.Done) × PutsTwo reply.Done (reply.Bytes (numbered_block 5)) d d' sink sink') ⊎ ((s ≡ status.NoMemory) × (sink'.held ≡ sink.held ++ last_text status.NoMemory))) c.serve.result ends
    (λ is. omega (arith, source_calm.0, serve.source_cause is source_calm.1))
    (λ is. omega (arith, sink_calm.0, serve.sink_cause is sink_calm.1))
    (λ is. omega (arith, calm.same, serve.device_cause is calm.few))
    (λ is. omega (arith, c.limit_session.ensures d d' source source' sink sink' c.requires.source (subst (λ (s : Status). Session s d d' source source' sink sink') is serve.session), ap length c.requires.input))
    (λ is.
    let h = serve.done is in
    let shape = sym (h.told ready.honest ready.tells_pages).is ∙ ap shape_of newest ∙ c.requires.image.is in
    let o = only_of _ (Write 0 5) c.parse-write.result is_write_five refl c.parse-write.ensures.only in
    let n = only_of _ (Read 0) c.parse-read.result is_read_zero refl c.parse-read.ensures.only in
    inl (is, five_put _ _ o n d d' source _ sink sink' h ready c.requires.image good shape calm c.requires.sink c.requires.source (ap lines_in c.requires.input ∙ write_and_read)))
    (λ is. inr (is, (c.memory_session.ensures.put d d' source source' sink sink' (subst (λ (s : Status). Session s d d' source source' sink sink') is serve.session)).held c.requires.sink))
