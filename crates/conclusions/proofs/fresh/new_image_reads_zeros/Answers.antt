use Rattle.std.proofs.Common.{◌≡◌, ◌⊎◌, ◌∙◌, ◌++◌, ℕ, true, List, ap, refl, subst, arith, lit<}
use Rattle.byte_ports.specs.Source.{SourceMeaning}
use Rattle.page_device.specs.Possible.{newest_at_rest}
use Rattle.cli_words.specs.declared.jobs.Job.TheVariants as job
use Rattle.trace_text.specs.declared.command.Command.TheVariants.{Read}
use Rattle.trace_text.specs.declared.reply.Reply.{Reply}
use Rattle.trace_text.specs.Texts.{text_of, formatted_line}
use Rattle.array_model.specs.Images.{fit, IsFit}
use Rattle.array_model.specs.Turns.{lines_in}
use Rattle.session.specs.declared.status.Status.{Status}
use Rattle.session.specs.Chain.{turns_of}
use Rattle.session.specs.Run.{NoneDone, FormatOutcome, new_shape, session_start}
use Rattle.conclusions.proofs.Turns.{only_of, one_said}
use Rattle.conclusions.proofs.Arrays.{one_over, is_read_zero, read_zero}
use Rattle.conclusions.proofs.Formats.{fresh_from, zeros_read}
use Rattle.conclusions.proofs.fresh.new_image_reads_zeros.Goals as goal

pub returns : goal.returns
returns g c = λ made is none.
    let d0 = g.D.Device.seen c.args.device.now in
    let d = g.D.Device.seen c.run-first.new.device in
    let d' = g.D.Device.seen c.serve-second.new.device in
    let source0 = g.S.Source.seen c.args.source.now in
    let source = g.S.Source.seen c.run-first.new.source in
    let sink0 = g.K.Sink.seen c.args.sink.now in
    let sink = g.K.Sink.seen c.run-first.new.sink in
    let sink' = g.K.Sink.seen c.serve-second.new.sink in
    let f = fresh_from 4 4 d0 d source0 source sink0 sink c.requires.honest c.requires.pages
    (subst (λ (status : Status). NoneDone status d0 d source0 source sink0 sink ⊎ (FormatOutcome (new_shape 4 4) status d0 d sink0 sink × (source ≡ source0))) made (c.run-first.ensures.outcome.done (job.Format 4 4) c.requires.making)) in
    let ready = f.0.ready in
    let h = c.serve-second.ensures.done is in
    let good = subst IsFit (newest_at_rest d.state ready.rest) (h.fit ready.honest ready.tells_pages) in
    let tells : source.tells ≡ true = ap (λ (m : SourceMeaning). m.tells) f.1 ∙ c.requires.source in
    let o = one_said _ (Read 0) (only_of _ (Read 0) c.parse.result is_read_zero refl c.parse.ensures.only) d d' source _ sink sink' h tells (ap (λ (m : SourceMeaning). lines_in m.left) f.1 ∙ ap lines_in c.requires.input ∙ read_zero) in
    let over = one_over c.works_end.ensures (session_start fit d) (turns_of h.links) o.turn h.calls (Read 0) d' refl (lit< tt) ready.tells_pages o.one o.asked (h.kept ready fit good) in
    let zeros = zeros_read d d' o.turn.answer h.shape.pages f.0.image o.sure (omega (arith, none, o.counted (omega (arith, none)))) over in
    let told : sink.tells ≡ true = f.0.put.tells ∙ c.requires.sink in
    (o.turn.at, o.put.held told ∙ ap (λ (l : List ℕ). l ++ text_of o.turn.at o.turn.answer) (f.0.put.held c.requires.sink) ∙ ap (λ (r : Reply). (sink0.held ++ formatted_line 4 4) ++ text_of o.turn.at r) zeros)
