use Rattle.std.proofs.Common.{◌∙◌, ap, refl}
use Rattle.trace_text.specs.declared.command.Command.TheVariants.{Flush}
use Rattle.trace_text.specs.declared.reply.Reply.TheVariants as reply
use Rattle.array_model.specs.Turns.{lines_in}
use Rattle.session.specs.Chain.{turns_of}
use Rattle.conclusions.proofs.Turns.{only_of, one_said, puts_reply, is_flush, a_flush, flush_is_done}
use Rattle.conclusions.proofs.single.flush_without_fault.Goals as goal

pub returns : goal.returns
returns g c = λ is same few.
    let d = g.D.Device.seen c.args.device.now in
    let d' = g.D.Device.seen c.serve.new.device in
    let source = g.S.Source.seen c.args.source.now in
    let sink = g.K.Sink.seen c.args.sink.now in
    let sink' = g.K.Sink.seen c.serve.new.sink in
    let h = c.serve.ensures.done is in
    let only = only_of _ Flush c.parse.result is_flush refl c.parse.ensures.only in
    let o = one_said _ Flush only d d' source _ sink sink' h c.requires.source (ap lines_in c.requires.input ∙ a_flush) in
    puts_reply h.shape Flush (turns_of h.links) h.calls d d' sink sink' o reply.Done c.requires.sink (flush_is_done h.shape (turns_of h.links) h.calls d d' sink sink' same few o)
