use Rattle.std.proofs.Common.{◌≡◌, ◌∙◌, ap, sym, refl}
use Rattle.page_layout.specs.Shape.{ShapeView}
use Rattle.trace_text.specs.declared.command.Command.TheVariants.{Read}
use Rattle.trace_text.specs.declared.reply.Reply.TheVariants as reply
use Rattle.array_model.specs.Turns.{lines_in}
use Rattle.session.specs.Chain.{turns_of}
use Rattle.conclusions.proofs.Turns.{only_of, one_said, puts_reply, is_read_four, read_four, past_the_end}
use Rattle.conclusions.proofs.single.read_past_the_end.Goals as goal

pub returns : goal.returns
returns g c = λ is.
    let d = g.D.Device.seen c.args.device.now in
    let d' = g.D.Device.seen c.serve.new.device in
    let source = g.S.Source.seen c.args.source.now in
    let sink = g.K.Sink.seen c.args.sink.now in
    let sink' = g.K.Sink.seen c.serve.new.sink in
    let h = c.serve.ensures.done is in
    let only = only_of _ (Read 4) c.parse.result is_read_four refl c.parse.ensures.only in
    let o = one_said _ (Read 4) only d d' source _ sink sink' h c.requires.source (ap lines_in c.requires.input ∙ read_four) in
    let four : h.shape.blocks ≡ 4 = ap (λ (s : ShapeView). s.blocks) (sym (h.told c.requires.honest c.requires.pages).is) ∙ c.requires.blocks in
    puts_reply h.shape (Read 4) (turns_of h.links) h.calls d d' sink sink' o reply.Range c.requires.sink (past_the_end h.shape (turns_of h.links) h.calls d d' sink sink' four o)
