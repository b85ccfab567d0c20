use Rattle.std.proofs.Common.{◌∙◌, ap, refl, subst, lit<}
use Rattle.page_device.specs.Possible.{newest_at_rest}
use Rattle.trace_text.specs.declared.command.Command.TheVariants.{Write}
use Rattle.array_model.specs.Images.{fit, IsFit}
use Rattle.array_model.specs.Turns.{lines_in}
use Rattle.session.specs.Chain.{turns_of}
use Rattle.session.specs.Run.{session_start}
use Rattle.conclusions.proofs.Turns.{only_of, one_said, puts_reply}
use Rattle.conclusions.proofs.Arrays.{one_over, block_reads, is_write_five, write_five}
use Rattle.conclusions.proofs.again.written_is_read_again.Goals as goal

pub returns : goal.returns
returns g c = λ is.
    let d = g.D.Device.seen c.args.device.now in
    let d' = g.D.Device.seen c.serve-status.new.device in
    let source = g.S.Source.seen c.args.source.now in
    let sink = g.K.Sink.seen c.args.sink.now in
    let sink' = g.K.Sink.seen c.serve-status.new.sink in
    let image = (g.L.Device.seen c.args.later.now).state.fixed in
    let h = c.serve-status.ensures.done is in
    let ready = c.requires.device in
    let good = subst IsFit (newest_at_rest d.state ready.rest) (h.fit ready.honest ready.tells_pages) in
    let only = only_of _ (Write 0 5) c.parse.result is_write_five refl c.parse.ensures.only in
    let o = one_said _ (Write 0 5) only d d' source _ sink sink' h c.requires.source (ap lines_in c.requires.input ∙ write_five) in
    let s = session_start fit d in
    let over = one_over c.works_end.ensures s (turns_of h.links) o.turn h.calls (Write 0 5) d' refl (lit< tt) ready.tells_pages o.one o.asked (h.kept ready fit good) in (
      o.turn.answer,
      puts_reply h.shape (Write 0 5) (turns_of h.links) h.calls d d' sink sink' o o.turn.answer c.requires.sink refl,
      λ done rested left read.
          let b = block_reads s 0 5 o.turn.answer d' over done image left in
          c.read_first.ensures read rested b.0 ∙ b.1,
    )
