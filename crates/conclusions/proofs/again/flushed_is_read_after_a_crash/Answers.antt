use Rattle.std.proofs.Common.{◌∙◌, ap, refl, subst}
use Rattle.page_device.specs.Possible.{newest_at_rest}
use Rattle.trace_text.specs.declared.command.Command.TheVariants.{Write, Flush}
use Rattle.array_model.specs.Images.{IsFit}
use Rattle.array_model.specs.Turns.{lines_in}
use Rattle.conclusions.proofs.Turns.{only_of, is_flush}
use Rattle.conclusions.proofs.Arrays.{is_write_five}
use Rattle.conclusions.proofs.Crashes.{crash_fit}
use Rattle.conclusions.proofs.Flushed.{flushed_session, same_or_other, write_flush_write, is_write_six}
use Rattle.conclusions.proofs.again.flushed_is_read_after_a_crash.Goals as goal

pub returns : goal.returns
returns g c = λ is.
    let d = g.D.Device.seen c.args.device.now in
    let d' = g.D.Device.seen c.serve-status.new.device in
    let e = g.L.Device.seen c.args.later.now in
    let source = g.S.Source.seen c.args.source.now in
    let source' = g.S.Source.seen c.serve-status.new.source in
    let sink = g.K.Sink.seen c.args.sink.now in
    let sink' = g.K.Sink.seen c.serve-status.new.sink in
    let h = c.serve-status.ensures.done is in
    let ready = c.requires.device in
    let good = subst IsFit (newest_at_rest d.state ready.rest) (h.fit ready.honest ready.tells_pages) in
    let o = only_of _ (Write 0 5) c.parse-first.result is_write_five refl c.parse-first.ensures.only in
    let f = only_of _ Flush c.parse-flush.result is_flush refl c.parse-flush.ensures.only in
    let n = only_of _ (Write 0 6) c.parse-second.result is_write_six refl c.parse-second.ensures.only in
    let s = flushed_session c.contents_stay.ensures c.step_adds_what_is_written.ensures _ _ _ o f n d d' source _ sink sink' h ready good c.requires.log c.requires.sink c.requires.source (ap lines_in c.requires.input ∙ write_flush_write) in (
      s.p,
      s.q,
      s.r,
      s.second,
      s.puts,
      λ done flushed few rested left behind read.
          let fit_again = crash_fit c.serve-status.result d d' source source' sink sink' ready good c.requires.log few c.serve-status.ensures.session e.state.fixed left in
          same_or_other _ _ (s.reads done flushed few e.state.fixed left behind) (c.read_first.ensures read rested fit_again),
    )
