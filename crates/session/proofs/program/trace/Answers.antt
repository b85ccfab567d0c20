use Rattle.std.proofs.Common.{◌≡◌, ℕ, ◌≤◌, ⊎_elim, arith, refl, sym, ◌∙◌, ap, subst}
use Rattle.std.proofs.lemmas.Bool.{cases_lt}
use Rattle.page_device.specs.Possible.{newest_at_rest}
use Rattle.page_layout.specs.Shape.{ShapeView}
use Rattle.page_layout.specs.Tables.{shape_of}
use Rattle.array_model.specs.Array.{array_start}
use Rattle.array_model.specs.Images.{fit, IsFit}
use Rattle.dedup_writer.specs.Core.{shape_in}
use Rattle.session.specs.Answers.{at}
use Rattle.session.specs.Chain.{turns_of}
use Rattle.session.specs.Session.{Start, Kept}
use Rattle.session.specs.Run.{session_start, opened}
use Rattle.session.proofs.Closing.{course_told}
use Rattle.session.proofs.Opened.{kept_from}
use Rattle.session.proofs.program.trace.Goals as goal

pub returns-in-Ok-clause-device_cause : goal.returns-in-Ok-clause-device_cause
returns-in-Ok-clause-device_cause g c = λ is few. ⊎_elim
    (λ risen. omega (arith, risen, c.serve_trace.ensures.never_falls))
    (λ still. omega (arith, still, c.in-Ok.ensures.never_falls, c.serve_trace.ensures.device_cause is (omega (arith, still, few, c.in-Ok.ensures.never_falls))))
    (cases_lt (g.D.Device.seen c.args.device.now).faults (g.D.Device.seen c.mount.new.device).faults)

pub returns-in-Ok-clause-outcome : goal.returns-in-Ok-clause-outcome
returns-in-Ok-clause-outcome g c =
    let seen = g.D.Device.seen in
    let d = seen c.args.device.now in
    let d' = seen c.serve_trace.new.device in
    let first = at c.in-Ok.store (seen c.mount.new.device) in
    let h = c.serve_trace.ensures.served in
    let turns = turns_of h.answered.links in
    let m = c.in-Ok.ensures in
    opened (record {
      shape = shape_in c.in-Ok.store;
      told = m.shape;
      fit = m.fit;
      status_is = c.serve_trace.ensures.one_of;
      first = first;
      looked = m.looked;
      falls = m.never_falls;
      reads = m.reads;
      first_shape = refl;
      first_calls = m.calls;
      answered = h.answered;
      plain = h.plain;
      sure = h.sure;
      faulted = λ few. omega (arith, m.never_falls, h.faulted few);
      kept = λ ready mode good.
          let shape : shape_in c.in-Ok.store ≡ shape_of d.state.fixed = sym (m.shape ready.honest ready.tells_pages).is ∙ ap shape_of (newest_at_rest d.state ready.rest) in
          kept_from (session_start mode d) first.device d' m.looked ready.tells_pages turns h.answered.close
          (subst (λ (n : ℕ). let one : Start = record { mode = mode; array = array_start d.state.fixed; shape = shape_of d.state.fixed; at = n; device = first.device } in Kept one turns h.answered.close d') m.calls
          (subst (λ (sh : ShapeView). let one : Start = record { mode = mode; array = array_start d.state.fixed; shape = sh; at = first.store.calls; device = first.device } in Kept one turns h.answered.close d') shape
          (h.kept mode (array_start d.state.fixed) (m.stands ready.honest ready.tells_pages ready.rest mode good))));
      counted = λ ready.
          let good = subst IsFit (newest_at_rest d.state ready.rest) (m.fit ready.honest ready.tells_pages) in
          course_told first h.answered.links h.answered.close d' h.answered.course d fit (array_start d.state.fixed) m.never_falls (m.stands ready.honest ready.tells_pages ready.rest fit good) (m.in_step ready.honest ready.tells_pages ready.rest);
    })
