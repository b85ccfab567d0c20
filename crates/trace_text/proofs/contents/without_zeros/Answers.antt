use Rattle.std.proofs.Common.{sym, ◌∙◌, arith}
use Rattle.trace_text.proofs.Trimmed.{trimmed_ends, trimmed_none, trimmed_shorter}
use Rattle.trace_text.proofs.contents.without_zeros.Goals.{then-loop-end-test+else-bytes-end-eq0, else-loop-end-test}
use Rattle.trace_text.proofs.contents.without_zeros.Goals as goal

pub loop-end-preserved : goal.loop-end-preserved
loop-end-preserved c =
    let fits = c.loop-end.invariant.0 in (
      omega arith,
      c.loop-end.invariant.1 ∙ trimmed_shorter c.args.bytes.now c.loop-end.end c.loop-end-test.true fits c.if-bytes-end-eq0.true,
    )

pub returns-clause-bytes : goal.returns-clause-bytes
returns-clause-bytes c =
    let same = c.loop-end.invariant.1 in
    let fits = c.loop-end.invariant.0 in
    elim c.loop-end-test.branch [
      | then-loop-end-test+else-bytes-end-eq0 w ↦
          sym (same ∙ trimmed_ends c.args.bytes.now c.loop-end.end w.loop-end-test.true fits w.if-bytes-end-eq0.false)
      | else-loop-end-test w ↦ sym (same ∙ trimmed_none c.args.bytes.now c.loop-end.end (omega (arith, w.loop-end-test.false)))
    ]
