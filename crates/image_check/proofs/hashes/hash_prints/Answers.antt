use Rattle.std.proofs.Common.{◌≡◌, ℕ, suc, ◌+◌, ◌-◌, ◌<◌, ◌≤◌, ◌↔◌, IsTrue, Bool, List, Option, is_some, slice_index_or, refl, sym, ◌∙◌, ap, subst, arith, add-one}
use Rattle.page_device.specs.Block.{Block}
use Rattle.page_device.specs.Disk.{newest}
use Rattle.page_layout.specs.Shape.{ShapeView}
use Rattle.page_layout.specs.Tables.{shape_of, print_of, count_of}
use Rattle.array_model.proofs.CountingLemmas.{count_below-start}
use Rattle.image_reader.specs.Looked.{Reads, reads_none}
use Rattle.image_reader.proofs.Looking.{looked_none, looked_then, held_before}
use Rattle.image_check.specs.Verdicts.{HasTruePrint}
use Rattle.image_check.specs.Reads.{print_in, printed_in}
use Rattle.image_check.specs.Steps.{PrintsTo, noted_zero}
use Rattle.image_check.proofs.Printing.{prints_start, prints_next}
use Rattle.image_check.proofs.Reading.{kept_print, most_of, printed_most, reads_next}
use Rattle.image_check.proofs.Judging.{wrong_verdict}
use Rattle.image_check.proofs.hashes.hash_prints.Goals as goal

pub loop-at-init : goal.loop-at-init
loop-at-init g c =
    let d = g.D.Device.seen c.args.device.now in
    record {
      looked = looked_none d;
      pages = refl;
      faults = omega arith;
      reads = subst (λ (n : ℕ). Reads n d d) (sym (count_below-start (λ k. is_some (print_in c.args.prints.now.items (k + 1))))) (reads_none d);
      prints = λ honest tells told are ready. prints_start (newest d.state);
    }

pub returns-in-Ok-false-clause-cause : goal.returns-in-Ok-false-clause-cause
returns-in-Ok-false-clause-cause g c = λ honest tells has told known.
    let d0 = g.D.Device.seen c.args.device.now in
    let d1 = g.D.Device.seen c.loop-at.device in
    let inv = c.loop-at.invariant in
    let shape = c.args.shape.now in
    let prints = c.args.prints.now.items in
    let at = c.loop-at.at in
    let image = newest d0.state in
    let print = c.print_at-print.result in
    let within : at < shape.pages = omega (arith, c.loop-at-test.true, ap (λ (s : ShapeView). s.pages) c.shape.view_is) in
    let is : print_of image (at + 1) ≡ print = kept_print shape prints image told known.0 (at + 1) (omega arith) (omega (arith, within)) ∙ sym c.print_at-print.ensures in
    let tells_it = held_before (λ (i : List Block). shape_of i ≡ shape → print_of i (at + 1) ≡ print → (IsTrue c.in-Ok-false.field-0 ↔ HasTruePrint i (at + 1))) d0 d1 inv.looked c.in-Ok-false.ensures.tells honest tells told is in
    wrong_verdict shape image told has c.args.counts.now known.1 at c.loop-at.zero within (inv.prints honest tells told known.0 known.1)
    (λ yes. absurd (cc (tells_it.1 yes, c.in-Ok-false.field-0-test)))

pub loop-at-preserved : goal.loop-at-preserved
loop-at-preserved g c =
    let d0 = g.D.Device.seen c.args.device.now in
    let d1 = g.D.Device.seen c.loop-at.device in
    let d2 = g.D.Device.seen c.is_true.new.device in
    let inv = c.loop-at.invariant in
    let shape = c.args.shape.now in
    let prints = c.args.prints.now.items in
    let counts = c.args.counts.now in
    let at = c.loop-at.at in
    let image = newest d0.state in
    let print = c.print_at-print.result in
    record {
      looked = looked_then d0 d1 d2 inv.looked c.in-Ok-true.ensures.looked;
      pages = c.in-Ok-true.ensures.pages ∙ inv.pages;
      faults = omega (arith, inv.faults, c.in-Ok-true.ensures.cause.never_falls);
      reads = reads_next prints at print d0 d1 d2 c.print_at-print.ensures inv.looked.kind inv.reads c.in-Ok-true.ensures.reads;
      prints = λ honest tells told are ready.
          let within : at < shape.pages = omega (arith, c.loop-at-test.true, ap (λ (s : ShapeView). s.pages) c.shape.view_is) in
          let is : print_of image (at + 1) ≡ print = kept_print shape prints image told are (at + 1) (omega arith) (omega (arith, within)) ∙ sym c.print_at-print.ensures in
          let tells_it = held_before (λ (i : List Block). shape_of i ≡ shape → print_of i (at + 1) ≡ print → (IsTrue c.in-Ok-true.field-0 ↔ HasTruePrint i (at + 1))) d0 d1 inv.looked c.in-Ok-true.ensures.tells honest tells told is in
          let where_it_is : at ≡ at + 1 - 1 = omega arith in
          let count : slice_index_or counts at 0 ≡ count_of image (at + 1) = ap (λ (n : ℕ). slice_index_or counts n 0) where_it_is ∙ ready.counted (at + 1) (omega arith) (omega (arith, within)) in
          let next = prints_next at image (slice_index_or counts at 0) count c.loop-at.zero print is (tells_it.0 c.in-Ok-true.field-0-test) (inv.prints honest tells told are ready) in
          let zero_is : c.first_zero-zero.result ≡ noted_zero c.loop-at.zero (at + 1) (is_some print) (slice_index_or counts at 0) = c.first_zero-zero.ensures ∙ ap (λ (b : Bool). noted_zero c.loop-at.zero (at + 1) b (slice_index_or counts at 0)) c.is_some.ensures in
          subst (λ (n : ℕ). PrintsTo n image c.first_zero-zero.result) (sym (add-one at)) (subst (λ (o : Option ℕ). PrintsTo (suc at) image o) (sym zero_is) next);
    }

pub returns-in-Ok-false-clause-stopped : goal.returns-in-Ok-false-clause-stopped
returns-in-Ok-false-clause-stopped g c =
    let d0 = g.D.Device.seen c.args.device.now in
    let d1 = g.D.Device.seen c.loop-at.device in
    let d2 = g.D.Device.seen c.is_true.new.device in
    let inv = c.loop-at.invariant in (
      omega (arith, c.loop-at-test.true, ap (λ (s : ShapeView). s.pages) c.shape.view_is),
      reads_next c.args.prints.now.items c.loop-at.at c.print_at-print.result d0 d1 d2 c.print_at-print.ensures inv.looked.kind inv.reads c.in-Ok-false.ensures.reads,
    )

pub returns-in-Ok-false-clause-few : goal.returns-in-Ok-false-clause-few
returns-in-Ok-false-clause-few g c =
    let at = c.loop-at.at in
    let prints = c.args.prints.now.items in
    let stopped = returns-in-Ok-false-clause-stopped g c in
    most_of (printed_in prints (at + 1)) c.args.shape.now.pages (g.D.Device.seen c.args.device.now) (g.D.Device.seen c.is_true.new.device) (omega (arith, printed_most prints (at + 1), stopped.0)) stopped.1

pub returns-in-Err-clause-few : goal.returns-in-Err-clause-few
returns-in-Err-clause-few g c =
    let d0 = g.D.Device.seen c.args.device.now in
    let d1 = g.D.Device.seen c.loop-at.device in
    let d2 = g.D.Device.seen c.is_true.new.device in
    let inv = c.loop-at.invariant in
    let at = c.loop-at.at in
    let prints = c.args.prints.now.items in
    let within : at < c.args.shape.now.pages = omega (arith, c.loop-at-test.true, ap (λ (s : ShapeView). s.pages) c.shape.view_is) in
    most_of (printed_in prints (at + 1)) c.args.shape.now.pages d0 d2 (omega (arith, printed_most prints (at + 1), within))
    (reads_next prints at c.print_at-print.result d0 d1 d2 c.print_at-print.ensures inv.looked.kind inv.reads c.in-Err.ensures.reads)

pub returns-clause-few : goal.returns-clause-few
returns-clause-few g c =
    let prints = c.args.prints.now.items in
    let at = c.loop-at.at in
    let within : at ≤ c.args.shape.now.pages = omega (arith, c.loop-at.auto, ap (λ (s : ShapeView). s.pages) c.shape.view_is) in
    most_of (printed_in prints at) c.args.shape.now.pages (g.D.Device.seen c.args.device.now) (g.D.Device.seen c.loop-at.device) (omega (arith, printed_most prints at, within)) c.loop-at.invariant.reads
