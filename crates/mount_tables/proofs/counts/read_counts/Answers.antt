use Rattle.std.proofs.Common.{◌≡◌, ℕ, ◌-◌, ◌*◌, ◌<◌, ◌≤◌, List, Some, None, sym, ◌∙◌, subst, arith, add-one, inr}
use Rattle.page_device.specs.Block.{Block}
use Rattle.page_device.specs.Disk.{newest}
use Rattle.page_layout.specs.Shape.{first_count_page, first_print_page}
use Rattle.page_layout.specs.Tables.{page_of}
use Rattle.page_layout.specs.Entries.{IsEntry, IsFirstFault}
use Rattle.page_layout.specs.declared.shape.Table.TheVariants.{Count}
use Rattle.image_reader.proofs.Looking.{looked_then, held_before}
use Rattle.mount_tables.specs.Reading.{AreTalliesBehind, IsEnough, FitBetween}
use Rattle.mount_tables.proofs.Entries.{count_fit, of_count}
use Rattle.mount_tables.proofs.Firsts.{fit_more, first_here}
use Rattle.mount_tables.proofs.Kept.{counts_kept, few_kept}
use Rattle.mount_tables.proofs.counts.read_counts.Goals as goal

pub returns-in-Some-clause-cause : goal.returns-in-Some-clause-cause
returns-in-Some-clause-cause g c = λ honest tells are.
    let d0 = g.D.Device.seen c.args.device.now in
    let d1 = g.D.Device.seen c.loop-k.device in
    let shape = c.args.shape.now in
    let tallies = c.loop-k.tallies.items in
    let k = c.loop-k.k in
    let j = k - first_count_page shape in
    let image = newest d0.state in
    let low : first_count_page shape ≤ k = omega (arith, c.loop-k.auto.k, c.first_count_page-first.ensures.place) in
    let high : k < first_print_page shape = omega (arith, c.loop-k-test.true, c.first_print_page-end.ensures.place) in
    let page = c.read_into.new.into in
    let read : page_of image k ≡ page = held_before (λ (i : List Block). page_of i k ≡ page) d0 d1 c.loop-k.invariant.looked c.in-Ok.ensures.read honest tells in
    let left : AreTalliesBehind (1024 * j) shape tallies image = λ p above le. c.loop-k.invariant.rest p above ∙ are p (omega (arith, above)) le in
    let faults : IsFirstFault (λ i. IsEntry Count shape k page i × IsEnough shape tallies j page i) 1024 (Some c.in-Some.entry) =
    subst (λ (l : List ℕ). IsFirstFault (λ i. IsEntry Count shape k page i × IsEnough shape l j page i) 1024 (Some c.in-Some.entry)) c.deref.ensures.value c.in-Some.ensures in
    first_here (first_count_page shape) k 1024 shape image (λ i. IsEntry Count shape k (page_of image k) i × IsEnough shape tallies j (page_of image k) i) (λ i. count_fit shape image k i low high tallies left) (λ i. of_count shape image k i low high tallies left) (c.loop-k.invariant.fitted honest tells are) c.in-Some.entry
    (subst (λ (b : Block). IsFirstFault (λ i. IsEntry Count shape k b i × IsEnough shape tallies j b i) 1024 (Some c.in-Some.entry)) (sym read) faults)

pub loop-k-preserved : goal.loop-k-preserved
loop-k-preserved g c =
    let d0 = g.D.Device.seen c.args.device.now in
    let d1 = g.D.Device.seen c.loop-k.device in
    let d2 = g.D.Device.seen c.read_into.new.device in
    let shape = c.args.shape.now in
    let old = c.loop-k.tallies.items in
    let new = c.keep_counts.new.tallies.items in
    let k = c.loop-k.k in
    let j = k - first_count_page shape in
    let inv = c.loop-k.invariant in
    let got = c.in-Ok.ensures in
    let page = c.read_into.new.into in
    let low : first_count_page shape ≤ k = omega (arith, c.loop-k.auto.k, c.first_count_page-first.ensures.place) in
    let high : k < first_print_page shape = omega (arith, c.loop-k-test.true, c.first_print_page-end.ensures.place) in
    let whole : IsFirstFault (λ i. IsEntry Count shape k page i × IsEnough shape old j page i) 1024 None =
    subst (λ (l : List ℕ). IsFirstFault (λ i. IsEntry Count shape k page i × IsEnough shape l j page i) 1024 None) c.deref.ensures.value c.in-None.ensures in
    let at : k - c.first_count_page-first.result ≡ j = omega (arith, c.first_count_page-first.ensures.place) in
    let here = rw at at c.keep_counts.ensures.here in
    let others = rw at at c.keep_counts.ensures.others in
    record {
      looked = looked_then d0 d1 d2 inv.looked got.looked;
      pages = got.pages ∙ inv.pages;
      faults = omega (arith, inv.faults, got.cause.never_falls);
      reads = λ t few. let h = inv.reads t few in omega (arith, h, got.reads.counted (inv.looked.kind.tells_reads ∙ t) (omega (arith, h)), c.loop-k.auto.k);
      length_is = c.keep_counts.ensures.length;
      rest = λ p above. others p (omega (arith, above)) (inr (omega (arith, above, low))) ∙ inv.rest p (omega (arith, above, low));
      few = few_kept shape k page low old new here others (λ i lt. (whole i lt).0) inv.few;
      fitted = λ honest tells are.
          let image = newest d0.state in
          let read : page_of image k ≡ page = held_before (λ (i : List Block). page_of i k ≡ page) d0 d1 inv.looked got.read honest tells in
          let left : AreTalliesBehind (1024 * j) shape old image = λ p above le. inv.rest p above ∙ are p (omega (arith, above)) le in
          subst (λ (n : ℕ). FitBetween (first_count_page shape) n shape image) (sym (add-one k))
          (fit_more (first_count_page shape) k 1024 shape image (λ i. IsEntry Count shape k (page_of image k) i × IsEnough shape old j (page_of image k) i) (λ i. count_fit shape image k i low high old left) (λ i. of_count shape image k i low high old left) (inv.fitted honest tells are)
          (subst (λ (b : Block). IsFirstFault (λ i. IsEntry Count shape k b i × IsEnough shape old j b i) 1024 None) (sym read) whole));
      read = λ honest tells.
          let image = newest d0.state in
          let read : page_of image k ≡ page = held_before (λ (i : List Block). page_of i k ≡ page) d0 d1 inv.looked got.read honest tells in
          counts_kept shape k page low old new here others image read (inv.read honest tells);
    }

pub returns-clause-fitted : goal.returns-clause-fitted
returns-clause-fitted g c = λ honest tells are k i low high. c.loop-k.invariant.fitted honest tells are k i low (omega (arith, high, c.loop-k-test.false, c.first_print_page-end.ensures.place))

pub returns-clause-reads : goal.returns-clause-reads
returns-clause-reads g c = record { counted = λ t few. omega (arith, c.loop-k.invariant.reads t few, c.loop-k.auto.k, c.loop-k-test.false, c.first_count_page-first.ensures.place, c.first_print_page-end.ensures.place) }

pub returns-clause-few : goal.returns-clause-few
returns-clause-few g c = λ p one le. c.loop-k.invariant.few p one (omega (arith, le, c.loop-k-test.false, c.first_print_page-end.ensures.place)) le

pub returns-clause-read : goal.returns-clause-read
returns-clause-read g c = λ honest tells p one upto le. c.loop-k.invariant.read honest tells p one (omega (arith, le, c.loop-k-test.false, c.first_print_page-end.ensures.place)) le
