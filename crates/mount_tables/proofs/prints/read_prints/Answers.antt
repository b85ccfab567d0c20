use Rattle.std.proofs.Common.{◌≡◌, ℕ, ◌-◌, ◌<◌, ◌≤◌, List, Some, None, inl, sym, ◌∙◌, subst, arith, add-one}
use Rattle.page_device.specs.Block.{Block}
use Rattle.page_device.specs.Disk.{newest}
use Rattle.page_layout.specs.Shape.{first_print_page, first_data_page}
use Rattle.page_layout.specs.Tables.{page_of}
use Rattle.page_layout.specs.Entries.{IsEntry, IsFirstFault}
use Rattle.page_layout.specs.declared.shape.Table.TheVariants.{Print}
use Rattle.image_reader.proofs.Looking.{looked_then, held_before}
use Rattle.mount_tables.specs.Reading.{IsBacked, FitBetween}
use Rattle.mount_tables.proofs.Entries.{print_fit, of_print}
use Rattle.mount_tables.proofs.Firsts.{fit_more, first_here}
use Rattle.mount_tables.proofs.Kept.{prints_kept}
use Rattle.mount_tables.proofs.prints.read_prints.Goals as goal

pub returns-in-Some-clause-cause : goal.returns-in-Some-clause-cause
returns-in-Some-clause-cause g c = λ honest tells are.
    let d0 = g.D.Device.seen c.args.device.now in
    let d1 = g.D.Device.seen c.loop-k.device in
    let shape = c.args.shape.now in
    let counts = c.args.counts.now in
    let k = c.loop-k.k in
    let j = k - first_print_page shape in
    let image = newest d0.state in
    let page = c.read_into.new.into in
    let low : first_print_page shape ≤ k = omega (arith, c.loop-k.auto.k, c.first_print_page-first.ensures.place) in
    let high : k < first_data_page shape = omega (arith, c.loop-k-test.true, c.first_data_page-end.ensures.place) in
    let read : page_of image k ≡ page = held_before (λ (i : List Block). page_of i k ≡ page) d0 d1 c.loop-k.invariant.looked c.in-Ok-read_into.ensures.read honest tells in
    first_here (first_print_page shape) k 171 shape image (λ i. IsEntry Print shape k (page_of image k) i × IsBacked shape counts j (page_of image k) i) (λ i. print_fit shape image k i low high counts are) (λ i. of_print shape image k i low high counts are) (c.loop-k.invariant.fitted honest tells are) c.in-Some.entry
    (subst (λ (b : Block). IsFirstFault (λ i. IsEntry Print shape k b i × IsBacked shape counts j b i) 171 (Some c.in-Some.entry)) (sym read) c.in-Some.ensures)

pub loop-k-preserved : goal.loop-k-preserved
loop-k-preserved g c =
    let d0 = g.D.Device.seen c.args.device.now in
    let d1 = g.D.Device.seen c.loop-k.device in
    let d2 = g.D.Device.seen c.read_into.new.device in
    let shape = c.args.shape.now in
    let counts = c.args.counts.now in
    let old = c.loop-k.table.items in
    let new = c.keep_prints.new.table.items in
    let k = c.loop-k.k in
    let j = k - first_print_page shape in
    let inv = c.loop-k.invariant in
    let page = c.read_into.new.into in
    let got = c.in-Ok-read_into.ensures in
    let low : first_print_page shape ≤ k = omega (arith, c.loop-k.auto.k, c.first_print_page-first.ensures.place) in
    let high : k < first_data_page shape = omega (arith, c.loop-k-test.true, c.first_data_page-end.ensures.place) in
    let at : k - c.first_print_page-first.result ≡ j = omega (arith, c.first_print_page-first.ensures.place) in
    let here = rw at at c.keep_prints.ensures.here in
    let others = rw at at c.keep_prints.ensures.others in
    record {
      looked = looked_then d0 d1 d2 inv.looked got.looked;
      pages = got.pages ∙ inv.pages;
      faults = omega (arith, inv.faults, got.cause.never_falls);
      reads = λ t few. let h = inv.reads t few in omega (arith, h, got.reads.counted (inv.looked.kind.tells_reads ∙ t) (omega (arith, h)), c.loop-k.auto.k);
      length_is = c.keep_prints.ensures.length;
      none = others 0 (inl (omega arith)) ∙ inv.none;
      fitted = λ honest tells are.
          let image = newest d0.state in
          let read : page_of image k ≡ page = held_before (λ (i : List Block). page_of i k ≡ page) d0 d1 inv.looked got.read honest tells in
          subst (λ (n : ℕ). FitBetween (first_print_page shape) n shape image) (sym (add-one k))
          (fit_more (first_print_page shape) k 171 shape image (λ i. IsEntry Print shape k (page_of image k) i × IsBacked shape counts j (page_of image k) i) (λ i. print_fit shape image k i low high counts are) (λ i. of_print shape image k i low high counts are) (inv.fitted honest tells are)
          (subst (λ (b : Block). IsFirstFault (λ i. IsEntry Print shape k b i × IsBacked shape counts j b i) 171 None) (sym read) c.in-None.ensures));
      read = λ honest tells.
          let image = newest d0.state in
          let read : page_of image k ≡ page = held_before (λ (i : List Block). page_of i k ≡ page) d0 d1 inv.looked got.read honest tells in
          prints_kept shape k page low old new here others image read (inv.read honest tells);
    }

pub returns-clause-fitted : goal.returns-clause-fitted
returns-clause-fitted g c = λ honest tells are k i low high. c.loop-k.invariant.fitted honest tells are k i low (omega (arith, high, c.loop-k-test.false, c.first_data_page-end.ensures.place))

pub returns-clause-reads : goal.returns-clause-reads
returns-clause-reads g c = record { counted = λ t few. omega (arith, c.loop-k.invariant.reads t few, c.loop-k.auto.k, c.loop-k-test.false, c.first_print_page-first.ensures.place, c.first_data_page-end.ensures.place) }

pub returns-clause-read : goal.returns-clause-read
returns-clause-read g c = λ honest tells p one upto le. c.loop-k.invariant.read honest tells p one (omega (arith, le, c.loop-k-test.false, c.first_data_page-end.ensures.place)) le
