use Rattle.std.proofs.Common.{◌≡◌, ℕ, ◌+◌, ◌-◌, ◌*◌, min, List, refl, None, sym, ◌∙◌, subst, arith, add-one}
use Rattle.page_device.specs.Block.{Block}
use Rattle.page_device.specs.Disk.{newest}
use Rattle.page_layout.specs.Shape.{count_pages, first_count_page}
use Rattle.page_layout.specs.Tables.{page_of}
use Rattle.image_reader.proofs.Looking.{looked_none, looked_then, held_before}
use Rattle.image_reader.specs.Looked.{Reads, reads_none, reads_then}
use Rattle.image_check.specs.Steps.{FormedBelow, CountsTo}
use Rattle.image_check.proofs.Stopped.{stop_before}
use Rattle.image_check.proofs.Malformed.{formed_more}
use Rattle.image_check.proofs.Reading.{most_of}
use Rattle.image_check.proofs.Comparing.{counts_start}
use Rattle.image_check.proofs.counts.compare_counts.Goals as goal

pub loop-k-init : goal.loop-k-init
loop-k-init g c =
    let shape = c.args.shape.now in
    let k = c.first_count_page-k.result in
    let image = newest (g.D.Device.seen c.args.device.now).state in
    let none : 0 ≡ min shape.pages (1024 * (k - first_count_page shape)) = omega (arith, c.first_count_page-k.ensures.place) in
    let at : k - first_count_page shape ≡ 0 = omega (arith, c.first_count_page-k.ensures.place) in
    record {
      looked = looked_none (g.D.Device.seen c.args.device.now);
      pages = refl;
      faults = omega arith;
      reads = subst (λ (n : ℕ). Reads n (g.D.Device.seen c.args.device.now) (g.D.Device.seen c.args.device.now)) (sym at) (reads_none (g.D.Device.seen c.args.device.now));
      length = c.requires.length;
      formed = λ honest tells below. subst (λ (n : ℕ). FormedBelow n shape image) (sym c.first_count_page-k.ensures.place) below;
      counts = λ honest tells told are. subst (λ (n : ℕ). CountsTo shape.pages n image c.args.tallies.now.items None) none (counts_start shape.pages image c.args.tallies.now.items are);
    }

pub returns-in-Err-clause-cause : goal.returns-in-Err-clause-cause
returns-in-Err-clause-cause g c =
    let d0 = g.D.Device.seen c.args.device.now in
    let d1 = g.D.Device.seen c.loop-k.device in
    let d2 = g.D.Device.seen c.read_table.new.device in
    let inv = c.loop-k.invariant in
    let shape = c.args.shape.now in
    stop_before shape (FormedBelow (first_count_page shape) shape) (FormedBelow c.loop-k.k shape) d0 d1 d2 inv.looked inv.faults c.in-Err.ensures.never_falls
    (λ honest tells _ _. inv.formed honest tells) c.in-Err.stop c.in-Err.ensures.cause

pub loop-k-preserved : goal.loop-k-preserved
loop-k-preserved g c =
    let d0 = g.D.Device.seen c.args.device.now in
    let d1 = g.D.Device.seen c.loop-k.device in
    let d2 = g.D.Device.seen c.read_table.new.device in
    let inv = c.loop-k.invariant in
    let shape = c.args.shape.now in
    let k = c.loop-k.k in
    let first = first_count_page shape in
    let image = newest d0.state in
    record {
      looked = looked_then d0 d1 d2 inv.looked c.in-Ok.ensures.looked;
      pages = c.in-Ok.ensures.pages ∙ inv.pages;
      faults = omega (arith, inv.faults, c.in-Ok.ensures.never_falls);
      reads = reads_then (k - first) 1 (k + 1 - first) d0 d1 d2 (omega (arith, c.loop-k.auto.k, c.first_count_page-k.ensures.place)) inv.looked.kind inv.reads c.in-Ok.ensures.reads;
      length = c.compare_page-low.ensures.length;
      formed = λ honest tells below.
          let read : page_of image k ≡ c.in-Ok.page = held_before (λ (i : List Block). page_of i k ≡ c.in-Ok.page) d0 d1 inv.looked c.in-Ok.ensures.read honest tells in
          subst (λ (n : ℕ). FormedBelow n shape image) (sym (add-one k)) (formed_more shape image k c.in-Ok.page read c.in-Ok.ensures.entries (inv.formed honest tells below));
      counts = λ honest tells told are.
          let read : page_of image k ≡ c.in-Ok.page = held_before (λ (i : List Block). page_of i k ≡ c.in-Ok.page) d0 d1 inv.looked c.in-Ok.ensures.read honest tells in
          let so_far : min shape.pages (1024 * (k - first)) ≡ 1024 * (k - first) = omega (arith, c.loop-k.auto, c.loop-k-test.true, c.first_print_page-k-end.ensures.place) in
          let next : min shape.pages (1024 * (k - first) + 1024) ≡ min shape.pages (1024 * (k + 1 - first)) = omega (arith, c.loop-k.auto, c.first_count_page-k.ensures.place) in
          subst (λ (n : ℕ). CountsTo shape.pages n image c.compare_page-low.new.tallies.items c.compare_page-low.result) next
          (c.compare_page-low.ensures.counts image told read (subst (λ (n : ℕ). CountsTo shape.pages n image c.loop-k.tallies.items c.loop-k.low) so_far (inv.counts honest tells told are)));
    }

pub returns-in-Err-clause-stopped : goal.returns-in-Err-clause-stopped
returns-in-Err-clause-stopped g c =
    let inv = c.loop-k.invariant in
    let k = c.loop-k.k in
    let first = first_count_page c.args.shape.now in
    record {
      page = k;
      is = c.in-Err.ensures.stopped;
      at_least = omega (arith, c.loop-k.auto.k, c.first_count_page-k.ensures.place);
      reads = reads_then (k - first) 1 (k + 1 - first) (g.D.Device.seen c.args.device.now) (g.D.Device.seen c.loop-k.device) (g.D.Device.seen c.read_table.new.device) (omega (arith, c.loop-k.auto.k, c.first_count_page-k.ensures.place)) inv.looked.kind inv.reads c.in-Err.ensures.reads;
    }

pub returns-in-Err-clause-few : goal.returns-in-Err-clause-few
unfolding returns-in-Err-clause-stopped
returns-in-Err-clause-few g c = most_of (c.loop-k.k + 1 - first_count_page c.args.shape.now) (count_pages c.args.shape.now) (g.D.Device.seen c.args.device.now) (g.D.Device.seen c.read_table.new.device)
    (omega (arith, c.loop-k-test.true, c.first_print_page-k-end.ensures.place)) (returns-in-Err-clause-stopped g c).reads

pub returns-clause-reads : goal.returns-clause-reads
returns-clause-reads g c =
    let all : c.loop-k.k - first_count_page c.args.shape.now ≡ count_pages c.args.shape.now = omega (arith, c.loop-k.auto.k, c.loop-k-test.false, c.first_count_page-k.ensures.place, c.first_print_page-k-end.ensures.place) in
    subst (λ (n : ℕ). Reads n (g.D.Device.seen c.args.device.now) (g.D.Device.seen c.loop-k.device)) all c.loop-k.invariant.reads

pub returns-clause-few : goal.returns-clause-few
returns-clause-few g c = most_of (count_pages c.args.shape.now) (count_pages c.args.shape.now) (g.D.Device.seen c.args.device.now) (g.D.Device.seen c.loop-k.device) (omega arith) (returns-clause-reads g c)
