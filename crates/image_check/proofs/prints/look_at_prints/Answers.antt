use Rattle.std.proofs.Common.{◌≡◌, ℕ, ◌+◌, ◌-◌, List, length, refl, sym, ◌∙◌, ap, subst, arith, add-one}
use Rattle.page_device.specs.Block.{Block}
use Rattle.page_device.specs.Disk.{newest}
use Rattle.page_layout.specs.Shape.{first_print_page, print_pages}
use Rattle.page_layout.specs.Tables.{page_of}
use Rattle.image_reader.specs.Looked.{Reads, reads_none, reads_then}
use Rattle.image_reader.proofs.Looking.{looked_none, looked_then, held_before}
use Rattle.image_reader.proofs.Pushed.{pushed, pushed_length}
use Rattle.image_check.specs.Steps.{FormedBelow}
use Rattle.image_check.proofs.Stopped.{stop_before}
use Rattle.image_check.proofs.Malformed.{formed_more}
use Rattle.image_check.proofs.Reading.{most_of}
use Rattle.image_check.proofs.prints.look_at_prints.Goals as goal

pub loop-k-init : goal.loop-k-init
loop-k-init g c =
    let d = g.D.Device.seen c.args.device.now in
    let shape = c.args.shape.now in
    let at : c.first_print_page-k.result ≡ first_print_page shape = c.first_print_page-k.ensures.place in
    let none : c.first_print_page-k.result - first_print_page shape ≡ 0 = omega (arith, at) in
    let empty : length c.args.prints.now.items ≡ 0 = ap length c.requires.empty in
    record {
      looked = looked_none d;
      pages = refl;
      faults = omega arith;
      reads = subst (λ (n : ℕ). Reads n d d) (sym none) (reads_none d);
      formed = λ honest tells below. subst (λ (n : ℕ). FormedBelow n shape (newest d.state)) (sym at) below;
      items = omega (arith, empty, none);
      limit = c.requires.limit;
      kept = λ honest tells j lt. absurd (omega (arith, lt, empty));
    }

pub returns-in-Err-clause-cause : goal.returns-in-Err-clause-cause
returns-in-Err-clause-cause g c =
    let d0 = g.D.Device.seen c.args.device.now in
    let d1 = g.D.Device.seen c.loop-k.device in
    let d2 = g.D.Device.seen c.read_table.new.device in
    let inv = c.loop-k.invariant in
    let shape = c.args.shape.now in
    stop_before shape (FormedBelow (first_print_page shape) shape) (FormedBelow c.loop-k.k shape) d0 d1 d2 inv.looked inv.faults c.in-Err.ensures.never_falls
    (λ honest tells _ _. inv.formed honest tells) c.in-Err.stop c.in-Err.ensures.cause

pub returns-in-Err-clause-stopped : goal.returns-in-Err-clause-stopped
returns-in-Err-clause-stopped g c =
    let inv = c.loop-k.invariant in
    let k = c.loop-k.k in
    let first = first_print_page c.args.shape.now in
    record {
      page = k;
      is = c.in-Err.ensures.stopped;
      at_least = omega (arith, c.loop-k.auto.k, c.first_print_page-k.ensures.place);
      reads = reads_then (k - first) 1 (k + 1 - first) (g.D.Device.seen c.args.device.now) (g.D.Device.seen c.loop-k.device) (g.D.Device.seen c.read_table.new.device) (omega (arith, c.loop-k.auto.k, c.first_print_page-k.ensures.place)) inv.looked.kind inv.reads c.in-Err.ensures.reads;
    }

pub returns-in-Err-clause-few : goal.returns-in-Err-clause-few
unfolding returns-in-Err-clause-stopped
returns-in-Err-clause-few g c = most_of (c.loop-k.k + 1 - first_print_page c.args.shape.now) (print_pages c.args.shape.now) (g.D.Device.seen c.args.device.now) (g.D.Device.seen c.read_table.new.device)
    (omega (arith, c.loop-k-test.true, c.first_data_page-k-end.ensures.place)) (returns-in-Err-clause-stopped g c).reads

pub loop-k-preserved : goal.loop-k-preserved
loop-k-preserved g c =
    let d0 = g.D.Device.seen c.args.device.now in
    let d1 = g.D.Device.seen c.loop-k.device in
    let d2 = g.D.Device.seen c.read_table.new.device in
    let inv = c.loop-k.invariant in
    let shape = c.args.shape.now in
    let k = c.loop-k.k in
    let first = first_print_page shape in
    let old = c.loop-k.prints.items in
    let new = c.push.new.self.items in
    let page = c.in-Ok.page in
    let image = newest d0.state in
    record {
      looked = looked_then d0 d1 d2 inv.looked c.in-Ok.ensures.looked;
      pages = c.in-Ok.ensures.pages ∙ inv.pages;
      faults = omega (arith, inv.faults, c.in-Ok.ensures.never_falls);
      reads = reads_then (k - first) 1 (k + 1 - first) d0 d1 d2 (omega (arith, c.loop-k.auto.k, c.first_print_page-k.ensures.place)) inv.looked.kind inv.reads c.in-Ok.ensures.reads;
      formed = λ honest tells below.
          let read : page_of image k ≡ page = held_before (λ (i : List Block). page_of i k ≡ page) d0 d1 inv.looked c.in-Ok.ensures.read honest tells in
          subst (λ (n : ℕ). FormedBelow n shape image) (sym (add-one k)) (formed_more shape image k page read c.in-Ok.ensures.entries (inv.formed honest tells below));
      items = omega (arith, pushed_length old new page c.push.ensures.items, inv.items, c.loop-k.auto.k, c.first_print_page-k.ensures.place);
      limit = c.push.ensures.limit ∙ inv.limit;
      kept = λ honest tells.
          let read : page_of image k ≡ page = held_before (λ (i : List Block). page_of i k ≡ page) d0 d1 inv.looked c.in-Ok.ensures.read honest tells in
          let place : first + length old ≡ k = omega (arith, inv.items, c.loop-k.auto.k, c.first_print_page-k.ensures.place) in
          pushed (λ j b. b ≡ page_of image (first + j)) old new page c.push.ensures.items (inv.kept honest tells) (sym read ∙ ap (page_of image) (sym place));
    }

pub returns-clause-reads : goal.returns-clause-reads
returns-clause-reads g c =
    let all : c.loop-k.k - first_print_page c.args.shape.now ≡ print_pages c.args.shape.now = omega (arith, c.loop-k.auto.k, c.loop-k-test.false, c.first_print_page-k.ensures.place, c.first_data_page-k-end.ensures.place) in
    subst (λ (n : ℕ). Reads n (g.D.Device.seen c.args.device.now) (g.D.Device.seen c.loop-k.device)) all c.loop-k.invariant.reads

pub returns-clause-few : goal.returns-clause-few
returns-clause-few g c = most_of (print_pages c.args.shape.now) (print_pages c.args.shape.now) (g.D.Device.seen c.args.device.now) (g.D.Device.seen c.loop-k.device) (omega arith) (returns-clause-reads g c)

pub returns-clause-length : goal.returns-clause-length
returns-clause-length g c = omega (arith, c.loop-k.invariant.items, c.loop-k.auto.k, c.loop-k-test.false, c.first_print_page-k.ensures.place, c.first_data_page-k-end.ensures.place)

pub returns-clause-kept : goal.returns-clause-kept
returns-clause-kept g c = λ honest tells j lt. c.loop-k.invariant.kept honest tells j (omega (arith, lt, returns-clause-length g c))
