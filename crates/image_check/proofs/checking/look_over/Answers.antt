use Rattle.std.proofs.Common.{◌≡◌, ℕ, ◌+◌, ◌-◌, List, refl, sym, ◌∙◌, ap, subst, arith}
use Rattle.page_device.specs.Block.{Block}
use Rattle.page_device.specs.Disk.{newest}
use Rattle.page_layout.specs.Shape.{map_pages, count_pages, print_pages, total, first_count_page, first_print_page, first_data_page}
use Rattle.page_layout.specs.Tables.{shape_of, HasShape, map_of}
use Rattle.array_model.specs.Counting.{mapped_of}
use Rattle.image_reader.proofs.Looking.{looked_none, looked_then, held_before}
use Rattle.image_check.specs.Verdicts.{IsVerdict}
use Rattle.image_reader.specs.Looked.{Holds, reads_none, reads_then}
use Rattle.image_check.specs.Stops.{StopCause, NothingKnown}
use Rattle.image_check.specs.Steps.{FormedBelow, NamesAre, CountsTo, LowTo, ArePrints, IsReady}
use Rattle.image_check.proofs.Stopped.{stop_before, if_err, if_ok}
use Rattle.image_check.specs.Reads.{Hashed, ReadsAfter, StopReads, StoppedHashing, reads_of}
use Rattle.image_check.proofs.Reading.{hash_reads, hash_stop, most_of, most_then, table_stop}
use Rattle.image_check.proofs.Malformed.{formed_super}
use Rattle.image_check.proofs.Judging.{names_are, is_ready, low_verdict}
use Rattle.image_check.proofs.checking.look_over.Goals as goal

pub returns-in-Err-compare_counts-clause-cause : goal.returns-in-Err-compare_counts-clause-cause
returns-in-Err-compare_counts-clause-cause g c =
    let d0 = g.D.Device.seen c.args.device.now in
    let d1 = g.D.Device.seen c.tally_maps.new.device in
    let d2 = g.D.Device.seen c.compare_counts.new.device in
    let shape = c.args.shape.now in
    let maps = c.in-Ok.ensures in
    stop_before shape NothingKnown (FormedBelow (first_count_page shape) shape) d0 d1 d2 maps.looked maps.never_falls c.in-Err-compare_counts.ensures.never_falls
    (λ honest tells _ _ _. maps.formed honest tells (formed_super shape (newest d0.state))) c.in-Err-compare_counts.stop c.in-Err-compare_counts.ensures.cause

pub returns-in-Err-look_at_prints-clause-cause : goal.returns-in-Err-look_at_prints-clause-cause
returns-in-Err-look_at_prints-clause-cause g c =
    let d0 = g.D.Device.seen c.args.device.now in
    let d1 = g.D.Device.seen c.tally_maps.new.device in
    let d2 = g.D.Device.seen c.compare_counts.new.device in
    let d3 = g.D.Device.seen c.look_at_prints.new.device in
    let shape = c.args.shape.now in
    let maps = c.in-Ok.ensures in
    let counts = c.in-Ok-compare_counts.ensures in
    stop_before shape NothingKnown (FormedBelow (first_print_page shape) shape) d0 d2 d3 (looked_then d0 d1 d2 maps.looked counts.looked) (omega (arith, maps.never_falls, counts.never_falls)) c.in-Err-look_at_prints.ensures.never_falls
    (λ honest tells _ _ _. held_before (λ (i : List Block). FormedBelow (first_count_page shape) shape i → FormedBelow (first_print_page shape) shape i) d0 d1 maps.looked counts.formed honest tells (maps.formed honest tells (formed_super shape (newest d0.state))))
    c.in-Err-look_at_prints.stop c.in-Err-look_at_prints.ensures.cause

pub returns-in-Some-clause-verdict : goal.returns-in-Some-clause-verdict
returns-in-Some-clause-verdict g c = λ honest tells has told.
    let d0 = g.D.Device.seen c.args.device.now in
    let d1 = g.D.Device.seen c.tally_maps.new.device in
    let d2 = g.D.Device.seen c.compare_counts.new.device in
    let shape = c.args.shape.now in
    let image = newest d0.state in
    let maps = c.in-Ok.ensures in
    let counts = c.in-Ok-compare_counts.ensures in
    let prints = c.in-Ok-look_at_prints.ensures in
    let looked2 = looked_then d0 d1 d2 maps.looked counts.looked in
    let below = held_before (λ (i : List Block). FormedBelow (first_print_page shape) shape i → FormedBelow (first_data_page shape) shape i) d0 d2 looked2 prints.formed honest tells
    (held_before (λ (i : List Block). FormedBelow (first_count_page shape) shape i → FormedBelow (first_print_page shape) shape i) d0 d1 maps.looked counts.formed honest tells (maps.formed honest tells (formed_super shape image))) in
    let to : CountsTo shape.pages shape.pages image c.compare_counts.new.tallies.items c.in-Ok-compare_counts.low = held_before (λ (i : List Block). shape_of i ≡ shape → NamesAre shape.pages i c.tally_maps.new.tallies.items → CountsTo shape.pages shape.pages i c.compare_counts.new.tallies.items c.in-Ok-compare_counts.low) d0 d1 maps.looked counts.counts honest tells told
    (names_are shape image told c.tally_maps.new.tallies.items c.in-Ok.mapped (maps.names honest tells)) in
    low_verdict shape image told has c.in-Some.low below (subst (LowTo shape.pages image) c.in-Some.is to.lowest)

pub returns-in-None-clause-cause : goal.returns-in-None-clause-cause
returns-in-None-clause-cause g c =
    let d0 = g.D.Device.seen c.args.device.now in
    let d1 = g.D.Device.seen c.tally_maps.new.device in
    let d2 = g.D.Device.seen c.compare_counts.new.device in
    let d3 = g.D.Device.seen c.look_at_prints.new.device in
    let d4 = g.D.Device.seen c.judge.new.device in
    let shape = c.args.shape.now in
    let image = newest d0.state in
    let items = c.compare_counts.new.tallies.items in
    let maps = c.in-Ok.ensures in
    let counts = c.in-Ok-compare_counts.ensures in
    let prints = c.in-Ok-look_at_prints.ensures in
    let looked2 = looked_then d0 d1 d2 maps.looked counts.looked in
    let looked3 = looked_then d0 d2 d3 looked2 prints.looked in
    let kept = c.look_at_prints.new.prints.items in
    if_err c.judge.result (λ stop. StopCause shape (λ i. ArePrints shape kept i × IsReady shape c.deref.result.now i) stop d3 d4) (λ stop. StopCause shape NothingKnown stop d0 d4)
    (λ stop h. stop_before shape NothingKnown (λ i. ArePrints shape kept i × IsReady shape c.deref.result.now i) d0 d3 d4 looked3 (omega (arith, maps.never_falls, counts.never_falls, prints.never_falls)) c.judge.ensures.never_falls
    (λ honest tells has told _.
    let below = held_before (λ (i : List Block). FormedBelow (first_print_page shape) shape i → FormedBelow (first_data_page shape) shape i) d0 d2 looked2 prints.formed honest tells
    (held_before (λ (i : List Block). FormedBelow (first_count_page shape) shape i → FormedBelow (first_print_page shape) shape i) d0 d1 maps.looked counts.formed honest tells (maps.formed honest tells (formed_super shape image))) in
    let to : CountsTo shape.pages shape.pages image items c.in-Ok-compare_counts.low = held_before (λ (i : List Block). shape_of i ≡ shape → NamesAre shape.pages i c.tally_maps.new.tallies.items → CountsTo shape.pages shape.pages i items c.in-Ok-compare_counts.low) d0 d1 maps.looked counts.counts honest tells told
    (names_are shape image told c.tally_maps.new.tallies.items c.in-Ok.mapped (maps.names honest tells)) in
    let ready : IsReady shape c.deref.result.now image = subst (λ (l : List ℕ). IsReady shape l image) (sym c.deref.ensures.value) (is_ready shape image told items below (subst (CountsTo shape.pages shape.pages image items) c.in-None.is to)) in
    (held_before (ArePrints shape kept) d0 d2 looked2 prints.kept honest tells, ready))
    stop h) c.judge.ensures.cause

pub returns-in-None-clause-verdict : goal.returns-in-None-clause-verdict
returns-in-None-clause-verdict g c =
    let d0 = g.D.Device.seen c.args.device.now in
    let d1 = g.D.Device.seen c.tally_maps.new.device in
    let d2 = g.D.Device.seen c.compare_counts.new.device in
    let d3 = g.D.Device.seen c.look_at_prints.new.device in
    let shape = c.args.shape.now in
    let image = newest d0.state in
    let items = c.compare_counts.new.tallies.items in
    let maps = c.in-Ok.ensures in
    let counts = c.in-Ok-compare_counts.ensures in
    let prints = c.in-Ok-look_at_prints.ensures in
    let looked2 = looked_then d0 d1 d2 maps.looked counts.looked in
    let looked3 = looked_then d0 d2 d3 looked2 prints.looked in
    let kept = c.look_at_prints.new.prints.items in
    if_ok c.judge.result (λ v. Holds (λ i. HasShape i → shape_of i ≡ shape → ArePrints shape kept i → IsReady shape c.deref.result.now i → c.in-Ok.mapped ≡ mapped_of (map_of i) shape.blocks → IsVerdict v i) d3) (λ v. Holds (λ i. HasShape i → shape_of i ≡ shape → IsVerdict v i) d0)
    (λ v h honest tells has told.
    let below = held_before (λ (i : List Block). FormedBelow (first_print_page shape) shape i → FormedBelow (first_data_page shape) shape i) d0 d2 looked2 prints.formed honest tells
    (held_before (λ (i : List Block). FormedBelow (first_count_page shape) shape i → FormedBelow (first_print_page shape) shape i) d0 d1 maps.looked counts.formed honest tells (maps.formed honest tells (formed_super shape image))) in
    let to : CountsTo shape.pages shape.pages image items c.in-Ok-compare_counts.low = held_before (λ (i : List Block). shape_of i ≡ shape → NamesAre shape.pages i c.tally_maps.new.tallies.items → CountsTo shape.pages shape.pages i items c.in-Ok-compare_counts.low) d0 d1 maps.looked counts.counts honest tells told
    (names_are shape image told c.tally_maps.new.tallies.items c.in-Ok.mapped (maps.names honest tells)) in
    let ready : IsReady shape c.deref.result.now image = subst (λ (l : List ℕ). IsReady shape l image) (sym c.deref.ensures.value) (is_ready shape image told items below (subst (CountsTo shape.pages shape.pages image items) c.in-None.is to)) in
    held_before (λ (i : List Block). HasShape i → shape_of i ≡ shape → ArePrints shape kept i → IsReady shape c.deref.result.now i → c.in-Ok.mapped ≡ mapped_of (map_of i) shape.blocks → IsVerdict v i) d0 d3 looked3 h honest tells has told
    (held_before (ArePrints shape kept) d0 d2 looked2 prints.kept honest tells) ready (maps.names honest tells).mapped_is)
    c.judge.ensures.verdict

pub returns-in-Err-clause-stopped : goal.returns-in-Err-clause-stopped
returns-in-Err-clause-stopped g c = λ honest tells told.
    let d0 = g.D.Device.seen c.args.device.now in
    let d1 = g.D.Device.seen c.tally_maps.new.device in
    table_stop 0 1 c.in-Err.stop (newest d0.state) d0 d0 d1 refl (looked_none d0).kind (reads_none d0) c.in-Err.ensures.stopped

pub returns-in-Err-clause-few : goal.returns-in-Err-clause-few
returns-in-Err-clause-few g c =
    let d0 = g.D.Device.seen c.args.device.now in
    let d1 = g.D.Device.seen c.tally_maps.new.device in
    let shape = c.args.shape.now in
    most_then 0 (map_pages shape) (total shape - 1) d0 d0 d1 (omega arith) (looked_none d0).kind (most_of 0 0 d0 d0 (omega arith) (reads_none d0)) c.in-Err.ensures.few

pub returns-in-Err-compare_counts-clause-stopped : goal.returns-in-Err-compare_counts-clause-stopped
returns-in-Err-compare_counts-clause-stopped g c = λ honest tells told.
    let d0 = g.D.Device.seen c.args.device.now in
    let d1 = g.D.Device.seen c.tally_maps.new.device in
    let d2 = g.D.Device.seen c.compare_counts.new.device in
    let shape = c.args.shape.now in
    let maps = c.in-Ok.ensures in
    table_stop (map_pages shape) (first_count_page shape) c.in-Err-compare_counts.stop (newest d0.state) d0 d1 d2 refl maps.looked.kind maps.reads c.in-Err-compare_counts.ensures.stopped

pub returns-in-Err-compare_counts-clause-few : goal.returns-in-Err-compare_counts-clause-few
returns-in-Err-compare_counts-clause-few g c =
    let d0 = g.D.Device.seen c.args.device.now in
    let d1 = g.D.Device.seen c.tally_maps.new.device in
    let d2 = g.D.Device.seen c.compare_counts.new.device in
    let shape = c.args.shape.now in
    let maps = c.in-Ok.ensures in
    most_then (map_pages shape) (count_pages shape) (total shape - 1) d0 d1 d2 (omega arith) maps.looked.kind maps.few c.in-Err-compare_counts.ensures.few

pub returns-in-Err-look_at_prints-clause-stopped : goal.returns-in-Err-look_at_prints-clause-stopped
returns-in-Err-look_at_prints-clause-stopped g c = λ honest tells told.
    let d0 = g.D.Device.seen c.args.device.now in
    let d1 = g.D.Device.seen c.tally_maps.new.device in
    let d2 = g.D.Device.seen c.compare_counts.new.device in
    let d3 = g.D.Device.seen c.look_at_prints.new.device in
    let shape = c.args.shape.now in
    let maps = c.in-Ok.ensures in
    let counts = c.in-Ok-compare_counts.ensures in
    table_stop (map_pages shape + count_pages shape) (first_print_page shape) c.in-Err-look_at_prints.stop (newest d0.state) d0 d2 d3 (omega arith) (looked_then d0 d1 d2 maps.looked counts.looked).kind
    (reads_then (map_pages shape) (count_pages shape) (map_pages shape + count_pages shape) d0 d1 d2 refl maps.looked.kind maps.reads counts.reads) c.in-Err-look_at_prints.ensures.stopped

pub returns-in-Err-look_at_prints-clause-few : goal.returns-in-Err-look_at_prints-clause-few
returns-in-Err-look_at_prints-clause-few g c =
    let d0 = g.D.Device.seen c.args.device.now in
    let d1 = g.D.Device.seen c.tally_maps.new.device in
    let d2 = g.D.Device.seen c.compare_counts.new.device in
    let d3 = g.D.Device.seen c.look_at_prints.new.device in
    let shape = c.args.shape.now in
    let maps = c.in-Ok.ensures in
    let counts = c.in-Ok-compare_counts.ensures in
    most_then (map_pages shape + count_pages shape) (print_pages shape) (total shape - 1) d0 d2 d3 (omega arith) (looked_then d0 d1 d2 maps.looked counts.looked).kind
    (most_then (map_pages shape) (count_pages shape) (map_pages shape + count_pages shape) d0 d1 d2 (omega arith) maps.looked.kind maps.few counts.few) c.in-Err-look_at_prints.ensures.few

pub returns-in-Some-clause-reads : goal.returns-in-Some-clause-reads
returns-in-Some-clause-reads g c = λ honest tells told.
    let d0 = g.D.Device.seen c.args.device.now in
    let d1 = g.D.Device.seen c.tally_maps.new.device in
    let d2 = g.D.Device.seen c.compare_counts.new.device in
    let d3 = g.D.Device.seen c.look_at_prints.new.device in
    let shape = c.args.shape.now in
    let maps = c.in-Ok.ensures in
    let counts = c.in-Ok-compare_counts.ensures in
    let prints = c.in-Ok-look_at_prints.ensures in
    let n = map_pages shape + count_pages shape + print_pages shape in
    let sum : first_data_page shape ≡ 1 + n = omega arith in
    record {
      made = n;
      all_is = ap first_data_page told ∙ sum;
      reads = reads_then (map_pages shape + count_pages shape) (print_pages shape) n d0 d2 d3 refl (looked_then d0 d1 d2 maps.looked counts.looked).kind
          (reads_then (map_pages shape) (count_pages shape) (map_pages shape + count_pages shape) d0 d1 d2 refl maps.looked.kind maps.reads counts.reads) prints.reads;
    }

pub returns-in-Some-clause-few : goal.returns-in-Some-clause-few
returns-in-Some-clause-few g c =
    let d0 = g.D.Device.seen c.args.device.now in
    let d1 = g.D.Device.seen c.tally_maps.new.device in
    let d2 = g.D.Device.seen c.compare_counts.new.device in
    let d3 = g.D.Device.seen c.look_at_prints.new.device in
    let shape = c.args.shape.now in
    let maps = c.in-Ok.ensures in
    let counts = c.in-Ok-compare_counts.ensures in
    most_then (map_pages shape + count_pages shape) (print_pages shape) (total shape - 1) d0 d2 d3 (omega arith) (looked_then d0 d1 d2 maps.looked counts.looked).kind
    (most_then (map_pages shape) (count_pages shape) (map_pages shape + count_pages shape) d0 d1 d2 (omega arith) maps.looked.kind maps.few counts.few) c.in-Ok-look_at_prints.ensures.few

pub returns-in-None-clause-reads : goal.returns-in-None-clause-reads
returns-in-None-clause-reads g c =
    let d0 = g.D.Device.seen c.args.device.now in
    let d1 = g.D.Device.seen c.tally_maps.new.device in
    let d2 = g.D.Device.seen c.compare_counts.new.device in
    let d3 = g.D.Device.seen c.look_at_prints.new.device in
    let d4 = g.D.Device.seen c.judge.new.device in
    let shape = c.args.shape.now in
    let kept = c.look_at_prints.new.prints.items in
    let maps = c.in-Ok.ensures in
    let counts = c.in-Ok-compare_counts.ensures in
    let prints = c.in-Ok-look_at_prints.ensures in
    let looked2 = looked_then d0 d1 d2 maps.looked counts.looked in
    let n = map_pages shape + count_pages shape + print_pages shape in
    if_ok c.judge.result (λ v. Hashed kept shape.pages v d3 d4) (λ v. Holds (λ i. shape_of i ≡ shape → ReadsAfter 1 (reads_of v i) d0 d4) d0)
    (λ v h honest tells told. hash_reads shape kept (newest d0.state) told (held_before (ArePrints shape kept) d0 d2 looked2 prints.kept honest tells) n v d0 d3 d4 (omega arith) (looked_then d0 d2 d3 looked2 prints.looked).kind
    (reads_then (map_pages shape + count_pages shape) (print_pages shape) n d0 d2 d3 refl looked2.kind
    (reads_then (map_pages shape) (count_pages shape) (map_pages shape + count_pages shape) d0 d1 d2 refl maps.looked.kind maps.reads counts.reads) prints.reads) h)
    c.judge.ensures.reads

pub returns-in-None-clause-stopped : goal.returns-in-None-clause-stopped
returns-in-None-clause-stopped g c =
    let d0 = g.D.Device.seen c.args.device.now in
    let d1 = g.D.Device.seen c.tally_maps.new.device in
    let d2 = g.D.Device.seen c.compare_counts.new.device in
    let d3 = g.D.Device.seen c.look_at_prints.new.device in
    let d4 = g.D.Device.seen c.judge.new.device in
    let shape = c.args.shape.now in
    let kept = c.look_at_prints.new.prints.items in
    let maps = c.in-Ok.ensures in
    let counts = c.in-Ok-compare_counts.ensures in
    let prints = c.in-Ok-look_at_prints.ensures in
    let looked2 = looked_then d0 d1 d2 maps.looked counts.looked in
    let n = map_pages shape + count_pages shape + print_pages shape in
    if_err c.judge.result (λ stop. StoppedHashing kept shape.pages stop d3 d4) (λ stop. Holds (λ i. shape_of i ≡ shape → StopReads 1 stop i d0 d4) d0)
    (λ stop h honest tells told. hash_stop shape kept (newest d0.state) told (held_before (ArePrints shape kept) d0 d2 looked2 prints.kept honest tells) n stop d0 d3 d4 (omega arith) (looked_then d0 d2 d3 looked2 prints.looked).kind
    (reads_then (map_pages shape + count_pages shape) (print_pages shape) n d0 d2 d3 refl looked2.kind
    (reads_then (map_pages shape) (count_pages shape) (map_pages shape + count_pages shape) d0 d1 d2 refl maps.looked.kind maps.reads counts.reads) prints.reads) h)
    c.judge.ensures.stopped

pub returns-in-None-clause-few : goal.returns-in-None-clause-few
returns-in-None-clause-few g c =
    let d0 = g.D.Device.seen c.args.device.now in
    let d1 = g.D.Device.seen c.tally_maps.new.device in
    let d2 = g.D.Device.seen c.compare_counts.new.device in
    let d3 = g.D.Device.seen c.look_at_prints.new.device in
    let d4 = g.D.Device.seen c.judge.new.device in
    let shape = c.args.shape.now in
    let maps = c.in-Ok.ensures in
    let counts = c.in-Ok-compare_counts.ensures in
    let prints = c.in-Ok-look_at_prints.ensures in
    let looked2 = looked_then d0 d1 d2 maps.looked counts.looked in
    let n = map_pages shape + count_pages shape + print_pages shape in
    most_then n shape.pages (total shape - 1) d0 d3 d4 (omega arith) (looked_then d0 d2 d3 looked2 prints.looked).kind
    (most_then (map_pages shape + count_pages shape) (print_pages shape) n d0 d2 d3 (omega arith) looked2.kind
    (most_then (map_pages shape) (count_pages shape) (map_pages shape + count_pages shape) d0 d1 d2 (omega arith) maps.looked.kind maps.few counts.few) prints.few) c.judge.ensures.few
