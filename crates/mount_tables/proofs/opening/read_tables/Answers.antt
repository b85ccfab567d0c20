use Rattle.std.proofs.Common.{ℕ, List, refl, sym, ap, subst, arith}
use Rattle.page_device.specs.Block.{Block}
use Rattle.page_device.specs.Disk.{newest}
use Rattle.page_layout.specs.Shape.{map_pages, count_pages, print_pages, first_count_page, first_print_page, first_data_page}
use Rattle.page_layout.specs.Tables.{map_of}
use Rattle.image_reader.specs.Looked.{reads_then}
use Rattle.image_reader.specs.Tallies.{NamesTo}
use Rattle.image_reader.proofs.Looking.{looked_then, held_before}
use Rattle.mount_tables.specs.Reading.{AreTallies, AreCounts, ArePrints, FitBetween}
use Rattle.mount_tables.proofs.Fits.{fit_super, mount_cause}
use Rattle.mount_tables.proofs.FitEntries.{refusal}
use Rattle.mount_tables.proofs.Described.{part_fit, of_every_device, described}
use Rattle.mount_tables.proofs.opening.read_tables.Goals as goal

pub returns-in-Err-read_maps-clause-cause : goal.returns-in-Err-read_maps-clause-cause
returns-in-Err-read_maps-clause-cause g c =
    let d0 = g.D.Device.seen c.args.device.now in
    let d1 = g.D.Device.seen c.told_shape.new.device in
    let d2 = g.D.Device.seen c.read_maps.new.device in
    let shape = c.in-Ok.shape in
    let at = c.in-Ok.ensures in
    mount_cause 1 shape (λ _. Unit {0}) d0 d1 d2 at.looked at.never_falls c.read_maps.ensures.never_falls at.has_shape at.shape (λ _ _. tt) (λ _ _. fit_super shape (newest d0.state)) c.in-Err-read_maps.why c.in-Err-read_maps.ensures.cause

pub returns-in-Err-read_counts-clause-cause : goal.returns-in-Err-read_counts-clause-cause
returns-in-Err-read_counts-clause-cause g c =
    let d0 = g.D.Device.seen c.args.device.now in
    let d1 = g.D.Device.seen c.told_shape.new.device in
    let d2 = g.D.Device.seen c.read_maps.new.device in
    let d3 = g.D.Device.seen c.read_counts.new.device in
    let shape = c.in-Ok.shape in
    let at = c.in-Ok.ensures in
    let maps = c.in-Ok-read_maps.ensures in
    let tallies = c.read_maps.new.tallies.items in
    mount_cause (first_count_page shape) shape (AreTallies shape tallies) d0 d2 d3 (looked_then d0 d1 d2 at.looked maps.looked) (omega (arith, at.never_falls, maps.never_falls)) c.read_counts.ensures.never_falls at.has_shape at.shape
    (λ honest tells. (held_before (λ (i : List Block). NamesTo shape.pages shape.blocks (map_of i) tallies c.in-Ok-read_maps.mapped) d0 d1 at.looked maps.names honest tells).named)
    (part_fit 1 (first_count_page shape) shape (λ _. Unit {0}) d0 d1 at.looked (λ _ _. fit_super shape (newest d0.state)) (λ _ _. tt) maps.fitted)
    c.in-Err-read_counts.why c.in-Err-read_counts.ensures.cause

pub returns-in-Err-read_prints-clause-cause : goal.returns-in-Err-read_prints-clause-cause
returns-in-Err-read_prints-clause-cause g c =
    let d0 = g.D.Device.seen c.args.device.now in
    let d1 = g.D.Device.seen c.told_shape.new.device in
    let d2 = g.D.Device.seen c.read_maps.new.device in
    let d3 = g.D.Device.seen c.read_counts.new.device in
    let d4 = g.D.Device.seen c.read_prints.new.device in
    let shape = c.in-Ok.shape in
    let at = c.in-Ok.ensures in
    let maps = c.in-Ok-read_maps.ensures in
    let counts = c.in-Ok-read_counts.ensures in
    let tallies = c.read_maps.new.tallies.items in
    let looked2 = looked_then d0 d1 d2 at.looked maps.looked in
    mount_cause (first_print_page shape) shape (AreCounts shape c.deref.result.now) d0 d3 d4 (looked_then d0 d2 d3 looked2 counts.looked) (omega (arith, at.never_falls, maps.never_falls, counts.never_falls)) c.read_prints.ensures.never_falls at.has_shape at.shape
    (λ honest tells. subst (λ (l : List ℕ). AreCounts shape l (newest d0.state)) (sym c.deref.ensures.value) (λ p one upto le. held_before (AreCounts shape c.read_counts.new.tallies.items) d0 d2 looked2 counts.read honest tells p one upto le))
    (part_fit (first_count_page shape) (first_print_page shape) shape (AreTallies shape tallies) d0 d2 looked2
    (part_fit 1 (first_count_page shape) shape (λ _. Unit {0}) d0 d1 at.looked (λ _ _. fit_super shape (newest d0.state)) (λ _ _. tt) maps.fitted)
    (λ honest tells. (held_before (λ (i : List Block). NamesTo shape.pages shape.blocks (map_of i) tallies c.in-Ok-read_maps.mapped) d0 d1 at.looked maps.names honest tells).named)
    counts.fitted)
    c.in-Err-read_prints.why c.in-Err-read_prints.ensures.cause

pub returns-in-Err-clause-refusal : goal.returns-in-Err-clause-refusal
returns-in-Err-clause-refusal g c = refusal c.in-Err.why (g.D.Device.seen c.args.device.now) (g.D.Device.seen c.told_shape.new.device) c.in-Err.ensures.cause

pub returns-in-Err-read_maps-clause-refusal : goal.returns-in-Err-read_maps-clause-refusal
returns-in-Err-read_maps-clause-refusal g c = refusal c.in-Err-read_maps.why (g.D.Device.seen c.args.device.now) (g.D.Device.seen c.read_maps.new.device) (returns-in-Err-read_maps-clause-cause g c)

pub returns-in-Err-read_counts-clause-refusal : goal.returns-in-Err-read_counts-clause-refusal
returns-in-Err-read_counts-clause-refusal g c = refusal c.in-Err-read_counts.why (g.D.Device.seen c.args.device.now) (g.D.Device.seen c.read_counts.new.device) (returns-in-Err-read_counts-clause-cause g c)

pub returns-in-Err-read_prints-clause-refusal : goal.returns-in-Err-read_prints-clause-refusal
returns-in-Err-read_prints-clause-refusal g c = refusal c.in-Err-read_prints.why (g.D.Device.seen c.args.device.now) (g.D.Device.seen c.read_prints.new.device) (returns-in-Err-read_prints-clause-cause g c)

pub returns-in-Ok-tables_of-clause-every_device : goal.returns-in-Ok-tables_of-clause-every_device
returns-in-Ok-tables_of-clause-every_device g c =
    of_every_device c.in-Ok.shape c.in-Ok-read_maps.mapped c.read_counts.new.tallies.items c.in-Ok-read_prints.table.items c.in-Ok-tables_of.tables c.in-Ok-tables_of.ensures c.in-Ok-read_prints.ensures.none c.in-Ok-read_prints.ensures.length

pub returns-in-Ok-tables_of-clause-describes : goal.returns-in-Ok-tables_of-clause-describes
returns-in-Ok-tables_of-clause-describes g c = λ honest tells.
    let d0 = g.D.Device.seen c.args.device.now in
    let d1 = g.D.Device.seen c.told_shape.new.device in
    let d2 = g.D.Device.seen c.read_maps.new.device in
    let d3 = g.D.Device.seen c.read_counts.new.device in
    let shape = c.in-Ok.shape in
    let at = c.in-Ok.ensures in
    let maps = c.in-Ok-read_maps.ensures in
    let counts = c.in-Ok-read_counts.ensures in
    let prints = c.in-Ok-read_prints.ensures in
    let image = newest d0.state in
    let tallies = c.read_maps.new.tallies.items in
    let numbers = c.read_counts.new.tallies.items in
    let table = c.in-Ok-read_prints.table.items in
    let mapped = c.in-Ok-read_maps.mapped in
    let looked2 = looked_then d0 d1 d2 at.looked maps.looked in
    let looked3 = looked_then d0 d2 d3 looked2 counts.looked in
    let names : NamesTo shape.pages shape.blocks (map_of image) tallies mapped = held_before (λ (i : List Block). NamesTo shape.pages shape.blocks (map_of i) tallies mapped) d0 d1 at.looked maps.names honest tells in
    let are : AreCounts shape numbers image = λ p one upto le. held_before (AreCounts shape numbers) d0 d2 looked2 counts.read honest tells p one upto le in
    let stand : ArePrints shape table image = λ p one upto le. held_before (ArePrints shape table) d0 d3 looked3 prints.read honest tells p one upto le in
    let all : FitBetween 0 (first_data_page shape) shape image =
    part_fit (first_print_page shape) (first_data_page shape) shape (AreCounts shape c.deref.result.now) d0 d3 looked3
    (part_fit (first_count_page shape) (first_print_page shape) shape (AreTallies shape tallies) d0 d2 looked2
    (part_fit 1 (first_count_page shape) shape (λ _. Unit {0}) d0 d1 at.looked (λ _ _. fit_super shape image) (λ _ _. tt) maps.fitted)
    (λ _ _. names.named) counts.fitted)
    (λ _ _. subst (λ (l : List ℕ). AreCounts shape l image) (sym c.deref.ensures.value) are) prints.fitted honest tells in
    described shape mapped numbers table c.in-Ok-tables_of.tables c.in-Ok-tables_of.ensures image tallies (at.has_shape honest tells) (at.shape honest tells) all names are stand

pub returns-in-Ok-tables_of-clause-reads : goal.returns-in-Ok-tables_of-clause-reads
returns-in-Ok-tables_of-clause-reads g c =
    let d0 = g.D.Device.seen c.args.device.now in
    let d1 = g.D.Device.seen c.told_shape.new.device in
    let d2 = g.D.Device.seen c.read_maps.new.device in
    let d3 = g.D.Device.seen c.read_counts.new.device in
    let d4 = g.D.Device.seen c.read_prints.new.device in
    let shape = c.in-Ok.shape in
    let at = c.in-Ok.ensures in
    let maps = c.in-Ok-read_maps.ensures in
    let counts = c.in-Ok-read_counts.ensures in
    let looked2 = looked_then d0 d1 d2 at.looked maps.looked in
    let looked3 = looked_then d0 d2 d3 looked2 counts.looked in
    reads_then (first_print_page shape) (print_pages shape) (first_data_page c.in-Ok-tables_of.tables.shape) d0 d3 d4 (ap first_data_page c.in-Ok-tables_of.ensures.shape_is) looked3.kind
    (reads_then (first_count_page shape) (count_pages shape) (first_print_page shape) d0 d2 d3 refl looked2.kind
    (reads_then 1 (map_pages shape) (first_count_page shape) d0 d1 d2 refl at.looked.kind at.reads maps.reads) counts.reads) c.in-Ok-read_prints.ensures.reads
