use Rattle.std.proofs.Common.{◌≡◌, ℕ, ◌+◌, ◌-◌, ◌*◌, ◌<◌, ◌≤◌, min, List, Some, None, refl, sym, ◌∙◌, ap, subst, arith, length, add-one}
use Rattle.std.proofs.lemmas.List.{length-replicate}
use Rattle.page_device.specs.Block.{Block}
use Rattle.page_device.specs.Disk.{newest}
use Rattle.page_layout.specs.Shape.{first_count_page}
use Rattle.page_layout.specs.Tables.{page_of, map_of}
use Rattle.page_layout.specs.Entries.{IsEntry, IsFirstFault}
use Rattle.page_layout.specs.declared.shape.Table.TheVariants.{Map}
use Rattle.page_layout.proofs.TablePages.{page_of_entries}
use Rattle.image_reader.specs.Tallies.{NamesTo}
use Rattle.image_reader.proofs.Naming.{names_start}
use Rattle.image_reader.proofs.Looking.{looked_none, looked_then, held_before}
use Rattle.image_reader.proofs.TablesAt.{map_table}
use Rattle.mount_tables.specs.Reading.{FitBetween}
use Rattle.mount_tables.proofs.Entries.{map_fit, of_map}
use Rattle.mount_tables.proofs.Firsts.{fit_none, fit_more, first_here}
use Rattle.mount_tables.proofs.Names.{names_of_page}
use Rattle.mount_tables.proofs.maps.read_maps.Goals as goal

pub loop-k-init : goal.loop-k-init
loop-k-init g c =
    let d = g.D.Device.seen c.args.device.now in
    let shape = c.args.shape.now in
    let zeros = c.requires.zeros in
    let none : 0 ≡ min shape.blocks (1024 * (1 - 1)) = omega arith in
    record {
      looked = looked_none d;
      pages = refl;
      faults = omega arith;
      reads = λ t few. omega (arith, few);
      fitted = λ honest tells. fit_none 1 shape (newest d.state);
      counted = ap length zeros ∙ length-replicate shape.pages 0;
      names = λ honest tells. subst (λ (n : ℕ). NamesTo shape.pages n (map_of (newest d.state)) c.args.tallies.now.items 0) none (names_start shape.pages (map_of (newest d.state)) c.args.tallies.now.items zeros);
    }

pub tally_page-mapped-requires-clause-entries : goal.tally_page-mapped-requires-clause-entries
tally_page-mapped-requires-clause-entries g c =
    let shape = c.args.shape.now in
    let k = c.loop-k.k in
    let high : k < first_count_page shape = omega (arith, c.loop-k-test.true, c.first_count_page-end.ensures.place) in
    let low : 1 ≤ k = c.loop-k.auto.k in
    page_of_entries Map shape k c.read_into.new.into (c.in-None.ensures Map (map_table shape k low high))

pub returns-in-Some-clause-cause : goal.returns-in-Some-clause-cause
returns-in-Some-clause-cause g c = λ honest tells known.
    let d0 = g.D.Device.seen c.args.device.now in
    let d1 = g.D.Device.seen c.loop-k.device in
    let shape = c.args.shape.now in
    let k = c.loop-k.k in
    let image = newest d0.state in
    let low : 1 ≤ k = c.loop-k.auto.k in
    let high : k < first_count_page shape = omega (arith, c.loop-k-test.true, c.first_count_page-end.ensures.place) in
    let page = c.read_into.new.into in
    let read : page_of image k ≡ page = held_before (λ (i : List Block). page_of i k ≡ page) d0 d1 c.loop-k.invariant.looked c.in-Ok.ensures.read honest tells in
    first_here 1 k 1024 shape image (IsEntry Map shape k (page_of image k)) (λ i. map_fit shape image k i low high) (λ i. of_map shape image k i low high) (c.loop-k.invariant.fitted honest tells) c.in-Some.entry
    (subst (λ (b : Block). IsFirstFault (IsEntry Map shape k b) 1024 (Some c.in-Some.entry)) (sym read) (c.in-Some.ensures Map (map_table shape k low high)))

pub loop-k-preserved : goal.loop-k-preserved
loop-k-preserved g c =
    let d0 = g.D.Device.seen c.args.device.now in
    let d1 = g.D.Device.seen c.loop-k.device in
    let d2 = g.D.Device.seen c.read_into.new.device in
    let shape = c.args.shape.now in
    let k = c.loop-k.k in
    let inv = c.loop-k.invariant in
    let page = c.read_into.new.into in
    let got = c.in-Ok.ensures in
    let low : 1 ≤ k = c.loop-k.auto.k in
    let high : k < first_count_page shape = omega (arith, c.loop-k-test.true, c.first_count_page-end.ensures.place) in
    let whole : IsFirstFault (IsEntry Map shape k page) 1024 None = c.in-None.ensures Map (map_table shape k low high) in
    record {
      looked = looked_then d0 d1 d2 inv.looked got.looked;
      pages = got.pages ∙ inv.pages;
      faults = omega (arith, inv.faults, got.cause.never_falls);
      reads = λ t few. let h = inv.reads t few in omega (arith, h, got.reads.counted (inv.looked.kind.tells_reads ∙ t) (omega (arith, h)), low);
      fitted = λ honest tells.
          let image = newest d0.state in
          let read : page_of image k ≡ page = held_before (λ (i : List Block). page_of i k ≡ page) d0 d1 inv.looked got.read honest tells in
          subst (λ (n : ℕ). FitBetween 1 n shape image) (sym (add-one k))
          (fit_more 1 k 1024 shape image (IsEntry Map shape k (page_of image k)) (λ i. map_fit shape image k i low high) (λ i. of_map shape image k i low high) (inv.fitted honest tells)
          (subst (λ (b : Block). IsFirstFault (IsEntry Map shape k b) 1024 None) (sym read) whole));
      counted = c.tally_page-mapped.ensures.length;
      names = λ honest tells.
          let image = newest d0.state in
          let read : page_of image k ≡ page = held_before (λ (i : List Block). page_of i k ≡ page) d0 d1 inv.looked got.read honest tells in
          let next : k - 1 + 1 ≡ k + 1 - 1 = omega (arith, low) in
          subst (λ (n : ℕ). NamesTo shape.pages (min shape.blocks (1024 * n)) (map_of image) c.tally_page-mapped.new.tallies.items c.tally_page-mapped.result) next
          (c.tally_page-mapped.ensures.names (map_of image) (names_of_page image k page low read) (inv.names honest tells));
    }

pub returns-clause-fitted : goal.returns-clause-fitted
returns-clause-fitted g c = λ honest tells _ k i low high. c.loop-k.invariant.fitted honest tells k i low (omega (arith, high, c.loop-k-test.false, c.first_count_page-end.ensures.place))

pub returns-clause-reads : goal.returns-clause-reads
returns-clause-reads g c = record { counted = λ t few. omega (arith, c.loop-k.invariant.reads t few, c.loop-k.auto.k, c.loop-k-test.false, c.first_count_page-end.ensures.place) }

pub returns-clause-names : goal.returns-clause-names
returns-clause-names g c = λ honest tells.
    let shape = c.args.shape.now in
    let all : min shape.blocks (1024 * (c.loop-k.k - 1)) ≡ shape.blocks = omega (arith, c.loop-k-test.false, c.first_count_page-end.ensures.place) in
    subst (λ (n : ℕ). NamesTo shape.pages n (map_of (newest (g.D.Device.seen c.args.device.now).state)) c.loop-k.tallies.items c.loop-k.mapped) all (c.loop-k.invariant.names honest tells)
