use Rattle.std.proofs.Common.{◌≡◌, ℕ, ◌+◌, ◌-◌, ◌*◌, ◌<◌, ◌≤◌, min, List, length, refl, sym, ◌∙◌, ap, subst, arith, add-one}
use Rattle.std.proofs.lemmas.List.{length-replicate}
use Rattle.page_device.specs.Block.{Block}
use Rattle.page_device.specs.Disk.{newest}
use Rattle.page_layout.specs.declared.shape.Table.TheVariants.{Map}
use Rattle.page_layout.specs.Numbers.{entry_of}
use Rattle.page_layout.specs.Shape.{map_pages, first_count_page, map_page, map_place}
use Rattle.page_layout.specs.Tables.{page_of, map_of}
use Rattle.page_layout.proofs.TablePages.{page_of_entries}
use Rattle.image_reader.specs.Tallies.{AreNamesOf, NamesTo}
use Rattle.image_reader.proofs.Naming.{names_start}
use Rattle.image_reader.proofs.TablesAt.{map_table}
use Rattle.image_reader.proofs.Looking.{looked_none, looked_then, held_before}
use Rattle.image_reader.specs.Looked.{Reads, reads_none, reads_then}
use Rattle.image_check.specs.Steps.{FormedBelow}
use Rattle.image_check.proofs.Stopped.{stop_before}
use Rattle.image_check.proofs.Malformed.{formed_more}
use Rattle.image_check.proofs.Reading.{most_of}
use Rattle.image_check.proofs.maps.tally_maps.Goals as goal

-- the names of the blocks of a map page
names_here : (image : List Block) (page : Block) (k : ℕ) → 1 ≤ k → page_of image k ≡ page → AreNamesOf page (k - 1) (map_of image)
names_here image page k low read = record {
  each = λ i lt.
      let at : map_page (1024 * (k - 1) + i) ≡ k = omega (arith, lt, low) in
      let place : map_place (1024 * (k - 1) + i) ≡ i = omega (arith, lt) in
      ap (λ (n : ℕ). entry_of (page_of image n) (map_place (1024 * (k - 1) + i))) at ∙ ap (entry_of (page_of image k)) place ∙ ap (λ (b : Block). entry_of b i) read;
}

pub tally_page-mapped-requires-clause-entries : goal.tally_page-mapped-requires-clause-entries
tally_page-mapped-requires-clause-entries g c =
    let shape = c.args.shape.now in
    let k = c.loop-k.k in
    let low : 1 ≤ k = c.loop-k.auto.k in
    let high : k < first_count_page shape = omega (arith, c.loop-k-test.true, c.first_count_page-k-end.ensures.place) in
    page_of_entries Map shape k c.in-Ok.page (c.in-Ok.ensures.entries Map (map_table shape k low high))

pub loop-k-init : goal.loop-k-init
loop-k-init g c =
    let shape = c.args.shape.now in
    let none : 0 ≡ min shape.blocks (1024 * (1 - 1)) = omega arith in
    record {
      looked = looked_none (g.D.Device.seen c.args.device.now);
      pages = refl;
      faults = omega arith;
      reads = reads_none (g.D.Device.seen c.args.device.now);
      length = ap length c.requires.zeros ∙ length-replicate shape.pages 0;
      formed = λ honest tells below. below;
      names = λ honest tells. subst (λ (n : ℕ). NamesTo shape.pages n (map_of (newest (g.D.Device.seen c.args.device.now).state)) c.args.tallies.now.items 0) none (names_start shape.pages (map_of (newest (g.D.Device.seen c.args.device.now).state)) c.args.tallies.now.items c.requires.zeros);
    }

pub returns-in-Err-clause-cause : goal.returns-in-Err-clause-cause
returns-in-Err-clause-cause g c =
    let d0 = g.D.Device.seen c.args.device.now in
    let d1 = g.D.Device.seen c.loop-k.device in
    let d2 = g.D.Device.seen c.read_table.new.device in
    let inv = c.loop-k.invariant in
    stop_before c.args.shape.now (FormedBelow 1 c.args.shape.now) (FormedBelow c.loop-k.k c.args.shape.now) d0 d1 d2 inv.looked inv.faults c.in-Err.ensures.never_falls
    (λ honest tells _ _. inv.formed honest tells) c.in-Err.stop c.in-Err.ensures.cause

pub loop-k-preserved : goal.loop-k-preserved
loop-k-preserved g c =
    let d0 = g.D.Device.seen c.args.device.now in
    let d1 = g.D.Device.seen c.loop-k.device in
    let d2 = g.D.Device.seen c.read_table.new.device in
    let inv = c.loop-k.invariant in
    let shape = c.args.shape.now in
    let k = c.loop-k.k in
    let image = newest d0.state in
    record {
      looked = looked_then d0 d1 d2 inv.looked c.in-Ok.ensures.looked;
      pages = c.in-Ok.ensures.pages ∙ inv.pages;
      faults = omega (arith, inv.faults, c.in-Ok.ensures.never_falls);
      reads = reads_then (k - 1) 1 (k + 1 - 1) d0 d1 d2 (omega (arith, c.loop-k.auto.k)) inv.looked.kind inv.reads c.in-Ok.ensures.reads;
      length = c.tally_page-mapped.ensures.length;
      formed = λ honest tells below.
          let read : page_of image k ≡ c.in-Ok.page = held_before (λ (i : List Block). page_of i k ≡ c.in-Ok.page) d0 d1 inv.looked c.in-Ok.ensures.read honest tells in
          subst (λ (n : ℕ). FormedBelow n shape image) (sym (add-one k)) (formed_more shape image k c.in-Ok.page read c.in-Ok.ensures.entries (inv.formed honest tells below));
      names = λ honest tells.
          let read : page_of image k ≡ c.in-Ok.page = held_before (λ (i : List Block). page_of i k ≡ c.in-Ok.page) d0 d1 inv.looked c.in-Ok.ensures.read honest tells in
          let low : 1 ≤ k = c.loop-k.auto.k in
          let next : min shape.blocks (1024 * (k - 1 + 1)) ≡ min shape.blocks (1024 * (k + 1 - 1)) = omega (arith, low) in
          subst (λ (n : ℕ). NamesTo shape.pages n (map_of image) c.tally_page-mapped.new.tallies.items c.tally_page-mapped.result) next
          (c.tally_page-mapped.ensures.names (map_of image) (names_here image c.in-Ok.page k low read) (inv.names honest tells));
    }

pub returns-in-Err-clause-stopped : goal.returns-in-Err-clause-stopped
returns-in-Err-clause-stopped g c =
    let inv = c.loop-k.invariant in
    let k = c.loop-k.k in
    let first : ℕ = 1 in
    record {
      page = k;
      is = c.in-Err.ensures.stopped;
      at_least = c.loop-k.auto.k;
      reads = reads_then (k - first) 1 (k + 1 - first) (g.D.Device.seen c.args.device.now) (g.D.Device.seen c.loop-k.device) (g.D.Device.seen c.read_table.new.device) (omega (arith, c.loop-k.auto.k)) inv.looked.kind inv.reads c.in-Err.ensures.reads;
    }

pub returns-in-Err-clause-few : goal.returns-in-Err-clause-few
unfolding returns-in-Err-clause-stopped
returns-in-Err-clause-few g c = most_of (c.loop-k.k + 1 - 1) (map_pages c.args.shape.now) (g.D.Device.seen c.args.device.now) (g.D.Device.seen c.read_table.new.device)
    (omega (arith, c.loop-k-test.true, c.first_count_page-k-end.ensures.place)) (returns-in-Err-clause-stopped g c).reads

pub returns-clause-reads : goal.returns-clause-reads
returns-clause-reads g c =
    let all : c.loop-k.k - 1 ≡ map_pages c.args.shape.now = omega (arith, c.loop-k.auto.k, c.loop-k-test.false, c.first_count_page-k-end.ensures.place) in
    subst (λ (n : ℕ). Reads n (g.D.Device.seen c.args.device.now) (g.D.Device.seen c.loop-k.device)) all c.loop-k.invariant.reads

pub returns-clause-few : goal.returns-clause-few
returns-clause-few g c = most_of (map_pages c.args.shape.now) (map_pages c.args.shape.now) (g.D.Device.seen c.args.device.now) (g.D.Device.seen c.loop-k.device) (omega arith) (returns-clause-reads g c)
