-- Each image that a crash leaves has counts that cover its names and its prints.
use Rattle.std.proofs.Common.{inl, ℕ, List, eqb, eqb-true, Bool}
use Rattle.order_model.specs.World.{Layout, World}
use Rattle.engine_model.specs.Counts.{CountsInvariant}
use Rattle.engine_model.specs.Entries.{MayName, MayPrint}
use Rattle.engine_model.specs.Contents.{ContentsInvariant}
use Rattle.engine_model.specs.Images.{CrashImage, CountsFit, ContentsFit}

pub image_fits : (lay : Layout) (top : ℕ) (w : World) (image : ℕ → List ℕ) → CountsInvariant lay top w → CrashImage w image → CountsFit lay image
image_fits lay top w image old is = record {
  names = λ p d. (old.counts_cover_names p d).each (image (lay.count_page p)) (is (lay.count_page p))
      (λ l. eqb (lay.name_in (image (lay.map_page l)) l) p)
      (λ l lt t. inl (record { content = image (lay.map_page l); possible = is (lay.map_page l); names = eqb-true _ p t }));
  prints = λ p print d h. (old.counts_cover_prints p d).each (image (lay.count_page p)) print (is (lay.count_page p))
      (inl (record { content = image (lay.print_page p); possible = is (lay.print_page p); has = h }));
}

pub image_reads : (lay : Layout) (sound : Bool) (array : ℕ → List (List ℕ)) (w : World) (image : ℕ → List ℕ)
    → ContentsInvariant lay sound array w → CrashImage w image → ContentsFit lay sound image array
image_reads lay sound array w image old is = record {
  reads = λ l lt. record {
    unmapped = λ n. (old.reads l lt).unmapped (record { content = image (lay.map_page l); possible = is (lay.map_page l); names = n });
    mapped = λ p d n.
        let may : MayName lay w p l = record { content = image (lay.map_page l); possible = is (lay.map_page l); names = n } in
        rw (((old.named_data_fixed p d).named l lt may).one (image (lay.data_page p)) (is (lay.data_page p))) ((old.reads l lt).mapped p d may);
  };
  prints = λ s p print d h.
      let may : MayPrint lay w p print = record { content = image (lay.print_page p); possible = is (lay.print_page p); has = h } in
      rw (((old.named_data_fixed p d).printed print may).one (image (lay.data_page p)) (is (lay.data_page p))) ((old.prints_true s p d).possible print may);
  well_formed = λ page t. old.well_formed.possible page (image page) t (is page);
}
