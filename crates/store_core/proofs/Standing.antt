-- What a core stands for, said with less, and where no page is dirty or hung.
use Rattle.std.proofs.Common.{◌≡◌, inr, ◌<◌, ℕ, Bool, true, false, sym, ◌∙◌, List, [], get_or}
use Rattle.std.proofs.lemmas.Bool.{false_from_ne_true, or_left, or_right, true≢false}
use Rattle.page_device.specs.Block.{Block}
use Rattle.page_device.specs.Disk.{IsImage}
use Rattle.page_device.specs.Meaning.{Meaning}
use Rattle.dep_graph.specs.Lists.{is_node}
use Rattle.array_model.specs.Images.{block_of}
use Rattle.order_model.specs.World.{Layout, World}
use Rattle.engine_model.specs.Contents.{ContentsInvariant, Last, Reads}
use Rattle.engine_model.specs.Schedule.{NoNode}
use Rattle.engine_model.proofs.Disks.{image_possible}
use Rattle.engine_model.proofs.Flushes.{reads_last}
use Rattle.store_core.specs.declared.Core.{Core}
use Rattle.store_core.specs.Weaker.{Extends}
use Rattle.store_core.specs.Layout.{lay_of, top}
use Rattle.store_core.specs.Stands.{StandsFor, moment_of}
use Rattle.store_core.proofs.Good.{format, reads_same}
use Rattle.store_core.proofs.Stood.{images_fit}

-- prints need not be true
fit_contents : (lay : Layout) (array : ℕ → List Block) (w : World) → ContentsInvariant lay true array w → ContentsInvariant lay false array w
fit_contents lay array w k = record {
  fresh_data_first = k.fresh_data_first;
  named_data_fixed = k.named_data_fixed;
  named_data_stands = k.named_data_stands;
  reads = k.reads;
  prints_true = λ never. absurd (true≢false (sym never));
  well_formed = k.well_formed;
  first_page = k.first_page;
}

pub stands_fit : (d : Meaning) (core : Core) (array : ℕ → List Block) → StandsFor true d core array → StandsFor false d core array
stands_fit d core array s = record {
  known = s.known;
  of_shape = s.of_shape;
  calls = s.calls;
  told = s.told;
  kept = record { counts = s.kept.counts; contents = fit_contents (lay_of core.shape) array _ s.kept.contents; births = s.kept.births; pool_knows_counts = s.kept.pool_knows_counts };
  births = s.births;
  pool = s.pool;
}

-- longer lists with the same last members
longer_reads : (lay : Layout) (w : World) (array longer : ℕ → List Block) (l : ℕ) → Extends (array l) (longer l) → Reads lay w array l → Reads lay w longer l
longer_reads lay w array longer l more r = record {
  unmapped = λ may. more.members _ (r.unmapped may);
  mapped = λ p is may. more.members _ (r.mapped p is may);
  cached_unmapped = λ none. more.last _ (r.cached_unmapped none);
  cached_mapped = λ p is named. more.last _ (r.cached_mapped p is named);
}

longer_contents : (lay : Layout) (sound : Bool) (w : World) (array longer : ℕ → List Block) → ((l : ℕ) → l < lay.blocks → Extends (array l) (longer l)) → ContentsInvariant lay sound array w → ContentsInvariant lay sound longer w
longer_contents lay sound w array longer more k = record {
  fresh_data_first = k.fresh_data_first;
  named_data_fixed = k.named_data_fixed;
  named_data_stands = k.named_data_stands;
  reads = λ l lt. longer_reads lay w array longer l (more l lt) (k.reads l lt);
  prints_true = k.prints_true;
  well_formed = k.well_formed;
  first_page = k.first_page;
}

pub stands_longer : (sound : Bool) (d : Meaning) (core : Core) (array longer : ℕ → List Block) → ((l : ℕ) → l < core.shape.blocks → Extends (array l) (longer l)) → StandsFor sound d core array → StandsFor sound d core longer
stands_longer sound d core array longer more s = record {
  known = s.known;
  of_shape = s.of_shape;
  calls = s.calls;
  told = s.told;
  kept = record { counts = s.kept.counts; contents = longer_contents (lay_of core.shape) sound _ array longer more s.kept.contents; births = s.kept.births; pool_knows_counts = s.kept.pool_knows_counts };
  births = s.births;
  pool = s.pool;
}

-- no page is dirty or hung
pub reads_settled : (sound : Bool) (d : Meaning) (core : Core) (array : ℕ → List Block) (image : List Block) → StandsFor sound d core array → ((a : ℕ) → is_node core.engine.graph a ≡ false) → IsImage d.state image
    → (l : ℕ) → l < core.shape.blocks → (c : Block) → Last (array l) c → block_of image l ≡ c
reads_settled sound d core array image s none is l lt c last =
    let clean : NoNode (moment_of d core array s.calls s.told) =
    λ a. (false_from_ne_true _ (λ h. true≢false (sym (or_left _ _ h) ∙ none a)), false_from_ne_true _ (λ h. true≢false (sym (or_right _ _ h) ∙ none a))) in
    reads_same core.shape sound array image (images_fit sound d core array s image is) l lt
    ∙ reads_last (lay_of core.shape) top sound (moment_of d core array s.calls s.told) s.kept clean (format core.shape) (λ page. get_or image page []) (λ page. inr (image_possible d.state image page is)) l lt c last
