-- What a store stands for may be said with less.
use Rattle.std.proofs.Common.{◌≡◌, ◌⊎◌, inl, inr, ⊎_elim, ℕ, ◌<◌, ◌≤◌, List, refl, sym, ◌∙◌, ap}
use Rattle.page_device.specs.Block.{Block}
use Rattle.page_device.specs.Disk.{MayHold}
use Rattle.page_device.specs.Meaning.{Meaning}
use Rattle.page_layout.specs.Shape.{ShapeView}
use Rattle.array_model.specs.Images.{Mode, fit, sound, tight, FromSound}
use Rattle.array_model.specs.Array.{BlockArray, IsAmong, last}
use Rattle.dedup_writer.specs.Core.{CachedTables, CoreView}
use Rattle.dedup_writer.specs.Stands.{Uses, EntryFits, PageFits, CacheFits, StandsWith, StandsFor, Weakens}

-- less is asked of a page
weaker_page : (uses : Uses) (mode : Mode) (t : CachedTables) (a : BlockArray) (k : ℕ) (page : Block) → Weakens uses.mode mode → PageFits uses t a k page → PageFits (record uses { mode = mode }) t a k page
weaker_page uses mode t a k page less f = record {
  superblock = f.superblock;
  shape = f.shape;
  map_page_fits = f.map_page_fits;
  entries = f.entries;
  written = f.written;
  count_page_fits = f.count_page_fits;
  counts = f.counts;
  printed = f.printed;
  prints_stay = f.prints_stay;
  prints_true = by _ uses.mode mode less f.prints_true;
  contents = f.contents;
}
  where
    by : (P : Type 0) (m n : Mode) → Weakens m n → FromSound m P → FromSound n P
    by P m fit less h = tt
    by P fit sound less h = absurd less
    by P sound sound less h = h
    by P tight sound less h = h
    by P fit tight less h = absurd less
    by P sound tight less h = absurd less
    by P tight tight less h = h

weaker_cache : (uses : Uses) (mode : Mode) (t : CachedTables) (a : BlockArray) → CacheFits uses t a → CacheFits (record uses { mode = mode }) t a
weaker_cache uses mode t a c = record {
  pages = c.pages;
  map_pages_fit = c.map_pages_fit;
  count_pages_fit = c.count_pages_fit;
  print_pages_fit = c.print_pages_fit;
  printed = c.printed;
  entries = c.entries;
  reads = c.reads;
  mapped = c.mapped;
  counts = c.counts;
}

pub weaker_mode : (mode less : Mode) (core : CoreView) (d : Meaning) (a : BlockArray) → Weakens mode less → StandsFor mode core d a → StandsFor less core d a
weaker_mode mode less core d a weakens sf =
    let uses = sf.stands.uses in
    let from : Weakens uses.mode less = rw sf.stands.asked weakens in
    record {
      honest = sf.honest;
      tells_pages = sf.tells_pages;
      as_many = sf.as_many;
      stands = record {
        uses = record uses { mode = less };
        asked = refl;
        stands = record {
          enough = sf.stands.stands.enough;
          each = λ k page h. weaker_page uses less core.tables a k page from (sf.stands.stands.each k page h);
          cache = weaker_cache uses less core.tables a sf.stands.stands.cache;
        };
      };
    }

-- more is allowed of each block, and the last contents are the same
module _ (a b : BlockArray) (more : (block : ℕ) (content : Block) → IsAmong content (a.lists block) → IsAmong content (b.lists block)) (same : (block : ℕ) → last b block ≡ last a block) (mapped : (block : ℕ) → b.mapped block ≡ a.mapped block) where
  more_entry : (uses : Uses) (shape : ShapeView) (block entry : ℕ) → EntryFits uses shape (a.lists block) block entry → EntryFits uses shape (b.lists block) block entry
  more_entry uses shape block entry (inl e) = inl (e.0, more block _ e.1)
  more_entry uses shape block entry (inr e) = inr (e.0, e.1, e.2, more block _ e.3)

  more_page : (uses : Uses) (t : CachedTables) (k : ℕ) (page : Block) → PageFits uses t a k page → PageFits uses t b k page
  more_page uses t k page f = record {
    superblock = f.superblock;
    shape = f.shape;
    map_page_fits = f.map_page_fits;
    entries = λ block lt e. more_entry uses t.shape block _ (f.entries block lt e);
    written = f.written;
    count_page_fits = f.count_page_fits;
    counts = f.counts;
    printed = f.printed;
    prints_stay = f.prints_stay;
    prints_true = f.prints_true;
    contents = f.contents;
  }

  pub more_lists : (mode : Mode) (core : CoreView) (d : Meaning) → StandsFor mode core d a → StandsFor mode core d b
  more_lists mode core d sf =
      let uses = sf.stands.uses in
      let c = sf.stands.stands.cache in
      record {
        honest = sf.honest;
        tells_pages = sf.tells_pages;
        as_many = sf.as_many;
        stands = record {
          uses = uses;
          asked = sf.stands.asked;
          stands = record {
            enough = sf.stands.stands.enough;
            each = λ k page h. more_page uses core.tables k page (sf.stands.stands.each k page h);
            cache = record {
              pages = c.pages;
              map_pages_fit = c.map_pages_fit;
              count_pages_fit = c.count_pages_fit;
              print_pages_fit = c.print_pages_fit;
              printed = c.printed;
              entries = λ block lt. more_entry uses core.tables.shape block _ (c.entries block lt);
              reads = λ block lt. ⊎_elim (λ h. inl (h.0, same block ∙ h.1)) (λ h. inr (h.0, same block ∙ h.1)) (c.reads block lt);
              mapped = λ block lt. mapped block ∙ c.mapped block lt;
              counts = c.counts;
            };
          };
        };
      }
