-- The verdict on an image whose tables were looked at.
use Rattle.std.proofs.Common.{◌≡◌, ℕ, ◌+◌, ◌-◌, ◌<◌, ◌≤◌, ◌==◌, List, Option, Some, None, sym, ◌∙◌, ap, arith}
use Rattle.page_device.specs.Block.{Block}
use Rattle.page_layout.specs.Shape.{ShapeView, first_data_page}
use Rattle.page_layout.specs.Tables.{shape_of, HasShape, map_of, count_of}
use Rattle.array_model.specs.Counting.{count_below, sum_below, mapped_of, counted_of}
use Rattle.array_model.specs.Images.{EachPage, IsSound, waste_of}
use Rattle.array_model.proofs.CountingLemmas.{sum_below-same}
use Rattle.image_reader.specs.Tallies.{tally_of, NamesTo}
use Rattle.image_reader.proofs.WellFormed.{formed_entry}
use Rattle.image_check.specs.declared.counts.Low.{Low}
use Rattle.image_check.specs.declared.verdict.Verdict.{Verdict}
use Rattle.image_check.specs.declared.verdict.Verdict.TheVariants.{Sound, Damaged, LowCount, WrongPrint, PrintOnZero}
use Rattle.page_device.specs.Meaning.{Meaning}
use Rattle.image_reader.specs.Looked.{Holds}
use Rattle.page_device.specs.Disk.{newest}
use Rattle.image_check.specs.Verdicts.{IsVerdict, IsUnsound, IsLowCount, IsWrongPrint, IsPrintOnZero, HasTruePrint}
use Rattle.image_check.specs.Steps.{FormedBelow, NamesAre, CountsTo, IsFirstLow, IsReady, PrintsTo}
use Rattle.image_check.proofs.Malformed.{well_formed}

module _ (shape : ShapeView) (image : List Block) (told : shape_of image ≡ shape) where
  pages : (shape_of image).pages ≡ shape.pages
  pages = ap (λ (s : ShapeView). s.pages) told

  -- the names of all blocks are the names of the image
  pub names_are : (tallies : List ℕ) (mapped : ℕ) → NamesTo shape.pages shape.blocks (map_of image) tallies mapped → NamesAre shape.pages image tallies
  names_are tallies mapped to p one le = to.named p one le ∙ ap (λ (s : ShapeView). count_below (λ block. map_of image block == p) s.blocks) (sym told)

  -- all that the fingerprints need
  pub is_ready : (counts : List ℕ) → FormedBelow (first_data_page shape) shape image → CountsTo shape.pages shape.pages image counts None → IsReady shape counts image
  is_ready counts below to = record { formed = below; counted = to.counted; covered = to.lowest }

  module _ (has : HasShape image) where
    pub low_verdict : (low : Low) → FormedBelow (first_data_page shape) shape image → IsFirstLow shape.pages image low → IsLowCount image low.page low.stored low.named
    low_verdict low below first = record {
      shape = has;
      well_formed = well_formed shape image told below;
      low = record { one = first.one; within = omega (arith, first.within, pages); fault = λ covered. omega (arith, covered, first.less); first = first.first };
      stored_is = first.stored_is;
      named_is = first.named_is;
    }

    module _ (counts : List ℕ) (ready : IsReady shape counts image) where
      each : (P : ℕ → Type 0) → ((p : ℕ) → 1 ≤ p → p ≤ shape.pages → P p) → EachPage image P
      each P h p one le = h p one (omega (arith, le, pages))

      pub wrong_verdict : (at : ℕ) (first : Option ℕ) → at < shape.pages → PrintsTo at image first → (HasTruePrint image (at + 1) → ⊥) → IsWrongPrint image (at + 1)
      wrong_verdict at first within to wrong = record {
        shape = has;
        well_formed = well_formed shape image told ready.formed;
        names_counted = λ p one le. ready.covered p one (omega (arith, le, pages));
        wrong = record { one = omega arith; within = omega (arith, within, pages); fault = wrong; first = λ q one less. to.true_to q one (omega (arith, less)) };
      }

      pub zero_verdict : (bare : ℕ) → PrintsTo shape.pages image (Some bare) → IsPrintOnZero image bare
      zero_verdict bare to = record {
        shape = has;
        well_formed = well_formed shape image told ready.formed;
        names_counted = λ p one le. ready.covered p one (omega (arith, le, pages));
        prints_true = λ p one le. to.true_to p one (omega (arith, le, pages));
        bare = record { one = to.zero_to.0; within = omega (arith, to.zero_to.1, pages); fault = to.zero_to.2; first = to.zero_to.3 };
      }

      pub sound_verdict : PrintsTo shape.pages image None → IsSound image
      sound_verdict to = record {
        shape = has;
        well_formed = well_formed shape image told ready.formed;
        names_counted = λ p one le. ready.covered p one (omega (arith, le, pages));
        prints_counted = λ p one le. to.zero_to p one (omega (arith, le, pages));
        prints_true = λ p one le. to.true_to p one (omega (arith, le, pages));
        exact = tt;
        once = tt;
      }

      pub waste_is : (sum mapped n : ℕ) → n ≡ shape.pages → sum ≡ sum_below (λ k. tally_of counts (k + 1)) n → mapped ≡ mapped_of (map_of image) shape.blocks → sum - mapped ≡ waste_of image
      waste_is sum mapped n many is mapped_is = ap (λ (s : ℕ). s - mapped) counted ∙ ap (λ (m : ℕ). counted_of (count_of image) (shape_of image).pages - m) (mapped_is ∙ ap (λ (s : ShapeView). mapped_of (map_of image) s.blocks) (sym told))
        where
          counted : sum ≡ counted_of (count_of image) (shape_of image).pages
          counted = is ∙ ap (sum_below (λ k. tally_of counts (k + 1))) (many ∙ sym pages) ∙ sum_below-same (λ k. tally_of counts (k + 1)) (λ k. count_of image (k + 1)) (shape_of image).pages (λ k lt. ready.counted (k + 1) (omega arith) (omega (arith, lt, pages)))

-- an image of another verdict than sound is not sound
pub unsound : (verdict : Verdict) (d : Meaning) → Holds (IsVerdict verdict) d → IsUnsound verdict d
unsound (Sound waste) d h = tt
unsound (Damaged damage) d h = λ honest tells sound. (h honest tells).1.fault (formed_entry (newest d.state) sound.well_formed damage.page damage.entry)
unsound (LowCount page stored named) d h = λ honest tells sound. let v = h honest tells in v.low.fault (sound.names_counted page v.low.one v.low.within)
unsound (WrongPrint page) d h = λ honest tells sound. let v = h honest tells in v.wrong.fault (sound.prints_true page v.wrong.one v.wrong.within)
unsound (PrintOnZero page) d h = λ honest tells sound. let v = h honest tells in v.bare.fault (sound.prints_counted page v.bare.one v.bare.within)
