use Rattle.std.proofs.Common.{◌≡◌, ℕ, suc, ◌+◌, ◌-◌, ◌*◌, slice_index_or, length, refl, Option, sym, ◌∙◌, ap, subst, arith, add-one}
use Rattle.std.proofs.lemmas.List.{get_or_read_under}
use Rattle.page_layout.specs.Shape.{ShapeView, count_page, count_place}
use Rattle.page_layout.specs.Tables.{count_of}
use Rattle.image_reader.specs.Tallies.{tally_of}
use Rattle.image_check.specs.declared.counts.Low.{Low}
use Rattle.image_check.specs.Steps.{CountsTo, noted}
use Rattle.image_check.proofs.Comparing.{count_told, counts_next}
use Rattle.image_check.proofs.counts.compare_page.Goals as goal

pub loop-at-preserved : goal.loop-at-preserved
loop-at-preserved c =
    let inv = c.loop-at.invariant in
    let at = c.loop-at.at in
    let k = c.args.k in
    let shape = c.args.shape.now in
    let start = 1024 * (k - c.first_count_page.result) in
    let old = c.loop-at.tallies.items in
    let stored = c.count_entry-stored.result in
    record {
      length = c.put_count.ensures.length ∙ inv.length;
      counts = λ image told read before.
          let page : count_page shape (at + 1) ≡ k = omega (arith, c.loop-at.auto, c.loop-at-test.true, c.requires.first) in
          let place : count_place (at + 1) ≡ at - start = omega (arith, c.loop-at.auto, c.loop-at-test.true, c.requires.first, c.first_count_page.ensures.place) in
          let is : count_of image (at + 1) ≡ stored = count_told shape image k (at - start) (at + 1) c.args.page.now told read page place ∙ sym c.count_entry-stored.ensures in
          let named : c.index.result.now ≡ tally_of old (at + 1) =
          get_or_read_under old at (length old) c.index.result.now 0 c.index.ensures (omega (arith, c.loop-at-test.true, c.min-end.ensures, inv.length, ap (λ (s : ShapeView). s.pages) c.shape.view_is)) refl
          ∙ ap (λ (n : ℕ). slice_index_or old n 0) (omega arith) in
          let next = counts_next shape.pages at image old c.put_count.new.tallies.items c.loop-at.low stored (omega (arith, c.loop-at-test.true, c.min-end.ensures, ap (λ (s : ShapeView). s.pages) c.shape.view_is)) is (inv.counts image told read before) c.put_count.ensures.here c.put_count.ensures.others in
          subst (λ (n : ℕ). CountsTo shape.pages n image c.put_count.new.tallies.items c.first_low-low.result) (sym (add-one at))
          (subst (λ (low : Option Low). CountsTo shape.pages (suc at) image c.put_count.new.tallies.items low) (sym (c.first_low-low.ensures ∙ ap (noted c.loop-at.low (at + 1) stored) named)) next);
    }
