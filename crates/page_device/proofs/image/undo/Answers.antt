use Rattle.std.proofs.Common.{◌≡◌, ℕ, ◌<◌, ◌-◌, suc, length, arith, ◌∙◌, sym, ap, take, List}
use Rattle.page_device.specs.Memory.{taken_pages, undone}
use Rattle.page_device.proofs.Rebuilds.{taken_count, taken_none_more, undo_goes, undo_ends}
use Rattle.page_device.proofs.image.undo.Goals as goal

pub overflow_sub-left : goal.overflow_sub-left
overflow_sub-left c =
    omega (arith, c.loop-i.invariant.left, taken_count c.args.entries.now c.loop-i.i (c.loop-i.i - 1) c.in-Some.page c.index-entries-i.result (omega arith) (omega (arith, c.loop-i.invariant.bound)) c.index-entries-i.is c.in-Some.ensures)

pub bounds-replaced-left : goal.bounds-replaced-left
bounds-replaced-left c =
    omega (arith, c.loop-i.invariant.left, c.loop-i.invariant.within, taken_count c.args.entries.now c.loop-i.i (c.loop-i.i - 1) c.in-Some.page c.index-entries-i.result (omega arith) (omega (arith, c.loop-i.invariant.bound)) c.index-entries-i.is c.in-Some.ensures)

pub loop-i-preserved-in-Some : goal.loop-i-preserved-in-Some
loop-i-preserved-in-Some c =
    let next : c.loop-i.i ≡ suc (c.loop-i.i - 1) = omega arith in
    let lt : c.loop-i.i - 1 < length c.args.entries.now = omega (arith, c.loop-i.invariant.bound) in
    let count = taken_count c.args.entries.now c.loop-i.i (c.loop-i.i - 1) c.in-Some.page c.index-entries-i.result next lt c.index-entries-i.is c.in-Some.ensures in
    let left : c.loop-i.left - 1 ≡ length (taken_pages (take (c.loop-i.i - 1) c.args.entries.now)) = omega (arith, count, c.loop-i.invariant.left) in
    record {
      pages = undo_goes c.loop-i.pages.items c.set_page.new.pages.items _ c.args.entries.now c.args.replaced.now c.loop-i.i (c.loop-i.i - 1) c.loop-i.left (c.loop-i.left - 1) c.in-Some.page c.index-entries-i.result c.index-replaced-left.result
          next lt c.index-entries-i.is c.in-Some.ensures (omega (arith, count, c.loop-i.invariant.left)) (omega (arith, count, c.loop-i.invariant.left, c.loop-i.invariant.within)) c.index-replaced-left.is c.set_page.ensures left c.loop-i.invariant.pages;
      left = left;
      within = omega (arith, c.loop-i.invariant.within);
      bound = omega (arith, c.loop-i.invariant.bound);
    }

pub loop-i-preserved : goal.loop-i-preserved
loop-i-preserved c =
    let next : c.loop-i.i ≡ suc (c.loop-i.i - 1) = omega arith in
    let lt : c.loop-i.i - 1 < length c.args.entries.now = omega (arith, c.loop-i.invariant.bound) in
    let same = taken_none_more c.args.entries.now c.loop-i.i (c.loop-i.i - 1) c.index-entries-i.result next lt c.index-entries-i.is c.in_default.ensures in
    record {
      pages = sym (ap (λ (l : List ℕ). undone c.loop-i.pages.items l (take c.loop-i.left c.args.replaced.now)) same) ∙ c.loop-i.invariant.pages;
      left = c.loop-i.invariant.left ∙ ap length same;
      within = c.loop-i.invariant.within;
      bound = omega (arith, c.loop-i.invariant.bound);
    }

pub returns : goal.returns
returns c = undo_ends c.loop-i.pages.items _ c.args.entries.now c.args.replaced.now c.loop-i.i c.loop-i.left (omega (arith, c.loop-i-test.false)) c.loop-i.invariant.left c.loop-i.invariant.pages
