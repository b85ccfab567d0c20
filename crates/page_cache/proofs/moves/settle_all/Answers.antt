use Rattle.std.proofs.Common.{sym, ◌∙◌, ◌+◌, drop, get_or}
use Rattle.page_cache.proofs.MoveLemmas.{settles_first, next_left, used_still, used_step, moved_step}
use Rattle.page_cache.proofs.moves.settle_all.Goals as goal
use Rattle.page_cache.proofs.moves.settle_all.Goals.{then-not-is_used, else-not-is_used}

pub loop-page-init : goal.loop-page-init
loop-page-init c = settles_first c.args.asks _ c.args.recent.now c.args.written.now c.requires.distinct c.requires.rising c.requires.apart c.requires.there c.limit.ensures.whole.few

pub loop-page-preserved : goal.loop-page-preserved
loop-page-preserved c =
    elim c.if-not-is_used.branch [
      | then-not-is_used w ↦ rw (w.pages-is, w.recent-is) (moved_step c.args.asks c.args.pages.now.entries c.loop-page.pages.entries w.settle.new.pages.entries c.args.recent.now c.loop-page.recent w.settle.new.recent c.args.written.now
          (drop (c.loop-page.page-index + 1) c.args.written.now) (get_or c.args.written.now c.loop-page.page-index 0)
          (next_left c.args.asks c.args.pages.now.entries c.loop-page.pages.entries c.args.recent.now c.loop-page.recent c.args.written.now c.loop-page.page-index c.loop-page-test.true c.loop-page.invariant)
          (sym (used_still c.args.asks c.args.pages.now.entries c.loop-page.pages.entries w.settle.new.pages.entries c.args.recent.now c.loop-page.recent w.settle.new.recent c.args.written.now (drop (c.loop-page.page-index + 1) c.args.written.now) (get_or c.args.written.now c.loop-page.page-index 0)
          (next_left c.args.asks c.args.pages.now.entries c.loop-page.pages.entries c.args.recent.now c.loop-page.recent c.args.written.now c.loop-page.page-index c.loop-page-test.true c.loop-page.invariant)) ∙ sym c.is_used.ensures ∙ w.if-not-is_used.true) w.settle.ensures.moves w.settle.ensures.len)
      | else-not-is_used w ↦ rw (w.pages-is, w.recent-is) (used_step c.args.asks c.args.pages.now.entries c.loop-page.pages.entries c.loop-page.pages.entries c.args.recent.now c.loop-page.recent c.loop-page.recent c.args.written.now
          (drop (c.loop-page.page-index + 1) c.args.written.now) (get_or c.args.written.now c.loop-page.page-index 0)
          (next_left c.args.asks c.args.pages.now.entries c.loop-page.pages.entries c.args.recent.now c.loop-page.recent c.args.written.now c.loop-page.page-index c.loop-page-test.true c.loop-page.invariant)
          (sym (used_still c.args.asks c.args.pages.now.entries c.loop-page.pages.entries c.loop-page.pages.entries c.args.recent.now c.loop-page.recent c.loop-page.recent c.args.written.now (drop (c.loop-page.page-index + 1) c.args.written.now) (get_or c.args.written.now c.loop-page.page-index 0)
          (next_left c.args.asks c.args.pages.now.entries c.loop-page.pages.entries c.args.recent.now c.loop-page.recent c.args.written.now c.loop-page.page-index c.loop-page-test.true c.loop-page.invariant)) ∙ sym c.is_used.ensures ∙ w.if-not-is_used.false))
    ]
