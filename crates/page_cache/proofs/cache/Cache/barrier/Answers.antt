use Rattle.std.proofs.Common.{sym, ◌∙◌, ◌≡◌, true, arith, is_ok}
use Rattle.page_cache.proofs.EntryLemmas.{on_ok}
use Rattle.page_cache.proofs.FixedLemmas.{fixed_is, fixed_kept, sorted_rising}
use Rattle.page_cache.proofs.cache.Cache.barrier.Goals as goal

pub settle_all-requires-clause-rising : goal.settle_all-requires-clause-rising
settle_all-requires-clause-rising g c h =
    let ok : is_ok c.sort_unstable.result ≡ true = sym c.is_ok-sorted.ensures.value ∙ h in
    rw c.as_slice.ensures.keys (sorted_rising c.sort_unstable.new.self.keys (on_ok c.sort_unstable.result _ ok c.sort_unstable.ensures.sorted) c.as_slice.ensures.unique)

pub invariant_of-self-2 : goal.invariant_of-self-2
invariant_of-self-2 g c = rw c.forget_written.ensures.empty (fixed_kept _ c.settle_all.new.recent c.settle_all.new.pages.entries _ _ _ c.as_slice.result.now c.self.invariant
    (λ q. rw c.as_slice.ensures.keys (c.sort_unstable.ensures.reordered.2 q)) c.settle_all.ensures
    (omega (arith, c.forget_written.ensures.room, c.sort_unstable.ensures.room.0, c.sort_unstable.ensures.reordered.1)))

pub returns-clause-ok : goal.returns-clause-ok
returns-clause-ok g c = rw (c.forget_written.ensures.empty, ← c.self.view_is) (fixed_is _ c.settle_all.new.recent c.settle_all.new.pages.entries _ c.as_slice.result.now
    (λ q. rw c.as_slice.ensures.keys (c.sort_unstable.ensures.reordered.2 q)) c.settle_all.ensures c.saturating_add-self-inside.ensures)
